-- Document 02, K4: "no byte can vanish". What the definition's one reading of a text takes, turn by turn, and that each byte is taken once.
-- s is the text, name the file's name, f the class file, g the state that the reading begins from.
use Rattle.std.specs.Prelude.{ℕ, zero, suc, ◌+◌, ◌≤◌, ◌<◌, ◌≡◌, true, false, ◌&&◌, List, [], ◌∷◌, ◌++◌, map, ◌⊎◌, ltb, leb, eqb, length, if◌then◌else◌}
use Rattle.definition.specs.Basics.{Bytes, again, done}
use Rattle.definition.specs.Kinds.{kind}
use Rattle.definition.specs.Select.{select}
use Rattle.definition.specs.Item.{Step}
use Rattle.definition.specs.Comment.{comment}
use Rattle.definition.specs.Token.{token_turn}
use Rattle.definition.specs.Run.{most_items}
use Rattle.definition.specs.Items.{steps_of}
use Rattle.definition.specs.Reading.{Reached}
use Rattle.definition.specs.declared.State.{State}

-- ---- what the reading takes

-- in one turn: what a choice passes, with its place, from its first byte up to where reading goes on; or an item, and the byte `at` where
-- the turn stood that gave it: where the choice was made, where a later piece of a comment begins, or for EOF where the text has ended
pub data Taking : Type 0 where
  skipped : (place from to : ℕ) → Taking
  gave : (at : ℕ) (t : Step) → Taking

-- the turn from st, and the state after it: in a comment its next piece, elsewhere one call of `next_token`
abbrev pub one_turn : Bytes → Bytes → Bytes → State → Taking × State
one_turn s name f st =
    let i = st.offset in
    elim (eqb st.mode 1) [
      | true ↦ let t = comment s i st in (gave i t, t.next)
      | false ↦ elim (token_turn s name f st) [
        | again next ↦ (skipped (select s f i).place i next.offset, next)
        | done t ↦ (gave i t, t.next)
      ]
    ]

-- turns until the reading has ended, n at most
unfoldable pub turns : Bytes → Bytes → Bytes → ℕ → State → List Taking
turns s name f zero st = []
turns s name f (suc n) st =
    elim (eqb st.mode 2) [
      | true ↦ []
      | false ↦ let t = one_turn s name f st in t.0 ∷ turns s name f n t.1
    ]

-- all of them: there are never so many, since each but the last reads a byte or more or leaves a level of a comment (proofs/Turns.antt)
unfoldable pub takings : Bytes → Bytes → Bytes → State → List Taking
takings s name f g = turns s name f (most_items s g) g

-- ---- the parts of the text that were taken

-- the bytes from the first number on that are below the second
abbrev pub Part : Type 0
Part = ℕ × ℕ

-- the items
unfoldable pub steps_in : List Taking → List Step
steps_in [] = []
steps_in (skipped place from to ∷ ts) = steps_in ts
steps_in (gave at t ∷ ts) = t ∷ steps_in ts

-- their spans: words 16 and 17 of their records
abbrev pub span : Step → Part
span t = (t.item.from, t.item.to)

abbrev pub spans_in : List Taking → List Part
spans_in ts = map span (steps_in ts)

-- what was skipped
unfoldable pub skips_in : List Taking → List Part
skips_in [] = []
skips_in (skipped place from to ∷ ts) = (from, to) ∷ skips_in ts
skips_in (gave at t ∷ ts) = skips_in ts

-- ---- counting

-- 1 for a byte of the part, 0 for any other
abbrev pub in_part : ℕ → Part → ℕ
in_part b (from, to) = if leb from b && ltb b to then 1 else 0

-- how many of the parts have byte b
unfoldable pub held : ℕ → List Part → ℕ
held b [] = 0
held b (p ∷ ps) = in_part b p + held b ps

-- how many times byte b is counted: "in one item's span, or in what the white, line-end or `// IN F*:` rule took"
abbrev pub times : ℕ → List Taking → ℕ
times b ts = held b (spans_in ts) + held b (skips_in ts)

-- the byte up to which bytes are counted: where the turn stood that gave the last item; o if there is no item. So it is the text's end if
-- that item is EOF, and "the first byte of the choice that failed" if it is an ERROR. No record of error 1, 2 or 7 has it: these sit
-- further on
unfoldable pub limit : ℕ → List Taking → ℕ
limit o [] = o
limit o (skipped place from to ∷ ts) = limit o ts
limit o (gave at t ∷ ts) = limit at ts

-- ---- what is promised of them

-- the place of "the white, line-end or `// IN F*:` rule": `RWhite`, `RNewline`, `RInFStar` (definition, `place_rules`)
abbrev pub SkipPlace : ℕ → Type 0
SkipPlace place = (place ≡ 7) ⊎ ((place ≡ 8) ⊎ (place ≡ 29))

-- each part that is skipped is what such a rule took: the choice there is of its place, and ends where the part ends
abbrev pub OnlySkips : Bytes → Bytes → List Taking → Type 0
OnlySkips s f [] = Unit {0}
OnlySkips s f (skipped place from to ∷ ts) =
    SkipPlace place × ((select s f from).place ≡ place) × ((select s f from).end ≡ to) × OnlySkips s f ts
OnlySkips s f (gave at t ∷ ts) = OnlySkips s f ts

-- "Spans never go backwards": the first begins at byte o or later, none ends before it begins, and the next begins where it ends or later
abbrev pub Forward : ℕ → List Part → Type 0
Forward o [] = Unit {0}
Forward o ((from, to) ∷ ps) = (o ≤ from) × (from ≤ to) × Forward to ps

-- t, which is given at the state st, is EOF, and the text has ended there; or it is an ERROR, given before the text's end, where there is a
-- choice
abbrev pub EofOrFailed : Bytes → State → Step → Type 0
EofOrFailed s st t =
    ((t.item.kind ≡ kind "EOF") × (st.offset ≡ length s)) ⊎ ((t.item.kind ≡ kind "ERROR") × (st.offset < length s))

-- what is taken last is such an item; a run comes to the state where it is given, outside a comment, and the limit is there
pub record Last (s name f : Bytes) (g : State) (ts : List Taking) : Type 0 where
  pub before : List Taking
  pub st : State
  pub t : Step
  pub is_last : ts ≡ before ++ (gave st.offset t ∷ [])
  pub reached : Reached s name f g st
  pub outside : st.mode ≡ 0
  pub gives : token_turn s name f st ≡ done t
  pub ends : EofOrFailed s st t
  pub limited : limit g.offset ts ≡ st.offset

pub record NothingLost (s name f : Bytes) (g : State) : Type 0 where
  -- "every byte is counted once and only once", from where the reading begins up to the limit; no byte outside is counted
  pub once : (b : ℕ) → times b (takings s name f g) ≡ in_part b (g.offset, limit g.offset (takings s name f g))
  pub skips : OnlySkips s f (takings s name f g)
  pub forward : Forward g.offset (spans_in (takings s name f g))
  -- the items are those that runs from g write, however they are split: the spans stand in the records (proofs/Records.antt)
  pub items : steps_in (takings s name f g) ≡ steps_of s name f g
  -- the limit is the text's end, or where the choice was made that failed; if the reading has ended at g nothing is taken
  pub last : (g.mode ≡ 2 → ⊥) → Last s name f g (takings s name f g)
