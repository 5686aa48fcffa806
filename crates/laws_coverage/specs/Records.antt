-- K4 in document 02's words, over the records that runs wrote into their buffers, however they were split. s is the text, name the file's
-- name, f the class file, g the state that the first run was given, l what the runs wrote (crate `laws_run`, specs/Split.antt).
use Rattle.std.specs.Prelude.{ℕ, ◌+◌, ◌<◌, ◌≡◌, List, [], ◌∷◌, ◌++◌, map, ◌⊎◌, length, get_or}
use Rattle.definition.specs.Basics.{Bytes, done}
use Rattle.definition.specs.Kinds.{kind}
use Rattle.definition.specs.Item.{Step}
use Rattle.definition.specs.Token.{token_turn}
use Rattle.definition.specs.Items.{Told, told}
use Rattle.definition.specs.Reading.{Reached}
use Rattle.definition.specs.declared.State.{State}
use Rattle.laws_coverage.specs.Coverage.{takings, Part, skips_in, held, OnlySkips, Forward}

-- ---- what the records say

-- words 16 and 17, which stand one earlier where word 6 is left out
abbrev pub told_span : Told → Part
told_span x = (get_or x.0 15 0, get_or x.0 16 0)

abbrev pub told_spans : List Told → List Part
told_spans l = map told_span l

-- the kind of the last item, word 1; k where there is none
abbrev pub last_kind : ℕ → List Told → ℕ
last_kind k [] = k
last_kind k (x ∷ l) = last_kind (get_or x.0 1 0) l

-- how many times byte b is counted, by the records and by what the reading skipped
abbrev pub counted : Bytes → Bytes → Bytes → State → List Told → ℕ → ℕ
counted s name f g l b = held b (told_spans l) + held b (skips_in (takings s name f g))

-- ---- what holds of a text that is read from its first byte until the reading has ended

-- "A text that ends in ERROR is covered likewise up to the first byte of the choice that failed": a run comes to the state st where that
-- choice was made, and the ERROR that it gives is written last
pub record UpToFailed (s name f : Bytes) (g : State) (l : List Told) : Type 0 where
  pub st : State
  pub reached : Reached s name f g st
  pub outside : st.mode ≡ 0
  pub within : st.offset < length s
  pub t : Step
  pub gives : token_turn s name f st ≡ done t
  pub fails : t.item.kind ≡ kind "ERROR"
  pub before : List Told
  pub is_last : l ≡ before ++ (told t ∷ [])
  pub once : (b : ℕ) → b < st.offset → counted s name f g l b ≡ 1

-- `covered` (proofs/Records.antt) shows it of runs one after another of which the first is given a state at offset 0 and isn't refused, and
-- the last hands back a state that has ended
pub record Covered (s name f : Bytes) (g : State) (l : List Told) : Type 0 where
  -- the last item is EOF or ERROR, unless the first run was given a state that has ended
  pub ends : (g.mode ≡ 2 → ⊥) → (last_kind 0 l ≡ kind "EOF") ⊎ (last_kind 0 l ≡ kind "ERROR")
  -- "For a text .. whose last item is EOF, every byte is counted once and only once: in one item's span, or in what the white, line-end or
  -- `// IN F*:` rule took"
  pub eof : last_kind 0 l ≡ kind "EOF" → (b : ℕ) → b < length s → counted s name f g l b ≡ 1
  pub error : last_kind 0 l ≡ kind "ERROR" → UpToFailed s name f g l
  -- what was skipped is what these three rules took
  pub skips : OnlySkips s f (takings s name f g)
  -- "Spans never go backwards"
  pub forward : Forward 0 (told_spans l)
