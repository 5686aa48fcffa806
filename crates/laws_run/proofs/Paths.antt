-- A path is what reading does to a state until it gives an item: it moves on from character to character, and goes to the next line or
-- into a comment's next level. What a path keeps is shown here once, for every reader and every rule. Rests on what each change of a
-- state keeps (Moving).
use Prim.Native.Nat.{ℕ, ◌+◌, ◌-◌, ◌*◌, ◌≤◌, ◌<◌}
use mathlib.Core.Path.{◌≡◌, refl, ◌∙◌}
use native.Mathlib.Omega.{arith}
use lib.ListN.{length}
use Rattle.definition.specs.Basics.{Bytes, Turn}
use Rattle.definition.specs.State.{advance, new_line, deeper}
use Rattle.definition.specs.Item.{Step}
use Rattle.definition.specs.declared.State.{State}
use Rattle.lemmas.proofs.Loops.{Leads, leads_map, Falls, Any}
use Rattle.state.specs.Sound.{Stands}
use Rattle.laws_progress.proofs.Walks.{rest, Walk, Onward, walk_forward, walk_within, Clean, clean_walk}
use Rattle.laws_run.specs.Left.{level}
use Rattle.laws_run.specs.Budget.{most}
use Rattle.laws_run.proofs.Moving.{stands_clean, advance_stands, new_line_stands, deeper_stands}

-- from i one moves on to j: no further than the text's end, and to a character where a character stands at i
pub record Ahead (s : Bytes) (i j : ℕ) : Type 0 where
  pub forward : i ≤ j
  pub within : i ≤ length s → j ≤ length s
  pub clean : Clean s i → Clean s j

-- staying there does
pub ahead_here : {s : Bytes} {i : ℕ} → Ahead s i i
ahead_here = record { forward = omega arith; within = λ h. h; clean = λ c. c }

-- so does a walk by whole characters
pub walk_ahead : {s : Bytes} {i j : ℕ} → Walk s i j → Ahead s i j
walk_ahead u = record { forward = walk_forward u; within = walk_within u; clean = clean_walk u }

-- ---- paths

-- from st one reads on to a state: nothing is read; or at the end of a path one moves on, to another line by a byte or more, or in a
-- comment by two bytes to its next level
pub data Path (s : Bytes) (st : State) : State → Type 0 where
  stay : Path s st st
  on : {a : State} (j : ℕ) → Path s st a → Ahead s a.offset j → Path s st (advance a j)
  line : {a : State} (j : ℕ) → Path s st a → Ahead s a.offset j → a.offset < j → Path s st (new_line (advance a j))
  inner : {a : State} → Path s st a → a.mode ≡ 1 → Ahead s a.offset (a.offset + 2) → a.offset + 2 ≤ length s
      → Path s st (deeper (advance a (a.offset + 2)))

-- one path after another
pub path_path : {s : Bytes} {st a b : State} → Path s st a → Path s a b → Path s st b
path_path p stay = p
path_path p (on j q h) = on j (path_path p q) h
path_path p (line j q h l) = line j (path_path p q) h l
path_path p (inner q m h w) = inner (path_path p q) m h w

-- ---- what a path keeps

pub record Reads (s : Bytes) (st b : State) : Type 0 where
  pub ahead : Ahead s st.offset b.offset
  pub fewer : level s b ≤ level s st
  -- of two bytes a level takes one at most
  pub less : st.offset ≤ length s → 2 * level s b + (b.offset - st.offset) ≤ 2 * level s st
  pub deep : st.depth ≤ b.depth
  pub mode : b.mode ≡ st.mode
  pub comment : b.comment ≡ st.comment
  -- for each byte that is read 399 bytes of payload can be written: the budget has 400, of which a level takes two for two bytes
  pub spent : st.offset ≤ length s → 399 * (b.offset - st.offset) + most s b ≤ most s st

module _ {s : Bytes} where
  -- one more move
  ahead_ahead : {i j k : ℕ} → Ahead s i j → Ahead s j k → Ahead s i k
  ahead_ahead h g = record {
    forward = omega (arith, h.forward, g.forward);
    within = λ l. g.within (h.within l);
    clean = λ l. g.clean (h.clean l);
  }

  -- on the same level
  reads_on : {st a b : State} → Reads s st a → Ahead s a.offset b.offset → b.depth ≡ a.depth → b.mode ≡ a.mode → b.comment ≡ a.comment
      → Reads s st b
  reads_on r h d m c = record {
    ahead = ahead_ahead r.ahead h;
    fewer = omega (arith, r.fewer, h.forward);
    less = λ l. let k = r.ahead.within l in omega (arith, r.less l, h.forward, h.within k, r.ahead.forward);
    deep = omega (arith, r.deep);
    mode = m ∙ r.mode;
    comment = c ∙ r.comment;
    spent = λ l. let k = r.ahead.within l in omega (arith, r.spent l, h.forward, h.within k, r.ahead.forward);
  }

  pub path_reads : {st b : State} → Path s st b → Reads s st b
  path_reads stay = record {
    ahead = ahead_here;
    fewer = omega arith;
    less = λ _. omega arith;
    deep = omega arith;
    mode = refl;
    comment = refl;
    spent = λ _. omega arith;
  }
  path_reads (on j q h) = reads_on (path_reads q) h refl refl refl
  path_reads (line j q h l) = reads_on (path_reads q) h refl refl refl
  path_reads (inner q m h w) =
      let r = path_reads q in
      record {
        ahead = ahead_ahead r.ahead h;
        fewer = omega (arith, r.fewer);
        less = λ l. omega (arith, r.less l, r.ahead.forward);
        deep = omega (arith, r.deep);
        mode = r.mode;
        comment = r.comment;
        spent = λ l. omega (arith, r.spent l, r.ahead.forward);
      }

  -- a sound state stays sound
  pub path_stands : {st b : State} → Path s st b → Stands s st → Stands s b
  path_stands stay h = h
  path_stands (on j q a) h = let k = path_stands q h in advance_stands k j (a.clean (stands_clean k)) a.forward
  path_stands (line j q a l) h = let k = path_stands q h in new_line_stands k j (a.clean (stands_clean k)) l
  path_stands (inner q m a w) h = let k = path_stands q h in deeper_stands k m (a.clean (stands_clean k))

-- ---- loops

-- a turn goes on from st to b, and where C holds something of the text is read
pub record Goes (s : Bytes) (C : Type 0) (st b : State) : Type 0 where
  pub path : Path s st b
  pub moves : C → rest s b.offset < rest s st.offset

-- a walk of a character or more, on the same line or to the next
pub goes_on : {s : Bytes} {C : Type 0} (st : State) {j : ℕ} → Onward s st.offset j → Goes s C st (advance st j)
goes_on st {j} o = record { path = on j stay (walk_ahead o.walk); moves = λ _. omega (arith, o.past, o.within) }

pub goes_line : {s : Bytes} {C : Type 0} (st : State) {j : ℕ} → Onward s st.offset j → Goes s C st (new_line (advance st j))
goes_line st {j} o = record { path = line j stay (walk_ahead o.walk) o.past; moves = λ _. omega (arith, o.past, o.within) }

-- where C holds a loop ends whose turns go on
pub going_falls : {A : Type 0} (s : Bytes) (state : A → State) (turn : A → Turn A Step) (C : State → Type 0) (Q : A → Step → Type 0)
    → ((st b : State) → Path s st b → C st → C b)
    → ((a : A) → Leads (λ b. Goes s (C (state a)) (state a) (state b)) (Q a) (turn a))
    → Falls turn (λ a. C (state a)) (λ a. rest s (state a).offset) Any
going_falls s state turn C Q keeps leads =
    record { at = λ a c. leads_map (λ b g. (keeps _ _ g.path c, g.moves c)) (λ t _. tt) (turn a) (leads a) }

-- from a sound state it comes to one, in the same mode
pub goes_stands : {s : Bytes} {C : Type 0} {st b : State} → Goes s C st b → Stands s st → Stands s b × (b.mode ≡ st.mode)
goes_stands g h = (path_stands g.path h, (path_reads g.path).mode)
