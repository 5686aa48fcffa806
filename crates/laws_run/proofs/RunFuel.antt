-- `run_items` has fuel enough: each item leaves less to read, in bytes and in levels of a comment, or ends the reading. Rests on what every
-- step keeps (Steps).
use Prim.Native.Nat.{ℕ, ◌-◌, ◌*◌, ◌<◌}
use mathlib.Core.Path.{◌≡◌, refl, ap}
use mathlib.Core.Bool.{true, false}
use mathlib.Core.List.{List}
use native.Mathlib.Omega.{arith}
use lib.Dec.{eqb}
use lib.ListN.{length}
use borrow.Author.Tests.{eqb-false}
use Rattle.definition.specs.Basics.{Bytes, Turn, loop}
use Rattle.definition.specs.Item.{record_size}
use Rattle.definition.specs.Token.{step}
use Rattle.definition.specs.Run.{Outcome, Writing, stopped, run_turn, most_items, run_items}
use Rattle.definition.specs.declared.State.{State}
use Rattle.lemmas.proofs.Loops.{says, Leads, Falls, Any, loop_same, loop_unroll_by}
use Rattle.lemmas.proofs.Cases.{by_test, by_lt}
use Rattle.laws_run.specs.Left.{awake, left, Opened}
use Rattle.laws_run.specs.Going.{run_from}
use Rattle.laws_run.proofs.FormLaws.{awake_small}
use Rattle.laws_run.proofs.Steps.{step_kept}

module _ (s name f : Bytes) where
  -- a turn of `run_items`
  pub run_falls : Falls (run_turn s name f) (λ a. Opened a.state) (λ a. left s a.state) Any
  unfolding run_turn
  run_falls = record { at = turn }
    where
      turn : (a : Writing) → Opened a.state → Leads (λ b. Opened b.state × (left s b.state < left s a.state)) Any (run_turn s name f a)
      turn a o =
          by_test L (eqb a.state.mode 2) (λ _. tt) λ m.
          by_lt L (length a.records - record_size * a.count) record_size (λ _. tt) λ _.
          by_lt L (length a.payload - a.used) (length (step s name f a.state).payload) (λ _. tt) λ _.
          let g = (step_kept s name f a.state o (eqb-false a.state.mode 2 m)).gives in
          let w : awake a.state.mode ≡ 1 = ap (λ t. elim t as (λ _. ℕ) [ true ↦ 0 | false ↦ 1 ]) m in
          (g.opened o, omega (arith, g.less, w))
        where
          L : Turn Writing Outcome → Type 0
          L = Leads (λ b. Opened b.state × (left s b.state < left s a.state)) Any

  -- its fuel is above what falls
  items_enough : (st : State) → left s st < most_items s st
  items_enough st = omega (arith, awake_small st.mode)

  -- more fuel and another `out` change nothing
  pub run_enough : (out : Writing → Outcome) (n : ℕ) (a : Writing) → Opened a.state → left s a.state < n → loop (run_turn s name f) out n a ≡ run_from s name f a
  unfolding run_from
  run_enough out n a o h = loop_same run_falls out (stopped 0) n (most_items s a.state) a o h (items_enough a.state)

  -- the loop is what its first turn says
  pub run_unroll : (a : Writing) → Opened a.state → run_from s name f a ≡ says (run_turn s name f a) (run_from s name f)
  unfolding run_from
  run_unroll a o = loop_unroll_by run_falls (stopped 0) (λ b. most_items s b.state) (λ b _. items_enough b.state) a o

  -- what `run_items` is, by its loop
  pub run_is : (st : State) (rs : List ℕ) (ps : Bytes) → run_items s name f st rs ps ≡ run_from s name f (record { state = st; records = rs; payload = ps; count = 0; used = 0 })
  unfolding run_items run_from
  run_is st rs ps = refl
