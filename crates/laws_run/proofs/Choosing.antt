-- Where a step gives its item: `chosen_at` and `given_at` of document 02's second run. The first is a loop with the turns of `next_token`:
-- its fuel never runs out, one comes there by a path, and the item is given there. Rests on what a turn says (Steps).
use Prim.Native.Nat.{ℕ, ◌<◌}
use mathlib.Core.Path.{◌≡◌, refl, sym, ap, ◌∙◌}
use native.Mathlib.Omega.{arith}
use lib.Dec.{eqb}
use borrow.Author.Tests.{eq-eqb, ne_eqb}
use Rattle.definition.specs.Basics.{Bytes, Turn, again, done, loop, fuel}
use Rattle.definition.specs.Item.{Step}
use Rattle.definition.specs.Token.{token_turn, next_token}
use Rattle.definition.specs.Utf16.{chosen_at, given_at}
use Rattle.definition.specs.declared.State.{State}
use Rattle.lemmas.proofs.Loops.{says, Leads, Falls, Any, loop_same, loop_unroll, loop_gives}
use Rattle.lemmas.proofs.Cases.{by_test}
use Rattle.state.specs.Sound.{Stands}
use Rattle.laws_progress.proofs.Walks.{rest}
use Rattle.laws_run.proofs.Paths.{Path, stay, path_path, path_reads, path_stands, Goes}
use Rattle.laws_run.proofs.Steps.{turn_skips, token_unroll}

module _ (s name f : Bytes) where
  -- a turn of `chosen_at` by one of `next_token`: instead of an item it answers the state a where that is given
  abbrev here_instead : State → Turn State Step → Turn State State
  here_instead a t = elim t [ again b ↦ again b | done r ↦ done a ]

  abbrev choosing_turn : State → Turn State State
  choosing_turn a = here_instead a (token_turn s name f a)

  -- from st on one has come to a, where the next token is still st's
  record Coming (st a : State) : Type 0 where
    path : Path s st a
    same : next_token s name f a ≡ next_token s name f st

  -- and it is given there
  pub record Given (st a : State) : Type 0 where
    pub path : Path s st a
    pub gives : token_turn s name f a ≡ done (next_token s name f st)

  choosing_falls : (st : State) → Falls choosing_turn (Coming st) (λ a. rest s a.offset) (Given st)
  choosing_falls st = record { at = λ a p. go a p (token_turn s name f a) refl (turn_skips s name f a) }
    where
      go : (a : State) → Coming st a → (t : Turn State Step) → token_turn s name f a ≡ t → Leads (Goes s (Unit {0}) a) Any t
          → Leads (λ b. Coming st b × (rest s b.offset < rest s a.offset)) (Given st) (here_instead a t)
      go a p (again b) e g =
          let first : next_token s name f a ≡ next_token s name f b = token_unroll s name f a ∙ ap (λ t. says t (next_token s name f)) e in
          (record { path = path_path p.path g.path; same = sym first ∙ p.same }, g.moves tt)
      go a p (done t) e g =
          let first : next_token s name f a ≡ t = token_unroll s name f a ∙ ap (λ t. says t (next_token s name f)) e in
          record { path = p.path; gives = e ∙ ap done (sym first ∙ p.same) }

  coming : (st : State) → Coming st st
  coming st = record { path = stay; same = refl }

  -- more fuel and another `out` change nothing
  pub chosen_enough : (out : State → State) (n : ℕ) (st : State) → rest s st.offset < n → loop choosing_turn out n st ≡ chosen_at s name f st
  unfolding chosen_at
  chosen_enough out n st h = loop_same (choosing_falls st) out (λ a. a) n (fuel s) st (coming st) h (omega arith)

  -- `chosen_at` is what its first turn says
  pub chosen_unroll : (st : State) → chosen_at s name f st ≡ says (choosing_turn st) (chosen_at s name f)
  unfolding chosen_at
  chosen_unroll st = loop_unroll (choosing_falls st) (λ a. a) (fuel s) st (coming st) (omega arith)

  -- After what is skipped it is where one comes from there.
  pub chosen_again : (st b : State) → token_turn s name f st ≡ again b → chosen_at s name f st ≡ chosen_at s name f b
  chosen_again st b e = chosen_unroll st ∙ ap (λ t. says (here_instead st t) (chosen_at s name f)) e

  -- Where an item is given, it is there.
  pub chosen_here : (st : State) (t : Step) → token_turn s name f st ≡ done t → chosen_at s name f st ≡ st
  chosen_here st t e = chosen_unroll st ∙ ap (λ t. says (here_instead st t) (chosen_at s name f)) e

  -- The next token is given at `chosen_at`, to which one comes by a path.
  pub chosen_given : (st : State) → Given st (chosen_at s name f st)
  unfolding chosen_at
  chosen_given st = loop_gives (choosing_falls st) (λ a. a) (fuel s) st (coming st) (omega arith)

  pub chosen_stands : (st : State) → Stands s st → st.mode ≡ 0 → Stands s (chosen_at s name f st) × ((chosen_at s name f st).mode ≡ 0)
  chosen_stands st h m = let p = (chosen_given st).path in (path_stands p h, (path_reads p).mode ∙ m)

  -- ---- `given_at`

  -- between comments, and in one
  pub given_between : (st : State) → st.mode ≡ 0 → given_at s name f st ≡ chosen_at s name f st
  unfolding given_at
  given_between st m = rw (given_at, ne_eqb st.mode 1 (λ e. absurd (omega (arith, m, e))))

  pub given_inside : (st : State) → st.mode ≡ 1 → given_at s name f st ≡ st
  unfolding given_at
  given_inside st m = rw (given_at, eq-eqb st.mode 1 m)

  -- One comes there by a path,
  pub given_path : (st : State) → Path s st (given_at s name f st)
  unfolding given_at
  given_path st = by_test (Path s st) (eqb st.mode 1) (λ _. stay) (λ _. (chosen_given st).path)

  -- so that it is sound too, and in the same mode.
  pub given_stands : (st : State) → Stands s st → Stands s (given_at s name f st) × ((given_at s name f st).mode ≡ st.mode)
  given_stands st h = let p = given_path st in (path_stands p h, (path_reads p).mode)
