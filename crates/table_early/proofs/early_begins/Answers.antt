-- `early_begins`: it goes by the first byte.
use Prim.Native.Nat.{ℕ}
use mathlib.Core.Path.{◌≡◌, ◌∙◌}
use lib.Dec.{eqb}
use Rattle.table_early.specs.Pairs.{early_pair}
use borrow.Author.Tests.{eq-eqb, ne_eqb}
use Rattle.table_early.proofs.early_begins.Goals as goal

-- A byte that is none of the first three is to be a backtick.
backtick : (a b : ℕ) → (a ≡ 115 → ⊥) → (a ≡ 35 → ⊥) → (a ≡ 37 → ⊥) → eqb a 96 ≡ early_pair a b
backtick a b p q r = simp (ne_eqb a 115 p, ne_eqb a 35 q, ne_eqb a 37 r)

pub returns-then-a-eq115 : goal.returns-then-a-eq115
returns-then-a-eq115 c = simp (eq-eqb _ _ c.if-a-eq115.true)

pub returns-then-a-eq35 : goal.returns-then-a-eq35
returns-then-a-eq35 c = c.between.ensures ∙ simp (ne_eqb _ _ c.if-a-eq115.false, eq-eqb _ _ c.if-a-eq35.true)

pub returns-then-a-eq37 : goal.returns-then-a-eq37
returns-then-a-eq37 c = simp (ne_eqb _ _ c.if-a-eq115.false, ne_eqb _ _ c.if-a-eq35.false, eq-eqb _ _ c.if-a-eq37.true)

pub returns : goal.returns
returns c = backtick _ c.args.b c.if-a-eq115.false c.if-a-eq35.false c.if-a-eq37.false
