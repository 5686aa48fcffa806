-- `put` writes the byte if it stays.
use mathlib.Core.Path.{sym, ◌∙◌}
use native.Mathlib.Nat.{add-zero}
use native.Mathlib.Omega.{arith}
use Rattle.trim_lines.proofs.put.Goals as goal

pub bounds-out-at : goal.bounds-out-at
bounds-out-at c = c.requires (sym c.keeps.ensures ∙ c.if-keeps.true)

pub overflow_add-result : goal.overflow_add-result
overflow_add-result c = let h = c.requires (sym c.keeps.ensures ∙ c.if-keeps.true) in omega (arith, h)

pub returns-then-keeps : goal.returns-then-keeps
returns-then-keeps c = let e = sym c.keeps.ensures ∙ c.if-keeps.true in record { bytes = rw e; next = rw e }

pub returns : goal.returns
returns c = let e = sym c.keeps.ensures ∙ c.if-keeps.false in record { bytes = rw e; next = rw e (sym (add-zero _)) }
