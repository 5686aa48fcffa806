-- The key is the definition's sum; a byte is below 256, so that nothing wraps.
use native.Mathlib.Omega.{arith}
use Prim.Native.Nat.{◌-◌}
use mathlib.Core.Path.{refl}
use lib.ListN.{length}
use Rattle.table_keywords.specs.Places.{key}
use Rattle.table_keywords.proofs.Chains.{key_empty}
use Rattle.table_keywords.proofs.key.Goals as goal

pub returns-then-id-eq0 : goal.returns-then-id-eq0
returns-then-id-eq0 c = key_empty _ c.if-id-eq0.true

pub overflow_cast-first : goal.overflow_cast-first
overflow_cast-first c = omega (arith, c.type_inv.id 0)

pub overflow_cast-last : goal.overflow_cast-last
overflow_cast-last c = omega (arith, c.type_inv.id (length c.args.id.now - 1))

pub overflow_add-result : goal.overflow_add-result
overflow_add-result c = omega (arith, c.type_inv.id 0, c.type_inv.id (length c.args.id.now - 1))

pub overflow_add-result-2 : goal.overflow_add-result-2
overflow_add-result-2 c = omega (arith, c.type_inv.id 0, c.type_inv.id (length c.args.id.now - 1))

pub returns : goal.returns
unfolding key
returns c = refl
