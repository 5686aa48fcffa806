-- The latest end of an integer. Rests on the definitions, and on a law of the later of two ends.
use Rattle.std.specs.Prelude.{Option}
use Prim.Native.Nat.{ℕ}
use mathlib.Core.Path.{◌≡◌, sym, ap, ◌∙◌}
use Rattle.definition.specs.Basics.{Bytes}
use Rattle.definition.specs.Matchers.{later, max_list, match_integer, match_xinteger, any_integer_ends}
use Rattle.match_number.specs.declared.IntegerEnds.{IntegerEnds}
use Rattle.match_number.specs.IntegerParts.{integer_ends}
use Rattle.match_lit.proofs.ByteLaws.{later_nothing}

-- The later of both ends of an integer is the latest of their list.
pub ends_latest : (s : Bytes) (i : ℕ) {ends : IntegerEnds} {r : Option ℕ} → r ≡ later ends.plain ends.based → ends ≡ integer_ends s i → r ≡ max_list (any_integer_ends s i)
unfolding max_list any_integer_ends
ends_latest s i p q = p ∙ ap (λ (e : IntegerEnds). later e.plain e.based) q ∙ ap (later (match_integer s i)) (sym (later_nothing (match_xinteger s i)))
