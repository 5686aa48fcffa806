-- `at_digit` is the best of places 16 to 27: the ends of the digits and of the fraction are found once and handed to each.
use mathlib.Core.Path.{ap}
use Rattle.match_number.specs.declared.IntegerEnds.{IntegerEnds}
use Rattle.match_number.proofs.NumberLaws.{real_of, bad_number_of}
use Rattle.select_places.proofs.Chains.{placed}
use Rattle.select_numbers.proofs.at_digit.Goals as goal

pub at_integers-best-requires : goal.at_integers-best-requires
at_integers-best-requires c = c.any_integer_ends-ends.ensures

pub returns : goal.returns
returns c =
    let float = c.floatp_after-float.ensures in
    let digits = ap (λ (x : IntegerEnds). x.plain) c.any_integer_ends-ends.ensures in
    placed _ _ c.try_place.ensures
    (placed _ _ c.try_place-best.ensures
    c.at_integers-best.ensures
    (real_of _ _ c.real_after.ensures digits float))
    (bad_number_of _ _ _ c.bad_number_after.ensures digits float)
