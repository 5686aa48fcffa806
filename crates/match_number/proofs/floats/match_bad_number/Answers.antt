-- `match_bad_number` is the definition's `match_bad_number`, from the ends of the digits and of their fraction.
use Rattle.match_number.proofs.NumberLaws.{bad_number_of}
use Rattle.match_number.proofs.floats.match_bad_number.Goals as goal

pub returns : goal.returns
returns c = bad_number_of _ _ _ c.bad_number_after.ensures c.match_integer-digits.ensures c.floatp_after-float.ensures
