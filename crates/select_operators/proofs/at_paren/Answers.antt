-- `at_paren` is the better of places 28 and 36.
use mathlib.Core.Path.{refl}
use Rattle.definition.specs.Tables.{cps}
use Rattle.definition.specs.Utf8.{encode, encode_all}
use Rattle.select_places.proofs.Chains.{kept, placed}
use Rattle.select_operators.proofs.at_paren.Goals as goal

pub returns : goal.returns
unfolding cps encode_all encode
returns c =
    kept c.keep.ensures
    (placed _ _ c.alone-best.ensures refl c.match_lit.ensures)
    c.op_token.ensures
