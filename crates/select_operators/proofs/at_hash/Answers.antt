-- `at_hash` is the best of places 1, 3 and 36.
use mathlib.Core.Path.{refl}
use Rattle.definition.specs.Tables.{cps}
use Rattle.definition.specs.Utf8.{encode, encode_all}
use Rattle.select_places.proofs.Chains.{kept, placed}
use Rattle.select_operators.proofs.at_hash.Goals as goal

pub returns : goal.returns
unfolding cps encode_all encode
returns c =
    kept c.keep.ensures
    (placed _ _ c.try_place-best.ensures
    (kept c.first-best.ensures refl c.early_literal.ensures)
    c.lit_then_ident.ensures)
    c.op_token.ensures
