-- Three backticks end the blob.
use mathlib.Core.Path.{sym, ◌∙◌}
use Rattle.definition.specs.Utf8.{encode, encode_all}
use Rattle.definition.specs.Tables.{cps}
use Rattle.read_blob.proofs.MoveLaws.{move_close, move_inside}
use Rattle.read_blob.proofs.blob_move.Goals as goal

pub returns-in_default : goal.returns-in_default
unfolding cps encode_all encode
returns-in_default c = move_inside _ _ (sym c.match_lit.ensures ∙ c.in_default.is) c.inside_move.ensures

pub returns : goal.returns
unfolding cps encode_all encode
returns c = move_close _ _ (sym c.match_lit.ensures ∙ c.in-Some.is)
