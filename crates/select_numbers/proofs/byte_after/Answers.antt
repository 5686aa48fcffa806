-- `byte_after` is the later of what is found for u and y, and for z.
use mathlib.Core.Path.{◌∙◌}
use Rattle.definition.specs.Tables.{cps}
use Rattle.definition.specs.Utf8.{encode, encode_all}
use Rattle.match_number.proofs.IntegerLaws.{later_of, ends_of, suffix_is, usuffix_is}
use Rattle.select_numbers.proofs.byte_after.Goals as goal

pub returns : goal.returns
unfolding cps encode_all encode
returns c =
    let ends = c.requires in
    later_of c.later.ensures
    (ends_of _ _ _ c.usuffix_after.ensures ends ∙ usuffix_is _ _ _)
    (ends_of _ _ _ c.suffix_after.ensures ends ∙ suffix_is _ _ _)
