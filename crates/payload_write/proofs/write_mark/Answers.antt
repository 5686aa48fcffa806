-- The digits stand between the parentheses, which are written last.
use Rattle.definition.specs.Utf8.{encode, encode_all}
use Rattle.definition.specs.Tables.{cps}
use Rattle.payload_write.proofs.Parts.{on_both_sides, mark_room}
use Rattle.payload_write.proofs.write_mark.Goals as goal

pub bounds-out-digits : goal.bounds-out-digits
bounds-out-digits c =
    mark_room c.args.out.now _ _ 40 _ c.requires c.show_into-digits.ensures

pub returns : goal.returns
unfolding cps encode_all encode
returns c =
    let w = c.show_into-digits.ensures in
    on_both_sides _ _ _ _ _ _ w.all c.requires w.bytes
