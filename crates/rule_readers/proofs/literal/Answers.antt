-- The literal is read from after its quote, whose position is asked for before.
use Rattle.rule_readers.proofs.ReadOn.{before_literal, literal_reads}
use Rattle.rule_readers.proofs.literal.Goals as goal

pub string_lit-requires : goal.string_lit-requires
string_lit-requires c = before_literal c.requires.0 c.moved.ensures c.requires.1

pub returns : goal.returns
returns c = literal_reads c.requires.0 c.moved.ensures c.pos_of-here.ensures c.string_lit.ensures
