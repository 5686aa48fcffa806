-- The header's positions are asked for one after the other.
use Rattle.reader.proofs.Spanning.{end_asked}
use Rattle.rule_readers.proofs.ReadOn.{header_names}
use Rattle.rule_readers.proofs.header_at.Goals as goal

pub pos_of-end-requires : goal.pos_of-end-requires
pos_of-end-requires c = end_asked c.requires.0 _ c.pos_of-start.ensures

pub returns : goal.returns
returns c = header_names c.requires.0 _ c.pos_of-start.ensures c.pos_of-end.ensures
