-- The code point is what stands after the quote.
use Rattle.definition.specs.Kinds.{kind, kind_names, number_from}
use Rattle.reader.proofs.Spanning.{end_asked}
use Rattle.rule_readers.proofs.Characters.{char_does}
use Rattle.rule_readers.proofs.character_literals.char_lit.Goals as goal

pub pos_of-end-requires : goal.pos_of-end-requires
pos_of-end-requires c = end_asked c.requires _ c.pos_of-start.ensures

pub returns : goal.returns
unfolding kind kind_names number_from
returns c = char_does c.requires c.pos_of-start.ensures c.pos_of-end.ensures c.advance-after.ensures c.unescape-c.ensures c.token.ensures
