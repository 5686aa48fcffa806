-- `at_point` tries the tokens that begin with the byte, in the definition's order.
use Rattle.definition.specs.Utf8.{encode, encode_all}
use Rattle.definition.specs.Tables.{cps, op_tokens}
use Rattle.table_words.specs.Rows.{try_rows}
use Rattle.table_op_tokens.proofs.tokens_at.at_point.Goals as goal

pub returns : goal.returns
unfolding try_rows op_tokens cps encode_all encode
returns c = rw (c.try_word.ensures, c.try_word-best-4.ensures, c.try_word-best-3.ensures, c.try_word-best-2.ensures, c.try_word-best.ensures, c.nothing.ensures)
