-- `mixfix` tries the mixfix words in the definition's order.
use Rattle.definition.specs.Utf8.{encode, encode_all}
use Rattle.definition.specs.Tables.{cps, mixfix_rules}
use Rattle.table_words.specs.Rows.{try_rows}
use Rattle.table_op_tokens.proofs.mixfix.mixfix.Goals as goal

pub returns : goal.returns
unfolding try_rows mixfix_rules cps encode_all encode
returns c = rw (
  c.try_word.ensures,
  c.try_word-best-7.ensures,
  c.try_word-best-6.ensures,
  c.try_word-best-5.ensures,
  c.try_word-best-4.ensures,
  c.try_word-best-3.ensures,
  c.try_word-best-2.ensures,
  c.try_word-best.ensures,
  c.nothing.ensures,
)
