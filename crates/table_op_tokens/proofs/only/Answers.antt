-- `only` tries the one row.
use Rattle.table_words.specs.Rows.{try_rows}
use Rattle.table_op_tokens.proofs.only.Goals as goal

pub returns : goal.returns
unfolding try_rows
returns c = rw (c.try_word.ensures, c.nothing.ensures)
