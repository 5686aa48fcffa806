-- What is computed over the definition's table: which two bytes the early literals begin with, and that every word fits its row. Rests on the
-- laws of tables.
use mathlib.Core.Path.{◌≡◌, refl}
use mathlib.Core.Bool.{true}
use mathlib.Core.List.{List, []}
use Rattle.definition.specs.Utf8.{encode, encode_all}
use Rattle.definition.specs.Tables.{cps, early_literals, words_of}
use Rattle.table_words.specs.Rows.{Row, numbered, only_rows}
use Rattle.table_words.proofs.RowLaws.{is_short, all_begin}
use Rattle.table_words.proofs.TableLaws.{all_short}
use Rattle.table_early.specs.Pairs.{early_pair}

-- the rows of the early literals
abbrev pub early : List Row
early = numbered 0 (words_of early_literals)

-- Every word fits its row.
pub early_short : all_short 20 early ≡ true
unfolding early_literals cps encode_all encode
early_short = refl

-- Each early literal has two bytes or more,
pub early_long : only_rows (λ (r : Row). is_short r.1) early ≡ []
unfolding early_literals cps encode_all encode
early_long = refl

-- and begins with two bytes that one may begin with.
pub early_pairs : all_begin early_pair early ≡ true
unfolding early_literals cps encode_all encode
early_pairs = refl
