-- What is computed over the definition's table: no keyword-operator word begins another, and every word fits its row. Rests on the laws of
-- tables.
use Prim.Native.Nat.{ℕ, ◌<◌}
use mathlib.Core.Path.{◌≡◌, refl}
use mathlib.Core.Bool.{true}
use mathlib.Core.List.{List, [], ◌∷◌, map}
use lib.ListN.{length, get_or}
use Rattle.definition.specs.Utf8.{encode, encode_all}
use Rattle.definition.specs.Chars.{count_up}
use Rattle.definition.specs.Tables.{cps, kw_op_rules, kw_op_words}
use Rattle.table_words.specs.Rows.{Row, numbered, only_rows}
use Rattle.table_words.proofs.RowLaws.{no_row, word_at, is_empty, touches}
use Rattle.table_words.proofs.TableLaws.{all_short, same_each}

-- the rows of the keyword operators
abbrev pub kw_ops : List Row
kw_ops = numbered 0 kw_op_words

-- Every word fits its row.
pub kw_short : all_short 6 kw_ops ≡ true
unfolding kw_op_rules cps encode_all encode
kw_short = refl

-- Each keyword-operator word has a byte or more.
pub kw_long : only_rows (λ (r : Row). is_empty r.1) kw_ops ≡ []
unfolding kw_op_rules cps encode_all encode
kw_long = refl

-- ---- how many rows there are

pub kw_count : length kw_ops ≡ 9
unfolding kw_op_rules
kw_count = refl

pub kw_entries : length kw_op_words ≡ 9
unfolding kw_op_rules
kw_entries = refl

-- ---- no keyword-operator word begins another

-- The rows whose words touch word k are row k.
touching : ℕ → List Row
touching k = only_rows (λ (r : Row). touches (word_at kw_ops k) r.1) kw_ops

-- This is computed for each k,
all_apart : map touching (count_up 0 9) ≡ map (λ k. get_or kw_ops k no_row ∷ []) (count_up 0 9)
unfolding touching kw_op_rules cps encode_all encode count_up
all_apart = refl

-- and holds of each.
pub kw_apart : (k : ℕ) → k < 9 → only_rows (λ (r : Row). touches (word_at kw_ops k) r.1) kw_ops ≡ get_or kw_ops k no_row ∷ []
unfolding touching
kw_apart k h = same_each touching (λ k. get_or kw_ops k no_row ∷ []) 9 [] all_apart k h
