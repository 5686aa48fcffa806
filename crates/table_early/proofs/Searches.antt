-- What the code's search finds is what trying every word of the definition's table gives: nothing where two bytes begin no early literal.
-- Rests on the laws of rows, and on what is computed.
use Prim.Native.Nat.{ℕ, ◌+◌, ◌≤◌, ◌<◌}
use mathlib.Core.Path.{◌≡◌}
use mathlib.Core.Bool.{false}
use lib.ListN.{length, get_or}
use Rattle.definition.specs.Basics.{Bytes}
use Rattle.definition.specs.Tables.{early_literals, words_of}
use Rattle.definition.specs.Matchers.{match_lit}
use Rattle.definition.specs.Select.{none_at, try_words}
use Rattle.table_words.specs.Rows.{starts_two}
use Rattle.table_words.proofs.RowLaws.{all_left, is_short, none_begins, other_two, past_two}
use Rattle.table_early.specs.Pairs.{early_pair}
use Rattle.table_early.proofs.Computed.{early, early_long, early_pairs}

module _ (s : Bytes) (i : ℕ) where
  -- Where no early literal begins with the text's two bytes nothing is chosen.
  pub early_none : i < length s → early_pair (get_or s i 0) (get_or s (i + 1) 0) ≡ false
      → try_words i 1 (λ w. match_lit s w i) 0 (words_of early_literals) (none_at i) ≡ none_at i
  early_none h e =
      let a = get_or s i 0 in
      let b = get_or s (i + 1) 0 in
      all_left i 1 (λ w. match_lit s w i) (λ r. starts_two a b r.1) (λ r. other_two s i h r.1) (words_of early_literals) (none_begins early_pair a b early early_pairs e)

  -- Nor at the text's last byte or past it: each has two bytes or more.
  pub early_past : length s ≤ i + 1 → try_words i 1 (λ w. match_lit s w i) 0 (words_of early_literals) (none_at i) ≡ none_at i
  early_past h = all_left i 1 (λ w. match_lit s w i) (λ r. is_short r.1) (λ r t. past_two s i h r.1 t) (words_of early_literals) early_long
