-- What the search finds is what trying every word of the definition's table gives: the operator tokens that begin with the text's byte. Rests
-- on the laws of rows (crate `table_words`) and on what is computed.
use Rattle.std.specs.Prelude.{Option}
use Prim.Native.Nat.{ℕ, ◌≤◌, ◌<◌}
use mathlib.Core.Path.{◌≡◌, refl, sym, ap, ◌∙◌}
use mathlib.Core.List.{List}
use native.Mathlib.Omega.{arith}
use lib.ListN.{length, get_or}
use Rattle.definition.specs.Basics.{Bytes, mem_cp}
use Rattle.definition.specs.Tables.{op_tokens, words_of}
use Rattle.definition.specs.Matchers.{match_lit}
use Rattle.definition.specs.Select.{none_at, try_words}
use Rattle.lemmas.proofs.Members.{Rest, no_key}
use Rattle.table_words.specs.Rows.{Row, numbered, try_rows, starts_with, tokens_at}
use Rattle.table_words.proofs.RowLaws.{words_rows, rows_left, all_left, is_empty, other_start, past_end}
use Rattle.table_op_tokens.proofs.Computed.{tokens_full, first_bytes, tokens_none}

module _ (s : Bytes) (i : ℕ) where
  -- a word of a table
  abbrev lit : Bytes → Option ℕ
  lit w = match_lit s w i

  -- Past the end there is none.
  pub token_past : length s ≤ i → try_words i 36 lit 0 (words_of op_tokens) (none_at i) ≡ none_at i
  token_past h = all_left i 36 lit (λ r. is_empty r.1) (λ r t. past_end s i h r.1 t) (words_of op_tokens) tokens_full

  module _ (h : i < length s) where
    -- Elsewhere only those that may stand where the byte does are tried,
    pub token_is : {b : ℕ} → get_or s i 0 ≡ b → try_rows i 36 lit (tokens_at b) (none_at i) ≡ try_words i 36 lit 0 (words_of op_tokens) (none_at i)
    token_is e =
        rw (← e)
        (sym (words_rows i 36 lit 0 (words_of op_tokens) (none_at i)
        ∙ rows_left i 36 lit (λ r. starts_with (get_or s i 0) r.1) (λ r t. other_start s i h r.1 t) (numbered 0 (words_of op_tokens)) (none_at i) (omega arith)))

    -- and none where no token begins with it.
    pub token_none : get_or s i 0 < 256 → Rest first_bytes (get_or s i 0) → none_at i ≡ try_words i 36 lit 0 (words_of op_tokens) (none_at i)
    unfolding try_rows mem_cp
    token_none small n =
        sym (ap (λ (rs : List Row). try_rows i 36 lit rs (none_at i)) (tokens_none (get_or s i 0) small (no_key first_bytes (get_or s i 0) refl n)))
        ∙ token_is refl
