-- What the code's searches find is what trying every word of the definition's table gives: nothing where a keyword operator's word would have
-- no operator character after it, and the first keyword operator that fits. Rests on the laws of rows and of runs, and on what is computed.
use Rattle.std.specs.Prelude.{Option, Some, None}
use Prim.Native.Nat.{ℕ, ◌+◌, ◌≤◌, ◌<◌}
use mathlib.Core.Path.{◌≡◌, sym, ap, ◌∙◌}
use mathlib.Core.Bool.{Bool, false, not, ◌&&◌}
use mathlib.Core.List.{List, [], ◌∷◌}
use native.Mathlib.Omega.{arith}
use lib.Dec.{eqb}
use lib.ListN.{length, get_or}
use borrow.Author.Tests.{not-false, eqb-true}
use Rattle.definition.specs.Basics.{Bytes}
use Rattle.definition.specs.Text.{byte_has}
use Rattle.definition.specs.Chars.{is_op_char}
use Rattle.definition.specs.Tables.{kw_op_words}
use Rattle.definition.specs.Matchers.{◌then◌, match_lit, plus}
use Rattle.definition.specs.Select.{none_at, try_words}
use Rattle.definition.specs.declared.Choice.{Choice}
use Rattle.lemmas.proofs.Cases.{by_found, by_outcome}
use Rattle.laws_progress.proofs.Matches.{plus_ends}
use Rattle.star.specs.TestLaws.{small_op_char}
use Rattle.star.proofs.RunLaws.{plus_stop}
use Rattle.table_words.specs.Rows.{Row, try_rows, first_fit, starts_with}
use Rattle.table_words.proofs.RowLaws.{
  no_row,
  word_at,
  words_rows,
  rows_left,
  all_left,
  row_missing,
  row_alone,
  is_empty,
  past_end,
  other_start,
  touches,
  lit_end,
  apart,
  fit_there,
  fit_none,
}
use Rattle.table_words.proofs.TableLaws.{own_number}
use Rattle.table_kw_op.specs.KeywordReach.{Reach}
use Rattle.table_kw_op.proofs.Computed.{kw_ops, kw_long, kw_count, kw_entries, kw_apart}

module _ (s : Bytes) (i : ℕ) where
  -- a word and operator characters after it
  abbrev kw_match : Bytes → Option ℕ
  kw_match w = match_lit s w i then plus is_op_char s

  -- A word that isn't there has no operator characters after it.
  kw_nothing : (w : Bytes) → match_lit s w i ≡ None → kw_match w ≡ None
  kw_nothing w e = ap (λ (m : Option ℕ). m then plus is_op_char s) e

  -- what the definition gives
  abbrev pub kw_choice : Choice
  kw_choice = try_words i 12 (λ w. match_lit s w i then plus is_op_char s) 0 kw_op_words (none_at i)

  -- Where no word fits nothing is chosen.
  pub kw_none : 9 ≤ first_fit s i kw_ops → kw_choice ≡ none_at i
  kw_none h = words_rows i 12 kw_match 0 kw_op_words (none_at i) ∙ fit_none s i 12 kw_match kw_nothing kw_ops (omega (arith, kw_count))

  module _ {k : ℕ} (e : k ≡ first_fit s i kw_ops) (h : k < 9) where
    -- The word of the first that fits is there,
    kw_there : match_lit s (word_at kw_ops k) i ≡ Some (i + length (word_at kw_ops k))
    kw_there = rw e (fit_there s i kw_ops (omega (arith, kw_count)))

    -- and no other word is there.
    kw_alone : kw_choice ≡ try_rows i 12 kw_match (get_or kw_ops k no_row ∷ []) (none_at i)
    kw_alone =
        words_rows i 12 kw_match 0 kw_op_words (none_at i)
        ∙ rows_left i 12 kw_match (λ r. touches (word_at kw_ops k) r.1) (λ r t. kw_nothing r.1 (apart s (word_at kw_ops k) r.1 i kw_there t)) kw_ops (none_at i) (omega arith)
        ∙ ap (λ (rs : List Row). try_rows i 12 kw_match rs (none_at i)) (kw_apart k h)

    -- Without operator characters after it nothing is chosen.
    pub kw_no : {n : ℕ} → n ≡ length (word_at kw_ops k) → plus is_op_char s (i + n) ≡ None → kw_choice ≡ none_at i
    kw_no q p = kw_alone ∙ row_missing i 12 kw_match (get_or kw_ops k no_row) (rw kw_there (rw (← q) p))

    -- With some it is chosen.
    pub kw_yes : {n e : ℕ} → n ≡ length (word_at kw_ops k) → plus is_op_char s (i + n) ≡ Some e → kw_choice ≡ record { place = 12; end = e; word = k }
    kw_yes {n} {e} q p =
        let past = ((plus_ends s is_op_char (i + n)).at p).past in
        kw_alone
        ∙ row_alone i 12 kw_match (get_or kw_ops k no_row) (rw kw_there (rw (← q) p)) (omega (arith, past))
        ∙ chosen (own_number kw_op_words k (omega (arith, kw_entries)))
      where
        chosen : {x y : ℕ} → x ≡ y → ◌≡◌ {A = Choice} (record { place = 12; end = e; word = y }) (record { place = 12; end = e; word = x })
        chosen z = rw z

  -- Past the end no word is.
  pub kw_past : length s ≤ i → kw_choice ≡ none_at i
  kw_past h = all_left i 12 kw_match (λ r. is_empty r.1) (λ r t. kw_nothing r.1 (past_end s i h r.1 t)) kw_op_words kw_long

  -- Where each word that begins with the text's byte would end at i + n, and no operator character stands there, nothing is chosen.
  pub kw_reach_none : {n : ℕ} → i < length s → Reach (get_or s i 0) n → byte_has is_op_char s (i + n) ≡ false → kw_choice ≡ none_at i
  kw_reach_none {n} h r e = all_left i 12 kw_match (λ r. starts_with (get_or s i 0) r.1 && not (eqb (length r.1) n)) (λ r. missing r.1) kw_op_words r.each
    where
      -- A word of n bytes has no operator character after it,
      short : (w : Bytes) → length w ≡ n → kw_match w ≡ None
      short w q =
          by_found (match_lit s w i)
          (λ j t. let z : j ≡ i + n = omega (arith, lit_end s w i t) in rw (t, z) (plus_stop is_op_char small_op_char s (i + n) e))
          (kw_nothing w)

      -- and one that begins with another byte isn't there.
      missing : (w : Bytes) → starts_with (get_or s i 0) w && not (eqb (length w) n) ≡ false → kw_match w ≡ None
      missing w t =
          by_outcome (starts_with (get_or s i 0) w)
          (λ b. short w (eqb-true (length w) n (not-false _ (sym (ap (λ (x : Bool). x && not (eqb (length w) n)) b) ∙ t))))
          (λ b. kw_nothing w (other_start s i h w b))
