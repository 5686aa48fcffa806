-- What the search finds is what trying every mixfix word gives: they all begin with a point. Rests on the laws of rows (crate `table_words`).
use Rattle.std.specs.Prelude.{Option}
use Prim.Native.Nat.{ℕ}
use mathlib.Core.Path.{◌≡◌, refl, sym}
use mathlib.Core.Bool.{false}
use mathlib.Core.List.{[]}
use Rattle.definition.specs.Basics.{Bytes, ch}
use Rattle.definition.specs.Utf8.{encode, encode_all}
use Rattle.definition.specs.Text.{byte_is}
use Rattle.definition.specs.Tables.{cps, mixfix_rules, words_of}
use Rattle.definition.specs.Matchers.{match_lit}
use Rattle.definition.specs.Select.{none_at, try_words}
use Rattle.table_words.specs.Rows.{Row, numbered, only_rows, try_rows}
use Rattle.table_words.proofs.RowLaws.{words_rows, all_left, starts_other, missing_start}

-- They all begin with a point.
mixfix_points : only_rows (λ (r : Row). starts_other (ch ".") r.1) (numbered 0 (words_of mixfix_rules)) ≡ []
unfolding mixfix_rules cps encode_all encode
mixfix_points = refl

module _ (s : Bytes) (i : ℕ) where
  -- a word of a table
  abbrev lit : Bytes → Option ℕ
  lit w = match_lit s w i

  -- At a point all are tried.
  pub mixfix_is : try_rows i 50 lit (numbered 0 (words_of mixfix_rules)) (none_at i) ≡ try_words i 50 lit 0 (words_of mixfix_rules) (none_at i)
  mixfix_is = sym (words_rows i 50 lit 0 (words_of mixfix_rules) (none_at i))

  -- Elsewhere there is none.
  pub mixfix_no : byte_is (ch ".") s i ≡ false → try_words i 50 lit 0 (words_of mixfix_rules) (none_at i) ≡ none_at i
  mixfix_no e = all_left i 50 lit (λ r. starts_other (ch ".") r.1) (λ r t. missing_start s i (ch ".") e r.1 t) (words_of mixfix_rules) mixfix_points
