-- The longest end that a place's pattern permits at an offset, for each of the 50 places by itself, and what is demanded of it.
-- s is the text, f the class file, k a place, i an offset.
use Rattle.std.specs.Prelude.{ℕ, ◌≤◌, ◌<◌, ◌≡◌, true, false, ◌∷◌, ◌↔◌, eqb, ltb, get_or, Option, Some, None}
use Rattle.definition.specs.Basics.{Bytes}
use Rattle.definition.specs.Chars.{is_digit, is_anywhite}
use Rattle.definition.specs.Matchers.{◌then◌, later, one, plus, match_newline, match_bad_number}
use Rattle.definition.specs.Select.{none_at, places}
use Rattle.definition.specs.Longest.{Permitted}
use Rattle.definition.specs.declared.Choice.{Choice}

-- the end of a choice, where it is past i
abbrev pub choice_end : ℕ → Choice → Option ℕ
choice_end i c = elim (ltb i c.end) [ true ↦ Some c.end | false ↦ None ]

-- the end of an integer of two digits or more
abbrev pub two_digits : Bytes → ℕ → Option ℕ
two_digits s i = one is_digit s i then plus is_digit s

-- Most places find it themselves. Places 7 and 8 do so without the test that leaves their ASCII to the fast paths. The pattern of place
-- 27 fits an integer of two digits or more too, its last digit being the identifier, which its matcher leaves to place 16.
abbrev pub longest_end : Bytes → Bytes → ℕ → ℕ → Option ℕ
longest_end s f k i =
    elim (eqb k 7) [
      | true ↦ plus (is_anywhite f) s i
      | false ↦ elim (eqb k 8) [
        | true ↦ match_newline s i
        | false ↦ elim (eqb k 27) [
          | true ↦ later (match_bad_number s f i) (two_digits s i)
          | false ↦ choice_end i (get_or (none_at i ∷ places s f i) k (none_at i))
        ]
      ]
    ]

-- m is the longest end that place k permits at i, or that it permits none
pub record LongestEnd (s f : Bytes) (k i : ℕ) (m : Option ℕ) : Type 0 where
  -- what it gives has a byte or more and is permitted
  pub fits : (e : ℕ) → m ≡ Some e → (i < e) × Permitted s f k i e
  -- every permitted end is at most it
  pub longest : (e : ℕ) → Permitted s f k i e → (x : ℕ) × (m ≡ Some x) × (e ≤ x)
  -- it gives nothing exactly where nothing of a byte or more is permitted
  pub nothing : m ≡ None ↔ ((e : ℕ) → i < e → Permitted s f k i e → ⊥)
