-- The numbers, places 16 to 27: what is asked of them holds at every offset of every text. That place 27 is asked for less than the
-- others is needed: at `12` its pattern fits and its matcher finds nothing. Rests on the laws of each kind of number.
use Rattle.std.specs.Prelude.{None}
use Prim.Native.Nat.{ℕ}
use mathlib.Core.Path.{◌≡◌, refl}
use mathlib.Core.Logic.{inl}
use Rattle.definition.specs.Basics.{Bytes, ch, codes, loop, mem_cp}
use Rattle.definition.specs.Utf8.{encode, encode_all, sequence_at, sequence}
use Rattle.definition.specs.Text.{char_has, byte_has, star}
use Rattle.definition.specs.Chars.{is_digit, is_op_char, in_table, ascii_table, count_up, is_lower, is_ident_start, is_constructor_start, is_ident_char}
use Rattle.definition.specs.Tables.{cps, early_literals, kw_op_rules, op_tokens, mixfix_rules}
use Rattle.definition.specs.Matchers.{
  later,
  max_list,
  plus,
  one,
  match_lit,
  match_ident,
  match_constructor,
  match_integer,
  match_xinteger,
  any_integer_ends,
  match_int_suffix,
  match_int_usuffix,
  match_floatp,
  match_floate,
  match_real,
  match_bad_number,
}
use Rattle.definition.specs.Select.{keep, try_words, try_all, one_of_then_symbols, lit_then_symbols, places, select}
use Rattle.definition.specs.Patterns.{patterns, pattern}
use Rattle.laws_longest.proofs.Language.{Step, stop, At}
use Rattle.laws_longest.proofs.Places.{Numbers}
use Rattle.laws_longest.proofs.Integers.{any_integer_right, suffix_right, usuffix_right}
use Rattle.laws_longest.proofs.Floats.{real_right}
use Rattle.laws_longest.proofs.BadNumbers.{bad_fits, bad_right, bad_reached}

-- What is asked of the numbers holds.
pub numbers : (s f : Bytes) (i : ℕ) → Numbers s f i
numbers s f i =
    record {
      int = any_integer_right s i;
      suffix = λ w h. suffix_right s w h i;
      usuffix = λ w h. usuffix_right s w h i;
      real = real_right s i;
      bad = bad_right s f i;
      bad_fits = bad_fits s f i;
      bad_reached = bad_reached s f i;
    }

-- At `12` the pattern of place 27 fits up to the end, as 1 and then 2.
pub twelve_fits : (f : Bytes) → At (codes "12") (pattern f 27) 0 2
unfolding pattern patterns sequence_at sequence is_digit is_ident_char
twelve_fits f =
    let first : Step (codes "12") is_digit 0 1 = record { code = ch "1"; width = 1; read = refl; ends = refl; passes = refl } in
    let second : Step (codes "12") (is_ident_char f) 1 2 = record { code = ch "2"; width = 1; read = refl; ends = refl; passes = refl } in
    (1, inl (1, first, stop refl), (2, second, stop refl))

-- Its matcher finds nothing there, and the choice is the integer, which reaches as far.
pub twelve_chosen : (f : Bytes) → (match_bad_number (codes "12") f 0 ≡ None) × (select (codes "12") f 0 ≡ record { place = 16; end = 2; word = 0 })
unfolding select places try_all try_words keep one_of_then_symbols lit_then_symbols early_literals kw_op_rules op_tokens mixfix_rules cps encode_all encode match_bad_number match_integer match_xinteger match_floatp match_floate match_real match_int_suffix match_int_usuffix any_integer_ends max_list later match_lit match_ident match_constructor plus one star loop sequence_at sequence char_has byte_has mem_cp is_digit is_op_char in_table ascii_table count_up is_lower is_ident_start is_constructor_start is_ident_char
twelve_chosen f = (refl, refl)
