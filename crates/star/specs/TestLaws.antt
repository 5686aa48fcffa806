-- What the laws of `AsciiTest` and `CharTest` ask of the definition's tests: which only ASCII passes, and what passes of ASCII. Rests on
-- nothing but the tests.
use Prim.Native.Nat.{ℕ, ◌<◌}
use mathlib.Core.Path.{◌≡◌, refl}
use mathlib.Core.Bool.{Bool, true, false, ◌||◌, false≢true}
use mathlib.Core.List.{List}
use native.Mathlib.Omega.{arith}
use lib.Dec.{ltb, leb, eqb}
use borrow.Author.Tests.{eqb-true, ne_eqb, ltb-true, lt-ltb, lt-leb}
use Rattle.definition.specs.Basics.{Bytes, ch, between}
use Rattle.definition.specs.Chars.{ascii_limit, ascii_table, in_table, op_char_cps, symbolchar_cps, is_op_char, is_symbolchar, is_ident_char, is_anywhite}
use Rattle.definition.specs.ClassFile.{is_zs}
use Rattle.lemmas.proofs.Cases.{both, either, by_lt}
use Rattle.laws_progress.proofs.Matches.{Small, small_is, small_or, small_between, small_digit}
use Rattle.chars.specs.Parts.{ascii_ident_char}
use Rattle.star.specs.Blanks.{is_blank}
use Rattle.star.specs.Stops.{goes_on, ascii_goes_on}

-- ---- tests that only ASCII passes

-- What a table of 128 entries says of a character.
small_table : (table : List Bool) → Small (in_table table)
unfolding in_table
small_table table c = by_lt (λ t. t ≡ true → c < 0x80) c ascii_limit (λ h e. h) (λ h e. absurd (false≢true e))

-- An operator character.
pub small_op_char : Small is_op_char
unfolding is_op_char
small_op_char = small_table (ascii_table op_char_cps)

-- A symbol character.
pub small_symbolchar : Small is_symbolchar
unfolding is_symbolchar
small_symbolchar = small_table (ascii_table symbolchar_cps)

-- An octal digit.
pub small_octal : Small (between (ch "0") (ch "7"))
small_octal = small_between (ch "0") (ch "7") (omega arith)

-- A binary digit.
pub small_binary : Small (λ c. eqb c (ch "0") || eqb c (ch "1"))
small_binary = small_or (small_is (ch "0") (omega arith)) (small_is (ch "1") (omega arith))

-- ---- identifiers

-- A character of ASCII may stand in an identifier by the first part of the test alone.
pub ascii_ident : (f : Bytes) (c : ℕ) → c < 0x80 → is_ident_char f c ≡ ascii_ident_char c
unfolding is_ident_char ascii_ident_char
ascii_ident f c h = rw (is_ident_char, lt-ltb c ascii_limit h)

-- Only characters of ASCII pass that part.
pub small_ident : Small ascii_ident_char
unfolding ascii_ident_char
small_ident =
    small_or (small_between (ch "a") (ch "z") (omega arith))
    (small_or (small_between (ch "A") (ch "Z") (omega arith)) (small_or small_digit (small_or (small_is (ch "'") (omega arith)) (small_is (ch "_") (omega arith)))))

-- ---- white space

-- A blank is a character of ASCII.
pub small_blank : (c : ℕ) → is_blank c ≡ true → c < 0x80
small_blank c =
    either (eqb c 32) (eqb c 9 || (eqb c 11 || eqb c 12)) (is 32 (omega arith))
    (either (eqb c 9) (eqb c 11 || eqb c 12) (is 9 (omega arith)) (either (eqb c 11) (eqb c 12) (is 11 (omega arith)) (is 12 (omega arith))))
  where
    is : (k : ℕ) → k < 0x80 → eqb c k ≡ true → c < 0x80
    is k h t = let e = eqb-true c k t in omega (arith, e)

-- The white space of ASCII is its blanks.
pub ascii_white : (f : Bytes) (c : ℕ) → c < 0x80 → is_anywhite f c ≡ is_blank c
unfolding is_anywhite
ascii_white f c h =
    go (eqb c 32) (eqb c 9) (eqb c 11) (eqb c 12) (eqb c 0xA0) (eqb c 0xFEFF) (leb ascii_limit c) (is_zs f c)
    (ne_eqb c 0xA0 (λ e. omega (arith, e))) (ne_eqb c 0xFEFF (λ e. omega (arith, e))) (lt-leb ascii_limit c h)
  where
    go : (a b d e x y l z : Bool) → x ≡ false → y ≡ false → l ≡ false
        → elim (a || (b || (d || (e || (x || y))))) [ true ↦ true | false ↦ elim l [ true ↦ z | false ↦ false ] ] ≡ a || (b || (d || e))
    go true b d e x y l z p q r = refl
    go false true d e x y l z p q r = refl
    go false false true e x y l z p q r = refl
    go false false false true x y l z p q r = refl
    go false false false false x y l z p q r = rw (p, q, r)

-- ---- runs up to one of some characters

module _ (a b : ℕ) where
  -- Only ASCII is passed by bytes,
  pub small_goes_on : Small (ascii_goes_on a b)
  small_goes_on c e = ltb-true c 0x80 (both (ltb c 0x80) (goes_on a b c) e).0

  -- and of ASCII what is inside a run.
  pub ascii_inside : (c : ℕ) → c < 0x80 → goes_on a b c ≡ ascii_goes_on a b c
  ascii_inside c h = rw (lt-ltb c 0x80 h)
