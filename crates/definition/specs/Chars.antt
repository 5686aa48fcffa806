-- The tests on characters, in the source's order. c is a code point: past the end no test passes (`char_has`, `byte_has`).
-- "ASCII entries of any class are never consulted": an ASCII character is not looked up in a class.
use Rattle.std.specs.Prelude.{ℕ, zero, suc, Bool, true, false, ◌||◌, List, [], ◌∷◌, map, ltb, eqb, leb, get_or}
use Rattle.definition.specs.Basics.{Bytes, ch, codes, mem_cp, between}
use Rattle.definition.specs.ClassFile.{is_lu, is_lt, is_lo, is_lm, is_zs, is_sm}
use Rattle.definition.specs.Lowercase.{is_ll}

unfoldable pub is_digit : ℕ → Bool
is_digit c = between (ch "0") (ch "9") c

unfoldable pub is_hex : ℕ → Bool
is_hex c = is_digit c || (between (ch "A") (ch "F") c || between (ch "a") (ch "f") c)

-- the numbers from k on, n of them
unfoldable pub count_up : ℕ → ℕ → List ℕ
count_up k zero = []
count_up k (suc n) = k ∷ count_up (suc k) n

abbrev pub ascii_limit : ℕ
ascii_limit = 128

-- `ascii_table`: 128 yes-or-no entries, filled from the characters of a string
unfoldable pub ascii_table : List ℕ → List Bool
ascii_table l = map (λ c. mem_cp c l) (count_up 0 ascii_limit)

unfoldable pub in_table : List Bool → ℕ → Bool
in_table tbl c = elim (ltb c ascii_limit) [ true ↦ get_or tbl c false | false ↦ false ]

abbrev pub op_char_cps : List ℕ
op_char_cps = codes "!$%&*+-.<>=?^|~:@#\\/"

abbrev pub symbolchar_cps : List ℕ
symbolchar_cps = codes "!~?|&=<>$@^+-*/%.:"

unfoldable pub is_op_char : ℕ → Bool
is_op_char c = in_table (ascii_table op_char_cps) c

unfoldable pub is_symbolchar : ℕ → Bool
is_symbolchar c = in_table (ascii_table symbolchar_cps) c

unfoldable pub is_lower : ℕ → Bool
is_lower c = elim (ltb c ascii_limit) [ true ↦ between (ch "a") (ch "z") c | false ↦ is_ll c ]

unfoldable pub is_ident_start : ℕ → Bool
is_ident_start c = elim (eqb c (ch "_") || eqb c (ch "'")) [ true ↦ true | false ↦ is_lower c ]

unfoldable pub is_constructor_start : Bytes → ℕ → Bool
is_constructor_start f c =
    elim (ltb c ascii_limit) [
      | true ↦ between (ch "A") (ch "Z") c
      | false ↦ elim (is_lu f c) [ true ↦ true | false ↦ is_lt f c ]
    ]

unfoldable pub is_ident_char : Bytes → ℕ → Bool
is_ident_char f c =
    elim (ltb c ascii_limit) [
      | true ↦ between (ch "a") (ch "z") c || (between (ch "A") (ch "Z") c || (is_digit c || (eqb c (ch "'") || eqb c (ch "_"))))
      | false ↦ elim (is_ll c) [
        | true ↦ true
        | false ↦ elim (is_lu f c) [
          | true ↦ true
          | false ↦ elim (is_lo f c) [ true ↦ true | false ↦ is_lm f c ]
        ]
      ]
    ]

unfoldable pub is_anywhite : Bytes → ℕ → Bool
is_anywhite f c =
    elim (eqb c (ch " ") || (eqb c (ch "\t") || (eqb c 11 || (eqb c 12 || (eqb c 0xA0 || eqb c 0xFEFF))))) [
      | true ↦ true
      | false ↦ elim (leb ascii_limit c) [ true ↦ is_zs f c | false ↦ false ]
    ]

unfoldable pub is_newline_char : ℕ → Bool
is_newline_char c = eqb c (ch "\n") || (eqb c (ch "\r") || (eqb c 0x2028 || eqb c 0x2029))

unfoldable pub is_uoperator : Bytes → ℕ → Bool
is_uoperator f c = elim (leb ascii_limit c) [ true ↦ is_sm f c | false ↦ false ]
