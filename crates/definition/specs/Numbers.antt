-- Numbers as texts: `clean_number`, `U.int_of_string` and `show`.
use Rattle.std.specs.Prelude.{ℕ, suc, ◌+◌, ◌-◌, ◌*◌, ◌/◌, ◌%◌, Bool, true, false, ◌||◌, [], ◌∷◌, ltb, eqb, if◌then◌else◌}
use Rattle.definition.specs.Basics.{Bytes, ch, codes, mem_cp, between, Turn, again, done, loop}

-- ---- `clean_number`: "Strip the suffixes and prefixes of numeric literals"

unfoldable pub strips : ℕ → Bool
strips b = mem_cp b (codes "uzyslLUnIN")

-- `left`
unfoldable pub strip_left : Bytes → Bytes
strip_left [] = []
strip_left (b ∷ l) = elim (strips b) [ true ↦ strip_left l | false ↦ b ∷ l ]

-- `right`: a byte goes if it is one of these and nothing is left after it
unfoldable pub strip_if_last : ℕ → Bytes → Bytes
strip_if_last b [] = if strips b then [] else (b ∷ [])
strip_if_last b (x ∷ l) = b ∷ x ∷ l

unfoldable pub strip_right : Bytes → Bytes
strip_right [] = []
strip_right (b ∷ l) = strip_if_last b (strip_right l)

unfoldable pub clean_number : Bytes → Bytes
clean_number s = strip_right (strip_left s)

-- ---- `U.int_of_string`: "reads decimal or 0x, 0o, 0b in either case, a leading 0 being decimal"

unfoldable pub digit_value : ℕ → ℕ
digit_value b =
    if between (ch "0") (ch "9") b then b - 48 else
    if between (ch "a") (ch "f") b then b - 87 else
    b - 55

-- the value of digits in a base, after digits of the value n
unfoldable pub value_from : ℕ → ℕ → Bytes → ℕ
value_from base n [] = n
value_from base n (b ∷ l) = value_from base (n * base + digit_value b) l

-- the base that the letter after a 0 names; 0 for a letter that names none
unfoldable pub base_of : ℕ → ℕ
base_of b =
    if eqb b (ch "x") || eqb b (ch "X") then 16 else
    if eqb b (ch "o") || eqb b (ch "O") then 8 else
    if eqb b (ch "b") || eqb b (ch "B") then 2 else
    0

-- what follows a first 0
unfoldable pub after_zero : Bytes → ℕ
after_zero [] = 0
after_zero (b ∷ l) = elim (eqb (base_of b) 0) [ true ↦ value_from 10 0 (b ∷ l) | false ↦ value_from (base_of b) 0 l ]

unfoldable pub int_of_string : Bytes → ℕ
int_of_string [] = 0
int_of_string (b ∷ l) = elim (eqb b (ch "0")) [ true ↦ after_zero l | false ↦ value_from 10 0 (b ∷ l) ]

-- ---- `show`: "decimal without leading zeros"

-- a turn takes the last digit of the number, in front of those already taken
abbrev pub show_turn : ℕ × Bytes → Turn (ℕ × Bytes) Bytes
show_turn (n, digits) = elim (ltb n 10) [ true ↦ done ((48 + n) ∷ digits) | false ↦ again (n / 10, (48 + n % 10) ∷ digits) ]

-- a number has no more digits than its value and one
unfoldable pub show : ℕ → Bytes
show n = loop show_turn (λ a. a.1) (suc n) (n, [])
