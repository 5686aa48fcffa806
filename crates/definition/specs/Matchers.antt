-- The matchers, in the source's order: "given a start offset, return the end offset, or -1". Here -1 is `None`.
-- s is the text, f the class file.
use Rattle.std.specs.Prelude.{ℕ, ◌+◌, Bool, true, false, not, ◌&&◌, ◌||◌, List, [], ◌∷◌, map, ltb, leb, eqb, if◌then◌else◌, Option, Some, None}
use Rattle.definition.specs.Basics.{Bytes, Turn, again, done, loop, fuel, ch, codes, mem_cp, between}
use Rattle.definition.specs.Utf8.{sequence_at}
use Rattle.definition.specs.Text.{with_char, char_has, byte_has, byte_is, star}
use Rattle.definition.specs.Chars.{is_digit, is_hex, is_ident_start, is_constructor_start, is_ident_char, is_newline_char}
use Rattle.definition.specs.Tables.{cps}

-- ---- putting matchers together

infixl 3 ◌then◌
-- m, and from its end f
abbrev pub ◌then◌ : Option ℕ → (ℕ → Option ℕ) → Option ℕ
Some j then f = f j
None then f = None

-- the later of two ends; -1 is before every end
unfoldable pub later : Option ℕ → Option ℕ → Option ℕ
later None m = m
later (Some a) None = Some a
later (Some a) (Some b) = if ltb a b then Some b else Some a

-- `max_list`
unfoldable pub max_list : List (Option ℕ) → Option ℕ
max_list [] = None
max_list (m ∷ ms) = later m (max_list ms)

-- `if t then m else minus_one`
abbrev pub only : Bool → Option ℕ → Option ℕ
only true m = m
only false m = None

-- one character that passes a test
unfoldable pub one : (ℕ → Bool) → Bytes → ℕ → Option ℕ
one p s i = with_char (sequence_at s i) i (λ c j. elim (p c) [ true ↦ Some j | false ↦ None ]) None

-- ---- the source's matchers

unfoldable pub match_lit : Bytes → Bytes → ℕ → Option ℕ
match_lit s [] i = Some i
match_lit s (c ∷ l) i = elim (byte_is c s i) [ true ↦ match_lit s l (i + 1) | false ↦ None ]

-- `star` is in Text.antt
unfoldable pub plus : (ℕ → Bool) → Bytes → ℕ → Option ℕ
plus p s i = one p s i then λ j. Some (star p s j)

unfoldable pub match_newline : Bytes → ℕ → Option ℕ
match_newline s i =
    elim (char_has (λ c. eqb c (ch "\r")) s i && byte_is (ch "\n") s (i + 1)) [
      | true ↦ Some (i + 2)
      | false ↦ one is_newline_char s i
    ]

unfoldable pub match_ident : Bytes → Bytes → ℕ → Option ℕ
match_ident s f i = one is_ident_start s i then λ j. Some (star (is_ident_char f) s j)

unfoldable pub match_constructor : Bytes → Bytes → ℕ → Option ℕ
match_constructor s f i = one (is_constructor_start f) s i then λ j. Some (star (is_ident_char f) s j)

-- escape_char = '\\', (Chars "\\\"'bfntrv0" | "x", hex, hex | "u", hex, hex, hex, hex)
unfoldable pub match_escape : Bytes → ℕ → Option ℕ
match_escape s i =
    let hex : ℕ → Bool = λ k. byte_has is_hex s (i + k) in
    only (byte_is (ch "\\") s i)
    (if byte_has (λ c. mem_cp c (codes "\\\"'bfntrv0")) s (i + 1) then Some (i + 2) else
    if byte_is (ch "x") s (i + 1) && (hex 2 && hex 3) then Some (i + 4) else
    if byte_is (ch "u") s (i + 1) && (hex 2 && (hex 3 && (hex 4 && hex 5))) then Some (i + 6) else
    None)

-- char = Compl '\\' | escape_char
unfoldable pub match_char : Bytes → ℕ → Option ℕ
match_char s i = with_char (sequence_at s i) i (λ c j. elim (eqb c (ch "\\")) [ true ↦ match_escape s i | false ↦ Some j ]) None

unfoldable pub match_char_lit : Bytes → ℕ → Bool → Option ℕ
match_char_lit s i with_b =
    only (byte_is (ch "'") s i)
    (match_char s (i + 1) then λ j.
    only (byte_is (ch "'") s j)
    (if with_b then only (byte_is (ch "B") s (j + 1)) (Some (j + 2)) else Some (j + 1)))

unfoldable pub match_integer : Bytes → ℕ → Option ℕ
match_integer s i = plus is_digit s i

unfoldable pub match_xinteger : Bytes → ℕ → Option ℕ
match_xinteger s i =
    let letter : ℕ → ℕ → Bool = λ a b. byte_has (λ c. eqb c a || eqb c b) s (i + 1) in
    only (byte_is (ch "0") s i)
    (if letter (ch "x") (ch "X") then plus is_hex s (i + 2) else
    if letter (ch "o") (ch "O") then plus (between (ch "0") (ch "7")) s (i + 2) else
    if letter (ch "b") (ch "B") then plus (λ c. eqb c (ch "0") || eqb c (ch "1")) s (i + 2) else
    None)

unfoldable pub any_integer_ends : Bytes → ℕ → List (Option ℕ)
any_integer_ends s i = match_integer s i ∷ match_xinteger s i ∷ []

-- any_integer followed by the given suffix
unfoldable pub match_int_suffix : Bytes → ℕ → Bytes → Option ℕ
match_int_suffix s i suffix = max_list (map (λ m. m then match_lit s suffix) (any_integer_ends s i))

unfoldable pub match_int_usuffix : Bytes → ℕ → Bytes → Option ℕ
match_int_usuffix s i suffix =
    max_list
    (map
    (λ m. m then λ e. only (byte_has (λ c. eqb c (ch "u") || eqb c (ch "U")) s e) (match_lit s suffix (e + 1)))
    (any_integer_ends s i))

-- floatp = Plus digit, '.', Star digit
unfoldable pub match_floatp : Bytes → ℕ → Option ℕ
match_floatp s i = match_integer s i then λ j. only (byte_is (ch ".") s j) (Some (star is_digit s (j + 1)))

-- the offset after an optional sign at k
unfoldable pub skip_sign : Bytes → ℕ → ℕ
skip_sign s k = if byte_has (λ c. eqb c (ch "+") || eqb c (ch "-")) s k then k + 1 else k

unfoldable pub is_e : ℕ → Bool
is_e c = eqb c (ch "e") || eqb c (ch "E")

-- floate = Plus digit, Opt ('.', Star digit), Chars "eE", Opt (Chars "+-"), Plus digit
unfoldable pub match_floate : Bytes → ℕ → Option ℕ
match_floate s i =
    match_integer s i then λ j.
    let exp : ℕ → Option ℕ = λ k. only (byte_has is_e s k) (match_integer s (skip_sign s (k + 1))) in
    let without_dot = exp j in
    let with_dot = only (byte_is (ch ".") s j) (exp (star is_digit s (j + 1))) in
    later without_dot with_dot

unfoldable pub match_real : Bytes → ℕ → Option ℕ
match_real s i = match_floatp s i then λ j. only (byte_is (ch "R") s j) (Some (j + 1))

-- (integer | xinteger | ieee64 | xieee64), Plus ident_char
-- "sedlex considers every way of splitting the input; since digits are ident chars, the shortest float matches are the
-- relevant ones."
unfoldable pub match_bad_number : Bytes → Bytes → ℕ → Option ℕ
match_bad_number s f i =
    let xi = match_xinteger s i in
    let xieee = xi then match_lit s (cps "LF") in
    let j = match_integer s i in
    let floatp_min = j then λ j. only (byte_is (ch ".") s j) (Some (j + 1)) in
    let exp_min : ℕ → Option ℕ =
    λ k. only (byte_has is_e s k) (let k = skip_sign s (k + 1) in only (byte_has is_digit s k) (Some (k + 1)))
    in
    let floate_min = later (j then exp_min) (floatp_min then λ k. exp_min (star is_digit s k)) in
    let ends = j ∷ xi ∷ match_floatp s i ∷ match_floate s i ∷ xieee ∷ floatp_min ∷ floate_min ∷ [] in
    max_list (map (λ m. m then plus (is_ident_char f) s) ends)

-- '`', '`', Plus (Compl ('`' | nl) | '`', Compl ('`' | nl)), '`', '`'
abbrev pub backtick_turn : Bytes → ℕ × ℕ → Turn (ℕ × ℕ) (Option ℕ)
backtick_turn s (j, n) =
    let ok : ℕ → Bool = λ c. not (eqb c (ch "`")) && not (is_newline_char c) in
    elim (one ok s j) [
      | Some k ↦ again (k, n + 1)
      | None ↦ elim (only (byte_is (ch "`") s j) (one ok s (j + 1))) [
        | Some k ↦ again (k, n + 1)
        | None ↦ done (only (ltb 0 n && (byte_is (ch "`") s j && byte_is (ch "`") s (j + 1))) (Some (j + 2)))
      ]
    ]

unfoldable pub match_backtick_ident : Bytes → ℕ → Option ℕ
match_backtick_ident s i =
    only (byte_is (ch "`") s i && byte_is (ch "`") s (i + 1)) (loop (backtick_turn s) (λ a. None) (fuel s) (i + 2, 0))

-- "Truncate a match [i, e) at the first occurrence of "//""
abbrev pub no_comment_turn : Bytes → ℕ → ℕ → Turn ℕ ℕ
no_comment_turn s e j =
    elim (leb e (j + 1)) [
      | true ↦ done e
      | false ↦ elim (byte_is (ch "/") s j && byte_is (ch "/") s (j + 1)) [ true ↦ done j | false ↦ again (j + 1) ]
    ]

unfoldable pub no_comment : Bytes → ℕ → ℕ → ℕ
no_comment s i e = loop (no_comment_turn s e) (λ j. e) (fuel s) i
