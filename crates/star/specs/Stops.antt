-- Characters that end a run: one of two, or a line's end. The stops of comments, strings and blobs are such.
use Rattle.std.specs.Prelude.{ℕ, Bool, not, ◌&&◌, ◌||◌, ltb, eqb}
use Rattle.definition.specs.Chars.{is_newline_char}

abbrev pub stops : ℕ → ℕ → ℕ → Bool
stops a b c = eqb c a || (eqb c b || is_newline_char c)

-- a character inside a run
abbrev pub goes_on : ℕ → ℕ → ℕ → Bool
goes_on a b c = not (stops a b c)

-- one of ASCII
abbrev pub ascii_goes_on : ℕ → ℕ → ℕ → Bool
ascii_goes_on a b c = ltb c 0x80 && goes_on a b c
