-- Reading a text: the source's `get`, `byte`, `next` and `lexeme`, and document 01's first offset where no legal sequence starts.
use Rattle.std.specs.Prelude.{ℕ, ◌+◌, Bool, true, false, not, ltb, eqb, length, get_or, Option, Some, None}
use Rattle.std.proofs.Math.Seq.{slice}
use Rattle.definition.specs.Basics.{Bytes, Turn, again, done, loop, fuel}
use Rattle.definition.specs.Utf8.{sequence_at}
use Rattle.definition.specs.declared.Sequence.{Sequence}
use Rattle.definition.specs.declared.Sequence.TheVariants.{Char, Bad, End}

-- what is done at an offset, with the character there and the offset after it, or with none. A run refuses a text that
-- isn't legal, so that at every offset it comes to there is a character or the end
abbrev pub with_char : {X : Type 0} → Sequence → ℕ → (ℕ → ℕ → X) → X → X
with_char (Char c w) i f x = f c (i + w)
with_char Bad i f x = x
with_char End i f x = x

-- `get`: the character at i
unfoldable pub get : Bytes → ℕ → Option ℕ
get s i = with_char (sequence_at s i) i (λ c j. Some c) None

-- `next`: the offset after the character at i
unfoldable pub next : Bytes → ℕ → Option ℕ
next s i = with_char (sequence_at s i) i (λ c j. Some j) None

-- `byte`: the byte at i
unfoldable pub byte : Bytes → ℕ → Option ℕ
byte s i = elim (ltb i (length s)) [ true ↦ Some (get_or s i 0) | false ↦ None ]

-- the character, or the byte, at i passes a test; past the end none does
unfoldable pub char_has : (ℕ → Bool) → Bytes → ℕ → Bool
char_has p s i = with_char (sequence_at s i) i (λ c j. p c) false

unfoldable pub byte_has : (ℕ → Bool) → Bytes → ℕ → Bool
byte_has p s i = elim (ltb i (length s)) [ true ↦ p (get_or s i 0) | false ↦ false ]

abbrev pub byte_is : ℕ → Bytes → ℕ → Bool
byte_is b s i = byte_has (λ x. eqb x b) s i

-- `lexeme`: the bytes from i up to j
abbrev pub lexeme : Bytes → ℕ → ℕ → Bytes
lexeme s i j = slice i j s

-- `star`: the end of the run of characters from i that pass a test
abbrev pub star_turn : (ℕ → Bool) → Bytes → ℕ → Turn ℕ ℕ
star_turn f s i = with_char (sequence_at s i) i (λ c j. elim (f c) [ true ↦ again j | false ↦ done i ]) (done i)

unfoldable pub star : (ℕ → Bool) → Bytes → ℕ → ℕ
star f s i = loop (star_turn f s) (λ j. j) (fuel s) i

-- `run_end`: "The end of the run of characters starting at [i] that are not EOF and do not satisfy [stop]"
abbrev pub run_end : (ℕ → Bool) → Bytes → ℕ → ℕ
run_end stop s i = star (λ c. not (stop c)) s i

-- the offset after the character at i; i itself past the end, where it is never asked
unfoldable pub after : Bytes → ℕ → ℕ
after s i = with_char (sequence_at s i) i (λ c j. j) i

-- document 01, "run refuses": the first offset, from 0 by legal sequences, where none starts; the length where there is none
unfoldable pub first_bad : Bytes → ℕ
first_bad s = star (λ c. true) s 0
