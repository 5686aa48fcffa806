-- What the laws of a text speak of: a character at an offset, the characters from an offset on, and the longest run of them that
-- passes a test.
use Rattle.std.specs.Prelude.{ℕ, zero, suc, ◌+◌, ◌≤◌, ◌≡◌, Bool, true, false, List, [], ◌∷◌, ◌++◌, length, drop, Option, Some, None}
use Rattle.definition.specs.Basics.{Bytes, fuel}
use Rattle.definition.specs.Utf8.{encode, encode_all, Scalar, Scalars, sequence_at}
use Rattle.definition.specs.Text.{with_char, get}

-- A character stands at i: the scalar value c, whose encoding is the w bytes from i on.
pub record CharAt (s : Bytes) (i c w : ℕ) : Type 0 where
  pub scalar : Scalar c
  pub width : w ≡ length (encode c)
  pub bytes : drop i s ≡ encode c ++ drop (i + w) s

-- A character stands at i and ends at j or before it.
pub record CharTo (s : Bytes) (i j : ℕ) : Type 0 where
  pub code : ℕ
  pub width : ℕ
  pub stands : CharAt s i code width
  pub ends : i + width ≤ j

-- The bytes from i on are the encoding of the scalar values cs.
pub record Rest (s : Bytes) (i : ℕ) (cs : List ℕ) : Type 0 where
  pub scalars : Scalars cs
  pub bytes : drop i s ≡ encode_all cs

-- Every element passes the test.
abbrev pub Pass : (ℕ → Bool) → List ℕ → Type 0
Pass f [] = Unit {0}
Pass f (c ∷ cs) = (f c ≡ true) × Pass f cs

-- From i to e stand characters that pass the test.
pub record Run (f : ℕ → Bool) (s : Bytes) (i e : ℕ) : Type 0 where
  pub run : List ℕ
  pub scalars : Scalars run
  pub pass : Pass f run
  pub bytes : drop i s ≡ encode_all run ++ drop e s
  pub ends : e ≡ i + length (encode_all run)

-- at most n characters from i on
unfoldable pub chars : ℕ → Bytes → ℕ → List ℕ
chars zero s i = []
chars (suc n) s i = with_char (sequence_at s i) i (λ c j. c ∷ chars n s j) []

-- the characters from i on, up to the end or to the first bytes that are no legal sequence
unfoldable pub chars_from : Bytes → ℕ → List ℕ
chars_from s i = chars (fuel s) s i

-- `next` goes from i to j: past the character at i, to those that come after it.
pub record Next (s : Bytes) (i j : ℕ) : Type 0 where
  pub code : ℕ
  pub width : ℕ
  pub stands : CharAt s i code width
  pub ends : j ≡ i + width
  pub read : get s i ≡ Some code
  pub others : chars_from s i ≡ code ∷ chars_from s j

-- the first character, or that there is none
abbrev pub first_letter : List ℕ → Option ℕ
first_letter [] = None
first_letter (c ∷ cs) = Some c

-- the longest prefix whose every element passes the test
unfoldable pub take_while : (ℕ → Bool) → List ℕ → List ℕ
take_while f [] = []
take_while f (c ∷ cs) = elim (f c) [ true ↦ c ∷ take_while f cs | false ↦ [] ]
