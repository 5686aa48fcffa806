-- Regular expressions over characters, and what they mean: every way of splitting a text counts.
use Rattle.std.specs.Prelude.{ℕ, ◌≤◌, ◌≡◌, Bool, true, false, List, [], ◌∷◌, ◌++◌, ◌⊎◌, eqb, length}
use Rattle.definition.specs.Basics.{Bytes}
use Rattle.definition.specs.Utf8.{Scalars, encode_all}
use Rattle.definition.specs.Text.{lexeme}

-- the empty text, one character that passes a test, one after the other, one or the other, any number of times
pub data Re : Type 0 where
  eps : Re
  chr : (ℕ → Bool) → Re
  seq : Re → Re → Re
  alt : Re → Re → Re
  many : Re → Re

-- w is words of P, one after the other
pub data Many (P : List ℕ → Type 0) : List ℕ → Type 0 where
  none : {w : List ℕ} → w ≡ [] → Many P w
  more : {w : List ℕ} (u v : List ℕ) → w ≡ u ++ v → P u → Many P v → Many P w

-- w is in the language of the expression
abbrev pub In : Re → List ℕ → Type 0
In eps w = w ≡ []
In (chr p) w = (a : ℕ) × (w ≡ a ∷ []) × (p a ≡ true)
In (seq r q) w = (u : List ℕ) × (v : List ℕ) × (w ≡ u ++ v) × In r u × In q v
In (alt r q) w = In r w ⊎ In q w
In (many r) w = Many (In r) w

-- ---- derived forms

-- no text at all
abbrev pub never : Re
never = chr (λ a. false)

abbrev pub at_least_one : Re → Re
at_least_one r = seq r (many r)

abbrev pub opt : Re → Re
opt r = alt eps r

abbrev pub char : ℕ → Re
char a = chr (λ b. eqb b a)

-- a word
abbrev pub word : List ℕ → Re
word [] = eps
word (a ∷ w) = seq (char a) (word w)

-- any one of some words
abbrev pub any_word : List (List ℕ) → Re
any_word [] = never
any_word (w ∷ ws) = alt (word w) (any_word ws)

-- ---- parts of a text

-- document 01, "It permits a part": the bytes from i up to e are characters in the expression's language
pub record Permits (r : Re) (s : Bytes) (i e : ℕ) : Type 0 where
  pub forward : i ≤ e
  pub within : e ≤ length s
  pub chars : List ℕ
  pub scalars : Scalars chars
  pub bytes : lexeme s i e ≡ encode_all chars
  pub fits : In r chars
