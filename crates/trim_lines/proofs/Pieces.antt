-- What comes of a piece after some bytes of its part of the text. Rests on the laws of `slice`.
use Prim.Native.Nat.{ℕ, ◌+◌, ◌-◌, ◌≤◌, ◌<◌}
use mathlib.Core.Path.{◌≡◌, refl, ap, ◌∙◌}
use mathlib.Core.List.{[], ◌∷◌, ◌++◌}
use native.Mathlib.Omega.{arith}
use lib.ListN.{length, get_or, drop, length-append}
use lib.Seq.{slice, length-slice}
use Rattle.std.proofs.lemmas.List.{drop_more, drop_all}
use Rattle.definition.specs.Basics.{Bytes, ch}
use Rattle.definition.specs.Utf8.{encode, encode_all}
use Rattle.definition.specs.Tables.{cps}
use Rattle.trim_lines.specs.Trimming.{piece}

-- What is added after a part, byte by byte.
mark_bytes : cps "*)" ≡ ch "*" ∷ ch ")" ∷ []
unfolding cps encode_all encode
mark_bytes = refl

-- What comes after i bytes of a part of the text, and at first the whole piece.
abbrev pub coming : Bytes → ℕ → Bytes
coming part i = drop i part ++ cps "*)"

pub coming_all : {part all : Bytes} → part ≡ all → coming part 0 ≡ all ++ cps "*)"
coming_all e = ap (λ (l : Bytes). l ++ cps "*)") e

-- Within the part it is the byte there and what follows.
pub coming_cons : (part : Bytes) (i : ℕ) → i < length part → coming part i ≡ get_or part i 0 ∷ coming part (i + 1)
coming_cons part i h = ap (λ (l : Bytes). l ++ cps "*)") (drop_more part i 0 h)

-- Past it, what is added.
pub coming_past : (part : Bytes) (i : ℕ) → length part ≤ i → coming part i ≡ ch "*" ∷ ch ")" ∷ []
coming_past part i h = ap (λ (l : Bytes). l ++ cps "*)") (drop_all i part h) ∙ mark_bytes

-- A piece has two bytes more than its part of the text.
pub piece_length : (at to : ℕ) (s : Bytes) → to ≤ length s → length (piece s at to) ≡ (to - at) + 2
piece_length at to s k = length-append (slice at to s) (cps "*)") ∙ omega (arith, length-slice at to s k, ap length mark_bytes)
