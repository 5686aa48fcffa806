-- Runs up to one character, and runs up to a line's end, are runs up to one of two; the offset after a character. Rests on the laws of
-- reading a character.
use Prim.Native.Nat.{ℕ, ◌+◌}
use mathlib.Core.Path.{◌≡◌, refl, sym, ap, subst, fun_ext}
use mathlib.Core.Bool.{Bool, true, false, not, ◌||◌}
use lib.Dec.{eqb}
use Rattle.definition.specs.Basics.{Bytes, ch}
use Rattle.definition.specs.Utf8.{sequence_at}
use Rattle.definition.specs.Text.{with_char, star, run_end, after}
use Rattle.definition.specs.Chars.{is_newline_char}
use Rattle.definition.specs.declared.Sequence.{Sequence}
use Rattle.definition.specs.declared.Sequence.TheVariants.{Char}
use Rattle.lemmas.proofs.Cases.{by_outcome}
use Rattle.utf8.proofs.Reading.{NoChar, with_none}
use Rattle.star.proofs.RunLaws.{no_char}
use Rattle.star.specs.Stops.{goes_on}

-- a test twice is the test
twice : (a b : Bool) → not (a || (a || b)) ≡ not (a || b)
twice true b = refl
twice false b = refl

-- Up to one character or a line's end.
pub one_stop : (a : ℕ) (s : Bytes) (i : ℕ) → star (goes_on a a) s i ≡ run_end (λ c. eqb c a || is_newline_char c) s i
one_stop a s i = ap (λ (p : ℕ → Bool). star p s i) (fun_ext (λ c. twice (eqb c a) (is_newline_char c)))

-- a line feed is a line's end
feed : (c : ℕ) → not (eqb c (ch "\n") || (eqb c (ch "\n") || is_newline_char c)) ≡ not (is_newline_char c)
unfolding is_newline_char
feed c = by_outcome (eqb c (ch "\n")) (λ e. rw e) (λ e. rw e)

-- Up to a line's end.
pub line_stop : (s : Bytes) (i : ℕ) → star (goes_on (ch "\n") (ch "\n")) s i ≡ run_end is_newline_char s i
line_stop s i = ap (λ (p : ℕ → Bool). star p s i) (fun_ext feed)

-- ---- the offset after a character

-- After a character it is its end.
pub after_char : (s : Bytes) (i : ℕ) {c w : ℕ} → sequence_at s i ≡ Char c w → i + w ≡ after s i
unfolding after
after_char s i {c} {w} e = sym (ap (λ (t : Sequence). with_char t i (λ c j. j) i) e)

-- Where the code's answer is no character it is the offset itself.
pub after_none : (s : Bytes) (i : ℕ) {q : Sequence} → q ≡ sequence_at s i → ((c w : ℕ) → q ≡ Char c w → ⊥) → i ≡ after s i
unfolding after
after_none s i {q} e h = sym (with_none (sequence_at s i) i _ i (subst NoChar e (no_char q h)))
