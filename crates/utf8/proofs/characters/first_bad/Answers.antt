use native.Mathlib.Omega.{arith}
use borrow.Author.Rules.{rules}
use Prim.Native.Nat.{ℕ, ◌+◌, ◌<◌}
use mathlib.Core.Path.{◌≡◌, refl, sym, ◌∙◌}
use lib.ListN.{length, get_or}
use Rattle.definition.specs.Basics.{Bytes}
use Rattle.definition.specs.Utf8.{sequence, sequence_at}
use Rattle.definition.specs.Text.{star, first_bad}
use Rattle.definition.specs.declared.Sequence.{Sequence}
use Rattle.definition.specs.declared.Sequence.TheVariants.{Char, Bad, End}
use Rattle.lemmas.proofs.Cases.{tests}
use Rattle.utf8.proofs.Reading.{read_within, read_end, NoChar}
use Rattle.utf8.proofs.Character.{decoded_within}
use Rattle.utf8.proofs.Star.{star_on, star_none}
use Rattle.utf8.proofs.characters.first_bad.Invariants.{any}
use Rattle.utf8.proofs.characters.first_bad.Goals as goal

-- Past a character the run to the first bad offset goes on.
over : (s : Bytes) (i : ℕ) {c w : ℕ} → sequence_at s i ≡ Char c w → star any s i ≡ first_bad s → star any s (i + w) ≡ first_bad s
over s i {c} {w} e inv = sym (star_on any s i c w e refl) ∙ inv

-- Where no character stands it ends.
here : (s : Bytes) (i : ℕ) {t : Sequence} → sequence_at s i ≡ t → NoChar t → star any s i ≡ first_bad s → i ≡ first_bad s
here s i e h inv = sym (star_none any s i (rw e h)) ∙ inv

-- What is no character at any width has none.
no_char : (t : Sequence) → ((c w : ℕ) → t ≡ Char c w → ⊥) → NoChar t
no_char (Char c w) h = h c w refl
no_char Bad h = tt
no_char End h = tt

-- A byte below 80 is a character by itself.
ascii : (s : Bytes) (i : ℕ) → i < length s → get_or s i 0 < 0x80 → sequence_at s i ≡ Char (get_or s i 0) 1
unfolding sequence
ascii s i h k = read_within s i h ∙ simp tests

pub loop-i-init : goal.loop-i-init
unfolding first_bad
loop-i-init c = refl

pub loop-i-preserved-then-text-i-lt-ASCII_LIMIT : goal.loop-i-preserved-then-text-i-lt-ASCII_LIMIT
loop-i-preserved-then-text-i-lt-ASCII_LIMIT c =
    over _ _ (ascii _ _ c.loop-i-test.true c.if-text-i-lt-ASCII_LIMIT.true) c.loop-i.invariant

pub overflow_add-i-in-loop-i : goal.overflow_add-i-in-loop-i
overflow_add-i-in-loop-i c =
    let w = decoded_within _ _ c.sequence_at.ensures c.in-Char.is in
    search (rules, w)

pub loop-i-smaller : goal.loop-i-smaller
loop-i-smaller c =
    let w = decoded_within _ _ c.sequence_at.ensures c.in-Char.is in
    omega (arith, w)

pub loop-i-preserved : goal.loop-i-preserved
loop-i-preserved c =
    over _ _ (sym c.sequence_at.ensures ∙ c.in-Char.is) c.loop-i.invariant

pub returns-in_default : goal.returns-in_default
returns-in_default c = here _ _ (sym c.sequence_at.ensures) (no_char _ c.in_default.not-Char) c.loop-i.invariant

pub returns : goal.returns
returns c = here _ _ (read_end _ _ c.loop-i-test.false) tt c.loop-i.invariant
