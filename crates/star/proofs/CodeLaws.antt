-- What the functions of this crate ask, over any test: one character that the code finds or doesn't, the loops by bytes, and those that
-- decode. `t` is what the code's test answers, `q` what it reads. Rests on the laws of runs.
use Rattle.std.specs.Prelude.{Option, Some, None}
use Rattle.std.specs.Bool.{then_some}
use Prim.Native.Nat.{ℕ, ◌+◌, ◌≤◌, ◌<◌, max}
use mathlib.Core.Path.{◌≡◌, refl, sym, ap, subst, ◌∙◌}
use native.Mathlib.Omega.{arith}
use Rattle.lemmas.proofs.Cases.{by_outcome, by_order}
use mathlib.Core.Bool.{Bool, true, false, false≢true}
use lib.Dec.{leb}
use lib.ListN.{length, get_or}
use Rattle.definition.specs.Basics.{Bytes}
use Rattle.definition.specs.Utf8.{sequence_at}
use Rattle.definition.specs.Text.{byte_has, star}
use Rattle.definition.specs.Matchers.{one}
use Rattle.definition.specs.declared.Sequence.{Sequence}
use Rattle.definition.specs.declared.Sequence.TheVariants.{Char}
use Rattle.laws_progress.proofs.Characters.{ascii_at}
use Rattle.laws_progress.proofs.Matches.{Small}
use Rattle.match_lit.proofs.ByteLaws.{has_within, has_inside}
use Rattle.star.specs.Beyond.{Beyond}
use Rattle.utf8.proofs.Star.{star_from}
use Rattle.star.proofs.RunLaws.{one_yes, one_no, one_end, run_on, run_past, run_stop, byte_on, byte_stop, ascii_rest, ascii_end}

-- ---- one character

module _ (p : ℕ → Bool) (s : Bytes) (i : ℕ) where
  -- What stands at the offset is found, if it passes.
  pub decoded_one : {q : Sequence} {c w : ℕ} {t : Bool} {m : Option ℕ} → m ≡ then_some t (i + w) → q ≡ sequence_at s i → q ≡ Char c w → t ≡ p c
      → m ≡ one p s i
  decoded_one {c} {t} answer read is e =
      answer
      ∙ by_outcome (p c) (λ y. rw (e ∙ y) (sym (one_yes p s i (sym read ∙ is) y))) (λ n. rw (e ∙ n) (sym (one_no p s i (sym read ∙ is) n)))

  -- A byte of ASCII stands there by itself; the code tests it by q, which passes of ASCII what p does.
  pub ascii_one : {q : ℕ → Bool} {b : ℕ} {t : Bool} {m : Option ℕ} → m ≡ then_some t (i + 1) → ((c : ℕ) → c < 0x80 → p c ≡ q c) → i < length s
      → b ≡ get_or s i 0 → b < 0x80 → t ≡ q b → m ≡ one p s i
  ascii_one {b} answer agree h here ascii e =
      decoded_one answer (sym (ascii_at s i h (subst (λ (x : ℕ). x < 0x80) here ascii))) refl (e ∙ sym (agree b ascii) ∙ ap p here)

-- ---- loops: the run from j ends where the run from i does

abbrev pub SameEnd : (ℕ → Bool) → Bytes → ℕ → ℕ → Type 0
SameEnd p s i j = star p s j ≡ star p s i

-- What the test says of a byte within the text.
pub byte_here : (p : ℕ → Bool) (s : Bytes) (j : ℕ) → j < length s → {t : Bool} → t ≡ p (get_or s j 0) → t ≡ byte_has p s j
byte_here p s j h is = is ∙ sym (has_within p s j h)

-- By bytes, over a test that only ASCII passes.
module _ (p : ℕ → Bool) (small : Small p) (s : Bytes) (i j : ℕ) {t : Bool} (is : t ≡ byte_has p s j) (inv : SameEnd p s i j) where
  -- The loop goes on after a byte that passes,
  pub byte_turn : t ≡ true → SameEnd p s i (j + 1)
  byte_turn e = sym (byte_on p small s j (sym is ∙ e)) ∙ inv

  -- and ends at another.
  pub byte_end : t ≡ false → j ≡ star p s i
  byte_end e = sym (byte_stop p small s j (sym is ∙ e)) ∙ inv

-- Or it ends with the text; past that the run from i is empty.
pub text_end : (p : ℕ → Bool) (s : Bytes) (i j : ℕ) → SameEnd p s i j → length s ≤ j → i ≤ j → (i ≤ length s → j ≤ length s) → max i (length s) ≡ star p s i
text_end p s i j inv out from within =
    by_order i (length s)
    (λ h. let e : max i (length s) ≡ j = omega arith in e ∙ sym (run_stop p s j (one_end p s j out)) ∙ inv)
    (λ h. let e : max i (length s) ≡ i = omega arith in e ∙ sym (run_stop p s i (one_end p s i h)))

-- A character that passes ends past its start, within the text.
pub decoded_past : (p : ℕ → Bool) (s : Bytes) (j : ℕ) {m : Option ℕ} {k : ℕ} → m ≡ one p s j → m ≡ Some k → (j < k) × (k ≤ length s)
decoded_past p s j is e = run_past p s j (sym is ∙ e)

-- Each character decoded.
module _ (p : ℕ → Bool) (s : Bytes) (i j : ℕ) {m : Option ℕ} (is : m ≡ one p s j) where
  -- The loop goes on after a character that passes,
  pub decoded_turn : {k : ℕ} → m ≡ Some k → SameEnd p s i j → SameEnd p s i k
  decoded_turn e inv = sym (run_on p s j (sym is ∙ e)) ∙ inv

  -- and ends where none does.
  pub decoded_end : m ≡ None → SameEnd p s i j → j ≡ star p s i
  decoded_end e inv = sym (run_stop p s j (sym is ∙ e)) ∙ inv

-- ---- runs beyond ASCII, and by ASCII between them

-- Beyond ASCII the loop ends at a character that doesn't pass,
pub beyond_stop : (p : ℕ → Bool) (s : Bytes) (i j : ℕ) {m : Option ℕ} → m ≡ one p s j → m ≡ None → SameEnd p s i j → i ≤ j → (i < j → j ≤ length s) → Beyond p s i j
beyond_stop p s i j is e inv from within = record { on = inv; over = λ _. decoded_end p s i j is e inv; from = from; within = within }

-- or where what stands isn't beyond ASCII.
pub beyond_end : (p : ℕ → Bool) (s : Bytes) (i j : ℕ) {t : Bool} → t ≡ byte_has (λ b. leb 0x80 b) s j → t ≡ false → SameEnd p s i j → i ≤ j
    → (i < j → j ≤ length s) → Beyond p s i j
beyond_end p s i j is e inv from within = record {
  on = inv;
  over = λ h. absurd (false≢true (sym (sym is ∙ e) ∙ h));
  from = from;
  within = within;
}

-- Of ASCII, q passes what p does, and nothing else; j is where the ASCII from k ends.
module _ {p q : ℕ → Bool} (small : Small q) (agree : (c : ℕ) → c < 0x80 → p c ≡ q c) (s : Bytes) (i j k : ℕ) (is : j ≡ star q s k) (inv : SameEnd p s i k) where
  -- After it the run goes on,
  pub mixed_on : SameEnd p s i j
  mixed_on = rw is (ascii_rest small agree s k) ∙ inv

  -- and where what stands there isn't beyond ASCII it has ended.
  pub mixed_end : {t : Bool} → t ≡ byte_has (λ b. leb 0x80 b) s j → t ≡ false → j ≡ star p s i
  mixed_end o e = is ∙ ascii_end small agree s k (rw is at (sym o ∙ e)) ∙ inv

-- After characters beyond ASCII from j, where one stands, up to e, where none does, the run is on within the text; so it is after the
-- ASCII from there.
pub mixed_past : (p q : ℕ → Bool) (s : Bytes) (j e k : ℕ) {t u : Bool} → t ≡ byte_has (λ b. leb 0x80 b) s j → t ≡ true → u ≡ byte_has (λ b. leb 0x80 b) s e
    → u ≡ false → Beyond p s j e → k ≡ star q s e → (j < k) × (j < length s)
mixed_past p q s j e k o x r y b is =
    let within : j < length s = has_inside (λ b. leb 0x80 b) s j (sym o ∙ x) in
    let moved : j ≡ e → ⊥ = λ same. false≢true (sym y ∙ r ∙ rw (← same) (sym o ∙ x)) in
    (omega (arith, b.from, moved, star_from q s e), within)
