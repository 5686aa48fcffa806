-- Where no keyword operator stands, and that an identifier beyond ASCII leaves the later places out. Rests on the definitions alone.
use Rattle.std.specs.Prelude.{Some}
use Prim.Native.Nat.{ℕ, ◌≤◌}
use native.Mathlib.Omega.{arith}
use mathlib.Core.Path.{◌≡◌, refl, sym, ap, ◌∙◌}
use mathlib.Core.Bool.{Bool, true, false}
use lib.Dec.{eqb}
use borrow.Author.Tests.{eqb-true, le-ltb}
use Rattle.definition.specs.Basics.{Bytes}
use Rattle.definition.specs.Text.{star}
use Rattle.definition.specs.Chars.{is_anywhite, is_newline_char, is_ident_start, is_constructor_start, is_ident_char, is_uoperator}
use Rattle.definition.specs.Matchers.{only}
use Rattle.definition.specs.Select.{none_at, keep, found}
use Rattle.definition.specs.declared.Choice.{Choice}
use Rattle.lemmas.proofs.Cases.{by_test, by_if_lt}
use Rattle.laws_progress.proofs.Walks.{walk_forward, star_walks}
use Rattle.select_places.specs.Groups.{◌or◌, alone, quantified, at_beyond_ascii}

-- Where c is neither ∀ nor ∃, no keyword operator is tried.
pub quantified_no : (s : Bytes) (i c : ℕ) → (c ≡ 0x2200 → ⊥) → (c ≡ 0x2203 → ⊥) → quantified s i c ≡ none_at i
quantified_no s i c a b =
    by_test (λ (k : Choice). k ≡ none_at i) (eqb c 0x2200) (λ e. absurd (a (eqb-true c 0x2200 e))) λ _.
    by_test (λ (k : Choice). k ≡ none_at i) (eqb c 0x2203) (λ e. absurd (b (eqb-true c 0x2203 e))) λ _. refl

-- ---- identifiers

-- The better of two choices ends where the first does, or later.
keep_up : (b n : Choice) {i : ℕ} → i ≤ b.end → i ≤ (keep b n).end
unfolding keep
keep_up b n {i} h = by_if_lt (λ (k : Choice). i ≤ k.end) b.end n.end (λ l. omega arith) (λ _. h)

-- And where the second does, or later.
keep_new : (b n : Choice) → n.end ≤ (keep b n).end
unfolding keep
keep_new b n = by_if_lt (λ (k : Choice). n.end ≤ k.end) b.end n.end (λ _. omega arith) (λ l. l)

-- One that ends no later leaves the best as it is.
keep_stays : (b n : Choice) → n.end ≤ b.end → keep b n ≡ b
unfolding keep
keep_stays b n h = rw (le-ltb b.end n.end h)

-- So does what a test lets pass, where it would end no later, and nothing.
only_stays : (b : Choice) (i k e : ℕ) (t : Bool) → i ≤ b.end → e ≤ b.end → keep b (found i k 0 (only t (Some e))) ≡ b
only_stays b i k e true h l = keep_stays b (found i k 0 (Some e)) l
only_stays b i k e false h l = keep_stays b (none_at i) h

-- Three choices from i on.
pub three_up : (i : ℕ) (a b c : Choice) → i ≤ (keep (keep (keep (none_at i) a) b) c).end
three_up i a b c = keep_up (keep (keep (none_at i) a) b) c (keep_up (keep (none_at i) a) b (keep_up (none_at i) a (omega arith)))

-- Where c begins no identifier, place 14 finds nothing.
pub no_ident : (b : Choice) (i e : ℕ) {t : Bool} → i ≤ b.end → t ≡ false → b ≡ keep b (found i 14 0 (only t (Some e)))
no_ident b i e h q = sym (rw q (keep_stays b (none_at i) h))

-- Where it begins one, which ends at e, a constructor ends there too, and an operator no later.
ident_first : (b : Choice) (i j e : ℕ) {t : Bool} (u v : Bool) {r : Choice} → i ≤ b.end → j ≤ e → t ≡ true → r ≡ keep b (found i 14 0 (Some e))
    → r ≡ keep (keep (keep b (found i 14 0 (only t (Some e)))) (found i 15 0 (only u (Some e)))) (found i 49 0 (only v (Some j)))
ident_first b i j e {t} u v h l q x =
    let n : Choice = record { place = 14; end = e; word = 0 } in
    let k = keep b n in
    let a : i ≤ k.end = keep_up b n h in
    let z : e ≤ k.end = keep_new b n in
    x
    ∙ sym (only_stays k i 49 j v a (omega arith))
    ∙ ap (λ (m : Choice). keep m (found i 49 0 (only v (Some j)))) (sym (only_stays k i 15 e u a z))
    ∙ ap (λ (t : Bool). keep (keep (keep b (found i 14 0 (only t (Some e)))) (found i 15 0 (only u (Some e)))) (found i 49 0 (only v (Some j)))) (sym q)

-- So an identifier beyond ASCII is what is chosen among the places that may begin there.
pub ident_chosen : (s f : Bytes) (i c j : ℕ) {r : Choice} → is_ident_start c ≡ true
    → r ≡ keep
    (alone i 7 (only (is_anywhite f c) (Some (star (is_anywhite f) s j))) or found i 8 0 (only (is_newline_char c) (Some j)) or quantified s i c)
    (found i 14 0 (Some (star (is_ident_char f) s j)))
    → r ≡ at_beyond_ascii s f i c j
ident_chosen s f i c j q x =
    ident_first _ i j (star (is_ident_char f) s j) (is_constructor_start f c) (is_uoperator f c) (three_up i _ _ _) (walk_forward (star_walks (is_ident_char f) s j)) q x
