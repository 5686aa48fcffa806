-- The first characters of an expression, computed of it, and what they decide: where no such character stands it leads nowhere, a test
-- for one in front of a matcher changes nothing, and two expressions with no first character in common exclude each other.
-- Rests on the language over offsets.
use Rattle.std.specs.Prelude.{Option}
use Prim.Native.Nat.{ℕ, ◌+◌, ◌≤◌, ◌<◌}
use mathlib.Core.Path.{◌≡◌, refl, sym, subst, ◌∙◌}
use mathlib.Core.Bool.{Bool, true, false, ◌&&◌, ◌||◌, false≢true}
use mathlib.Core.List.{List, [], ◌∷◌}
use mathlib.Core.Logic.{inl, inr}
use native.Mathlib.Omega.{arith}
use lib.Dec.{eqb}
use lib.ListN.{length}
use borrow.Author.Tests.{eqb-true}
use Rattle.definition.specs.Basics.{Bytes, mem_cp}
use Rattle.definition.specs.Utf8.{sequence_at}
use Rattle.definition.specs.Text.{char_has}
use Rattle.definition.specs.Regex.{Re, eps, chr, seq, alt, many}
use Rattle.definition.specs.Samples.{nullable}
use Rattle.definition.specs.Matchers.{only}
use Rattle.definition.specs.declared.Sequence.TheVariants.{Char}
use Rattle.utf8.proofs.Character.{char_read, char_within}
use Rattle.lemmas.proofs.Cases.{by_order}
use Rattle.lemmas.proofs.Cases.{both, by_test}
use Rattle.laws_longest.proofs.Language.{Step, Chain, stop, step, At}
use Rattle.laws_longest.proofs.Ends.{Right, right_only, Single, single_then}

-- A character may be the first of a part that the expression permits.
abbrev pub starts : Re → ℕ → Bool
starts eps c = false
starts (chr p) c = p c
starts (seq r q) c = elim (nullable r) [ true ↦ starts r c || starts q c | false ↦ starts r c ]
starts (alt r q) c = starts r c || starts q c
starts (many r) c = starts r c

-- ---- tests

-- A disjunction passes where its first test does.
pub left : (a b : Bool) → a ≡ true → a || b ≡ true
left true b e = refl
left false b e = absurd (false≢true e)

-- It passes where its second does.
pub right : (a b : Bool) → b ≡ true → a || b ≡ true
right true b e = refl
right false b e = e

-- Where it fails both fail.
neither : (a b : Bool) → a || b ≡ false → (a ≡ false) × (b ≡ false)
neither true b e = absurd (false≢true (sym e))
neither false b e = (refl, e)

-- ---- the character at an offset

module _ {s : Bytes} {p : ℕ → Bool} {i e : ℕ} where
  -- A step moves on, within the text.
  pub step_on : Step s p i e → (i < e) × (e ≤ length s)
  step_on t = let w = char_within (char_read t.read) in omega (arith, t.ends)

  -- The character of a step passes its test.
  pub step_has : Step s p i e → char_has p s i ≡ true
  unfolding char_has
  step_has t = rw (t.read, char_has) t.passes

  -- What passes one test passes another.
  pub step_map : {q : ℕ → Bool} → ((c : ℕ) → p c ≡ true → q c ≡ true) → Step s p i e → Step s q i e
  step_map f t = record { code = t.code; width = t.width; read = t.read; ends = t.ends; passes = f t.code t.passes }

-- Two steps from one offset are of one character.
pub step_same : {s : Bytes} {p q : ℕ → Bool} {i j k : ℕ} (a : Step s p i j) → Step s q i k → (j ≡ k) × (q a.code ≡ true)
step_same {q = q} {i} {j} {k} a b =
    let z : Char a.code a.width ≡ Char b.code b.width = sym a.read ∙ b.read in
    let w : a.width ≡ b.width = cc in
    let c : b.code ≡ a.code = cc in
    (omega (arith, a.ends, b.ends), subst (λ (x : ℕ). q x ≡ true) c b.passes)

-- A step is of the character that is read.
pub step_code : {s : Bytes} {p : ℕ → Bool} {i e c w : ℕ} → sequence_at s i ≡ Char c w → Step s p i e → (e ≡ i + w) × (p c ≡ true)
step_code {s} {p} {i} {e} {c} {w} q t =
    let r = step_same {p = λ x. true} {j = i + w} (record { code = c; width = w; read = q; ends = refl; passes = refl }) t in
    (sym r.0, r.1)

-- ---- an expression's parts and first characters

-- It may permit parts of one length only: no alternative and no repetition is in it.
abbrev pub one_way : Re → Bool
one_way eps = true
one_way (chr p) = true
one_way (seq r q) = one_way r && one_way q
one_way (alt r q) = false
one_way (many r) = false

-- Where not both are true, one of them is false.
by_empty : (a b : Bool) {X : Type 0} → a && b ≡ false → (a ≡ false → X) → (b ≡ false → X) → X
by_empty true b e f g = g e
by_empty false b e f g = f refl

module _ (s : Bytes) where
  -- A chain of steps that never lead back doesn't lead back.
  pub chain_forward : {P : ℕ → ℕ → Type 0} → ((i e : ℕ) → P i e → i ≤ e) → {i e : ℕ} → Chain P i e → i ≤ e
  chain_forward f (stop q) = omega arith
  chain_forward f {i} (step j a k) = omega (arith, f i j a, chain_forward f k)

  -- No expression leads back.
  pub at_forward : (r : Re) (i e : ℕ) → At s r i e → i ≤ e
  at_forward eps i e h = omega arith
  at_forward (chr p) i e h = omega (arith, (step_on h).0)
  at_forward (seq r q) i e (m, a, b) = omega (arith, at_forward r i m a, at_forward q m e b)
  at_forward (alt r q) i e (inl h) = at_forward r i e h
  at_forward (alt r q) i e (inr h) = at_forward q i e h
  at_forward (many r) i e h = chain_forward (at_forward r) h

  -- One that permits no empty text leads on.
  pub at_ahead : (r : Re) (i e : ℕ) → nullable r ≡ false → At s r i e → i < e
  at_ahead eps i e n h = absurd (false≢true (sym n))
  at_ahead (chr p) i e n h = (step_on h).0
  at_ahead (seq r q) i e n (m, a, b) =
      by_empty (nullable r) (nullable q) n
      (λ x. omega (arith, at_ahead r i m x a, at_forward q m e b))
      (λ x. omega (arith, at_forward r i m a, at_ahead q m e x b))
  at_ahead (alt r q) i e n (inl h) = at_ahead r i e (neither (nullable r) (nullable q) n).0 h
  at_ahead (alt r q) i e n (inr h) = at_ahead q i e (neither (nullable r) (nullable q) n).1 h
  at_ahead (many r) i e n h = absurd (false≢true (sym n))

  -- One with no alternative and no repetition leads to one end at most.
  pub at_single : (r : Re) (i : ℕ) → one_way r ≡ true → Single (At s r i)
  at_single eps i n = λ j k a b. sym a ∙ b
  at_single (chr p) i n = λ j k a b. (step_same a b).0
  at_single (seq r q) i n =
      let w = both (one_way r) (one_way q) n in
      single_then (at_single r i w.0) (λ m. at_single q m w.1)
  at_single (alt r q) i n = absurd (false≢true n)
  at_single (many r) i n = absurd (false≢true n)

  -- A first character stands at i.
  abbrev pub First : Re → ℕ → Type 0
  First r i = (k : ℕ) × Step s (starts r) i k

  -- A first character of the first part is one of both parts.
  first_seq : (r q : Re) {i k : ℕ} → Step s (starts r) i k → Step s (starts (seq r q)) i k
  first_seq r q = step_map (λ c t. by_test (λ (b : Bool). b ≡ true) (nullable r) (λ _. left (starts r c) (starts q c) t) (λ _. t))

  -- So is one of the second part, where the first may be empty.
  first_after : (r q : Re) {i k : ℕ} → nullable r ≡ true → Step s (starts q) i k → Step s (starts (seq r q)) i k
  first_after r q e = step_map (λ c t. by_test (λ (b : Bool). b ≡ true) (nullable r) (λ _. right (starts r c) (starts q c) t) (λ n. absurd (false≢true (sym n ∙ e))))

  -- A chain that moves on has the first character of its first step that does.
  chain_first : {P : ℕ → ℕ → Type 0} {X : ℕ → Type 0} → ((i e : ℕ) → P i e → i < e → X i) → ((i e : ℕ) → P i e → i ≤ e) → {i e : ℕ} → Chain P i e → i < e → X i
  chain_first f g (stop q) h = absurd (omega arith)
  chain_first {X = X} f g {i} (step j a k) h =
      let rest = chain_first {X = X} f g k in
      by_order i j (f i j a) (λ l. let same : j ≡ i = omega (arith, g i j a) in subst X same (rest (omega arith)))

  -- Where an expression leads on, one of its first characters stands.
  pub at_first : (r : Re) (i e : ℕ) → At s r i e → i < e → First r i
  at_first eps i e h l = absurd (omega arith)
  at_first (chr p) i e h l = (e, h)
  at_first (seq r q) i e (m, a, b) l = go (at_first r i m a) (λ h. at_first q i e h l) (nullable r) refl
    where
      go : (i < m → First r i) → (At s q i e → First q i) → (t : Bool) → nullable r ≡ t → First (seq r q) i
      go f g false n = let x = f (at_ahead r i m n a) in (x.0, first_seq r q x.1)
      go f g true n =
          by_order i m (λ h. let x = f h in (x.0, first_seq r q x.1))
          (λ h. let same : m ≡ i = omega (arith, at_forward r i m a) in
          let x = g (subst (λ (k : ℕ). At s q k e) same b) in (x.0, first_after r q n x.1))
  at_first (alt r q) i e (inl h) l = let x = at_first r i e h l in (x.0, step_map (λ c. left (starts r c) (starts q c)) x.1)
  at_first (alt r q) i e (inr h) l = let x = at_first q i e h l in (x.0, step_map (λ c. right (starts r c) (starts q c)) x.1)
  at_first (many r) i e h l = chain_first {X = First r} (at_first r) (at_forward r) h l

  -- ---- what first characters decide

  -- Two expressions with no first character in common exclude each other.
  pub apart : (r q : Re) (i j k : ℕ) → nullable r ≡ false → nullable q ≡ false → ((c : ℕ) → starts r c ≡ true → starts q c ≡ true → ⊥)
      → At s r i j → At s q i k → ⊥
  apart r q i j k m n d a b =
      let x = (at_first r i j a (at_ahead r i j m a)).1 in
      let y = (at_first q i k b (at_ahead q i k n b)).1 in
      d x.code x.passes (step_same x y).1

  -- A test in front that the first character passes changes nothing.
  pub guard_at : (r : Re) (i : ℕ) {p : ℕ → Bool} {m : Option ℕ} → nullable r ≡ false
      → ((c w : ℕ) → sequence_at s i ≡ Char c w → starts r c ≡ true → p c ≡ true) → Right (At s r i) m → Right (At s r i) (only (char_has p s i) m)
  guard_at r i {p} n f h = right_only (char_has p s i) has (λ _. h)
    where
      has : (k : ℕ) → At s r i k → char_has p s i ≡ true
      has k a =
          let t = (at_first r i k a (at_ahead r i k n a)).1 in
          step_has {e = i + t.width} (record { code = t.code; width = t.width; read = t.read; ends = refl; passes = f t.code t.width t.read t.passes })

  -- The same of one that every first character passes.
  pub guard : (r : Re) (i : ℕ) {p : ℕ → Bool} {m : Option ℕ} → nullable r ≡ false → ((c : ℕ) → starts r c ≡ true → p c ≡ true)
      → Right (At s r i) m → Right (At s r i) (only (char_has p s i) m)
  guard r i n f h = guard_at r i n (λ c w q t. f c t) h

-- ---- characters of a list

-- Every character of a list passes a test.
abbrev pub all_pass : (ℕ → Bool) → List ℕ → Bool
all_pass p [] = true
all_pass p (c ∷ l) = p c && all_pass p l

-- Then one that is in the list does.
pub listed_passes : (p : ℕ → Bool) (l : List ℕ) → all_pass p l ≡ true → (c : ℕ) → mem_cp c l ≡ true → p c ≡ true
unfolding mem_cp
listed_passes p [] h c e = absurd (false≢true e)
listed_passes p (d ∷ l) h c e =
    let k = both (p d) (all_pass p l) h in
    by_test (λ (t : Bool). t ≡ true → p c ≡ true) (eqb d c)
    (λ q _. subst (λ (x : ℕ). p x ≡ true) (eqb-true d c q) k.0)
    (λ _ r. listed_passes p l k.1 c r)
    e
