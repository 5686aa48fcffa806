-- Two laws that numbers need. A byte that is one of two letters, tested as the source does, is one of the list that the pattern has.
-- And where after the lesser of two ends always stands a character of at_least_one class, something that begins with no such character follows
-- the greatest end alone: a run is so, and what ends with a run. Rests on the shapes.
use Rattle.std.specs.Prelude.{if◌then◌else◌, Option}
use Prim.Native.Nat.{ℕ, ◌+◌, ◌<◌}
use mathlib.Core.Path.{◌≡◌, refl, sym, ap₂, subst, ◌∙◌, fun_ext}
use mathlib.Core.Bool.{Bool, true, false, not, ◌||◌, false≢true}
use mathlib.Core.List.{List, [], ◌∷◌}
use mathlib.Core.Logic.{◌⊎◌, inl, inr}
use native.Mathlib.Omega.{arith}
use lib.Dec.{eqb}
use borrow.Author.Tests.{eqb-true, eq-eqb, not-true}
use Rattle.definition.specs.Basics.{Bytes, mem_cp}
use Rattle.definition.specs.Text.{byte_has}
use Rattle.definition.specs.Matchers.{◌then◌, max_list, only}
use Rattle.definition.specs.Regex.{Re, chr, at_least_one}
use Rattle.definition.specs.Samples.{nullable}
use Rattle.lemmas.proofs.Cases.{by_order}
use Rattle.laws_progress.proofs.Matches.{Small, small_is, small_or}
use Rattle.laws_longest.proofs.Language.{Step, step, At}
use Rattle.laws_longest.proofs.Ends.{Right, Single, some_end, right_nothing, right_map, right_later, right_last, Then}
use Rattle.laws_longest.proofs.Starts.{starts, step_map, step_same, at_first, at_ahead, apart, all_pass, listed_passes}
use Rattle.laws_longest.proofs.Shapes.{byte_step, right_byte, run_more}

-- ---- two letters

-- A character is one of two.
abbrev pub two : ℕ → ℕ → ℕ → Bool
two a b c = eqb c a || eqb c b

-- Two numbers are found the same in either order.
turned : (a b : ℕ) → eqb a b ≡ eqb b a
turned a b = go (eqb a b) (eqb b a) (λ e. eq-eqb b a (sym (eqb-true a b e))) (λ e. eq-eqb a b (sym (eqb-true b a e)))
  where
    go : (x y : Bool) → (x ≡ true → y ≡ true) → (y ≡ true → x ≡ true) → x ≡ y
    go true y f g = sym (f refl)
    go false true f g = g refl
    go false false f g = refl

-- Being one of two is being in the list of them.
pub two_listed : (a b : ℕ) → two a b ≡ (λ c. mem_cp c (a ∷ b ∷ []))
unfolding mem_cp
two_listed a b = fun_ext (λ c. ap₂ ◌||◌ (turned c a) (turned c b) ∙ go (eqb a c) (eqb b c))
  where
    go : (x y : Bool) → x || y ≡ elim x [ true ↦ true | false ↦ elim y [ true ↦ true | false ↦ false ] ]
    go true y = refl
    go false true = refl
    go false false = refl

-- A test for two characters of ASCII passes ASCII alone.
small_two : (a b : ℕ) → a < 0x80 → b < 0x80 → Small (two a b)
small_two a b h k = small_or (small_is a h) (small_is b k)

-- No character of a list passes a test that none of them passes.
pub none_listed : (l : List ℕ) (p : ℕ → Bool) → all_pass (λ c. not (p c)) l ≡ true → (c : ℕ) → mem_cp c l ≡ true → p c ≡ true → ⊥
none_listed l p h c t e = false≢true (sym (not-true _ (listed_passes (λ c. not (p c)) l h c t)) ∙ e)

module _ (s : Bytes) where
  -- A byte that is one of two letters of ASCII is found first, and then what a matcher finds after it.
  pub right_two : {Q : ℕ → ℕ → Type 0} {m : Option ℕ} (a b : ℕ) → a < 0x80 → b < 0x80 → (i j : ℕ) → j ≡ i + 1 → Right (Q j) m
      → Right (Then (Step s (λ c. mem_cp c (a ∷ b ∷ [])) i) Q) (only (byte_has (two a b) s i) m)
  right_two {Q} {m} a b x y i j e h =
      subst (λ (p : ℕ → Bool). Right (Then (Step s p i) Q) (only (byte_has (two a b) s i) m)) (two_listed a b)
      (right_byte s (small_two a b x y) i j e (λ _. h))

  -- Where such a byte stands nothing does that begins with neither.
  pub two_else : (a b : ℕ) → a < 0x80 → b < 0x80 → (q : Re) → nullable q ≡ false → all_pass (λ c. not (starts q c)) (a ∷ b ∷ []) ≡ true
      → (i : ℕ) → byte_has (two a b) s i ≡ true → (k : ℕ) → At s q i k → ⊥
  two_else a b x y q full n i t k h =
      apart s (chr (λ c. mem_cp c (a ∷ b ∷ []))) q i (i + 1) k refl full (none_listed (a ∷ b ∷ []) (starts q) n)
      (subst (λ (p : ℕ → Bool). Step s p i (i + 1)) (two_listed a b) (byte_step s (small_two a b x y) i t)) h

-- ---- alternatives

-- Where a test chooses between two matchers, and the second has no end where it passes, the choice is right for the ends of both.
pub right_branch : {P Q : ℕ → Type 0} (m n : Option ℕ) (t : Bool) → Right P (only t m) → (t ≡ true → (k : ℕ) → Q k → ⊥) → Right Q n
    → Right (λ e. P e ⊎ Q e) (if t then m else n)
right_branch {P} {Q} m n true a out b = right_map (λ e p. inl p) first a
  where
    first : (e : ℕ) → P e ⊎ Q e → P e
    first e (inl p) = p
    first e (inr q) = absurd (out refl e q)
right_branch {P} {Q} m n false a out b = right_map (λ e q. inr q) second b
  where
    second : (e : ℕ) → P e ⊎ Q e → Q e
    second e (inl p) = some_end (a.top e p).1
    second e (inr q) = q

-- The latest in a list of two right answers is right for the ends of both.
pub right_max : {P Q : ℕ → Type 0} {m n : Option ℕ} → Right P m → Right Q n → Right (λ e. P e ⊎ Q e) (max_list (m ∷ n ∷ []))
unfolding max_list
right_max {Q = Q} a b = right_later a (right_map (λ e. found e) (λ e q. inl q) (right_later b (right_nothing {P = λ e. ⊥} (λ k n. n))))
  where
    found : (e : ℕ) → Q e ⊎ ⊥ → Q e
    found e (inl q) = q
    found e (inr none) = absurd none

-- ---- ends that can go on

-- After the lesser of two ends stands a character that passes a test.
abbrev pub Continues : Bytes → (ℕ → Bool) → (ℕ → Type 0) → Type 0
Continues s p P = (j k : ℕ) → P j → P k → j < k → (n : ℕ) × Step s p j n

-- Whatever is in two parts is so in one way.
abbrev pub Parted : (ℕ → Type 0) → (ℕ → ℕ → Type 0) → Type 0
Parted P Q = (m n j k : ℕ) → P m → P n → Q m j → Q n k → m ≡ n

-- A first part with one end at most leaves one way.
pub single_parted : {P : ℕ → Type 0} (Q : ℕ → ℕ → Type 0) → Single P → Parted P Q
single_parted Q one m n j k a b _ _ = one m n a b

-- What relates any two ends of the second part then relates any two ends of both parts.
pub parted_then : {P : ℕ → Type 0} {Q : ℕ → ℕ → Type 0} (R : ℕ → ℕ → Type 0) → Parted P Q → ((m j k : ℕ) → Q m j → Q m k → R j k)
    → (j k : ℕ) → Then P Q j → Then P Q k → R j k
parted_then {Q = Q} R one h j k (a, x, y) (b, u, v) = h b j k (subst (λ (n : ℕ). Q n j) (one a b j k x u y v) y) v

module _ (s : Bytes) (p : ℕ → Bool) where
  -- A run goes on by its own characters.
  pub run_continues : (q : ℕ → Bool) → ((c : ℕ) → q c ≡ true → p c ≡ true) → (i : ℕ) → Continues s p (At s (at_least_one (chr q)) i)
  run_continues q f i j k (a, x, y) (b, u, v) h = let r = run_more s (step a x y) (step b u v) h in (r.0, step_map f r.1)

  -- So does what ends with something that goes on so.
  pub then_continues : {P : ℕ → Type 0} {Q : ℕ → ℕ → Type 0} → Parted P Q → ((m : ℕ) → Continues s p (Q m)) → Continues s p (Then P Q)
  then_continues one h = parted_then (λ j k. j < k → (n : ℕ) × Step s p j n) one h

  -- Two alternatives that exclude each other go on as each does.
  pub alt_continues : {P Q : ℕ → Type 0} → Continues s p P → Continues s p Q → ((j k : ℕ) → P j → Q k → ⊥) → Continues s p (λ e. P e ⊎ Q e)
  alt_continues f g never j k (inl a) (inl b) h = f j k a b h
  alt_continues f g never j k (inl a) (inr b) h = absurd (never j k a b)
  alt_continues f g never j k (inr a) (inl b) h = absurd (never k j b a)
  alt_continues f g never j k (inr a) (inr b) h = g j k a b h

  module _ {P : ℕ → Type 0} (goes : Continues s p P) (q : Re) (full : nullable q ≡ false) (other : (c : ℕ) → p c ≡ true → starts q c ≡ true → ⊥) where
    -- Something that begins with no such character stands at no end but the greatest.
    at_greatest : (j k e : ℕ) → P j → P k → j < k → At s q j e → ⊥
    at_greatest j k e a b h t =
        let x = (goes j k a b h).1 in
        let y = (at_first s q j e t (at_ahead s q j e full t)).1 in
        other x.code x.passes (step_same x y).1

    -- So it stands after one end alone.
    pub continues_parted : Parted P (At s q)
    continues_parted m n j k a b x y =
        by_order m n (λ h. absurd (at_greatest m n j a b h x)) (λ h. by_order n m (λ l. absurd (at_greatest n m k b a l y)) (λ l. omega arith))

    -- So its matcher goes on from the greatest end rightly.
    pub continues_then : {m : Option ℕ} {g : ℕ → Option ℕ} → Right P m → ((j : ℕ) → Right (At s q j) (g j)) → Right (Then P (At s q)) (m then g)
    continues_then r h = right_last at_greatest r (λ j _. h j)
