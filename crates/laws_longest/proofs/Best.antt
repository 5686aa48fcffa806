-- The choice among places: what is kept is the longest end, and of those the one of the earliest place. It speaks of numbers: P k e
-- says that place k has an end e, whatever a place is. Rests on the definition of `keep`, of `try_words` and of `try_all` alone.
use Rattle.std.specs.Prelude.{Option, Some, None}
use Prim.Native.Nat.{ℕ, suc, ◌+◌, ◌≤◌, ◌<◌}
use Prim.Native.String.{String}
use mathlib.Core.Path.{◌≡◌, refl, sym, ap, subst, ◌∙◌}
use mathlib.Core.Bool.{Bool, true, ◌&&◌}
use mathlib.Core.List.{List, [], ◌∷◌}
use mathlib.Core.Logic.{◌⊎◌, inl, inr}
use native.Mathlib.Nat.{add-zero}
use native.Mathlib.Decide.{ℕ_discrete}
use native.Mathlib.Omega.{arith}
use lib.ListN.{length, get_or}
use Rattle.definition.specs.Basics.{Bytes}
use Rattle.definition.specs.Tables.{cps}
use Rattle.definition.specs.Select.{none_at, keep, found, try_words, try_all}
use Rattle.definition.specs.declared.Choice.{Choice}
use Rattle.lemmas.proofs.Cases.{by_if_lt, both}
use Rattle.lemmas.proofs.Each.{Numbered, no_more, ◌⨟◌}
use Rattle.laws_longest.proofs.Ends.{Right, some_end}

-- ---- what one place chooses

-- The choice of place k at i is the greatest of the ends that P has; a choice that isn't past i is none.
pub record Picks (P : ℕ → Type 0) (i k : ℕ) (c : Choice) : Type 0 where
  pub forward : i ≤ c.end
  pub fits : i < c.end → (c.place ≡ k) × P c.end
  pub top : (e : ℕ) → P e → e ≤ c.end

module _ {i k : ℕ} where
  -- The same ends, said in another way.
  pub picks_map : {P Q : ℕ → Type 0} {c : Choice} → ((e : ℕ) → P e → Q e) → ((e : ℕ) → Q e → P e) → Picks P i k c → Picks Q i k c
  picks_map f g h = record { forward = h.forward; fits = λ l. let t = h.fits l in (t.0, f _ t.1); top = λ e q. h.top e (g e q) }

  -- No choice is right where there is no end.
  pub picks_none : Picks (λ e. ⊥) i k (none_at i)
  picks_none = record { forward = omega arith; fits = λ l. absurd (omega arith); top = λ e p. absurd p }

  -- A right answer of a matcher is the choice of its place.
  pub picks_found : {P : ℕ → Type 0} (w : ℕ) {m : Option ℕ} → ((e : ℕ) → P e → i ≤ e) → Right P m → Picks P i k (found i k w m)
  picks_found w {m = Some e} ahead r =
      record {
        forward = ahead e (r.fits e refl);
        fits = λ l. (refl, r.fits e refl);
        top = λ x p. let t = r.top x p in let z : e ≡ t.0 = cc t.1 in omega (arith, t.2);
      }
  picks_found w {m = None} ahead r = record { forward = omega arith; fits = λ l. absurd (omega arith); top = λ x p. some_end (r.top x p).1 }

  -- The better of two choices is right for the ends of both.
  picks_keep : {P Q : ℕ → Type 0} {b c : Choice} → Picks P i k b → Picks Q i k c → Picks (λ e. P e ⊎ Q e) i k (keep b c)
  unfolding keep
  picks_keep {P} {Q} {b} {c} g h =
      by_if_lt (Picks (λ e. P e ⊎ Q e) i k) b.end c.end
      (λ l. record {
        forward = h.forward;
        fits = λ n. let t = h.fits n in (t.0, inr t.1);
        top = under (omega arith) (omega arith);
      })
      (λ l. record {
        forward = g.forward;
        fits = λ n. let t = g.fits n in (t.0, inl t.1);
        top = under (omega arith) (omega arith);
      })
    where
      under : {z : ℕ} → b.end ≤ z → c.end ≤ z → (e : ℕ) → P e ⊎ Q e → e ≤ z
      under u v e (inl p) = omega (arith, g.top e p)
      under u v e (inr q) = omega (arith, h.top e q)

-- ---- a table of words

-- Q holds of a word of the table.
abbrev pub OneOf : (String → Type 0) → List String → Type 0
OneOf Q [] = ⊥
OneOf Q (e ∷ es) = Q e ⊎ OneOf Q es

-- Every word of the table passes a test.
abbrev pub all_words : (String → Bool) → List String → Bool
all_words t [] = true
all_words t (e ∷ es) = t e && all_words t es

-- The choice among the words of a table, where each has its matcher, is the longest, and no shorter than the choice before.
pub picks_words : (i k : ℕ) (t : String → Bool) {Q : String → ℕ → Type 0} (m : Bytes → Option ℕ)
    → ((x : String) (e : ℕ) → Q x e → i ≤ e) → ((x : String) → t x ≡ true → Right (Q x) (m (cps x)))
    → (w : ℕ) (es : List String) → all_words t es ≡ true → {P : ℕ → Type 0} {b : Choice} → Picks P i k b
    → Picks (λ e. P e ⊎ OneOf (λ x. Q x e) es) i k (try_words i k m w es b)
unfolding try_words
picks_words i k t m ahead r w [] h {P} b = picks_map (λ e p. inl p) back b
  where
    back : (e : ℕ) → P e ⊎ ⊥ → P e
    back e (inl p) = p
    back e (inr q) = absurd q
picks_words i k t {Q} m ahead r w (x ∷ es) h {P} b =
    let g = both (t x) (all_words t es) h in
    picks_map to from (picks_words i k t m ahead r (suc w) es g.1 (picks_keep b (picks_found w (ahead x) (r x g.0))))
  where
    to : (e : ℕ) → (P e ⊎ Q x e) ⊎ OneOf (λ y. Q y e) es → P e ⊎ OneOf (λ y. Q y e) (x ∷ es)
    to e (inl (inl p)) = inl p
    to e (inl (inr q)) = inr (inl q)
    to e (inr o) = inr (inr o)

    from : (e : ℕ) → P e ⊎ OneOf (λ y. Q y e) (x ∷ es) → (P e ⊎ Q x e) ⊎ OneOf (λ y. Q y e) es
    from e (inl p) = inl (inl p)
    from e (inr (inl q)) = inl (inr q)
    from e (inr (inr o)) = inr o

-- The choice among the words of a table is the longest.
pub picks_table : (i k : ℕ) (t : String → Bool) {Q : String → ℕ → Type 0} (m : Bytes → Option ℕ)
    → ((x : String) (e : ℕ) → Q x e → i ≤ e) → ((x : String) → t x ≡ true → Right (Q x) (m (cps x)))
    → (es : List String) → all_words t es ≡ true → Picks (λ e. OneOf (λ x. Q x e) es) i k (try_words i k m 0 es (none_at i))
picks_table i k t {Q} m ahead r es h = picks_map to (λ e o. inr o) (picks_words i k t m ahead r 0 es h picks_none)
  where
    to : (e : ℕ) → ⊥ ⊎ OneOf (λ x. Q x e) es → OneOf (λ x. Q x e) es
    to e (inl n) = absurd n
    to e (inr o) = o

-- ---- all places

-- The end that place k chooses, of the places cs; i where it chooses none.
abbrev pub end_of : ℕ → List Choice → ℕ → ℕ
end_of i cs k = (get_or (none_at i ∷ cs) k (none_at i)).end

module _ (P : ℕ → ℕ → Type 0) (m : ℕ → ℕ) (i : ℕ) where
  -- The choice of place k: an end that it has, and every end that it has is reached there or at an earlier place.
  pub record Sound (k : ℕ) (c : Choice) : Type 0 where
    pub fits : i < c.end → (c.place ≡ k) × P k c.end
    pub reached : (e : ℕ) → P k e → (e ≤ c.end) ⊎ ((j : ℕ) × (1 ≤ j) × (j < k) × (e ≤ m j))

  -- The greatest end of a place is sound.
  pub picks_sound : {k : ℕ} {c : Choice} → Picks (P k) i k c → Sound k c
  picks_sound h = record { fits = h.fits; reached = λ e p. inl (h.top e p) }

-- Of the places 1 to n, the longest end, and of those the earliest place.
pub record Best (P : ℕ → ℕ → Type 0) (i n : ℕ) (c : Choice) : Type 0 where
  pub forward : i ≤ c.end
  pub small : c.place ≤ n
  pub none : c.place ≡ 0 → c.end ≡ i
  pub chosen : (c.place ≡ 0 → ⊥) → (i < c.end) × P c.place c.end
  pub longest : (k e : ℕ) → 1 ≤ k → k ≤ n → P k e → e ≤ c.end
  pub first : (k e : ℕ) → 1 ≤ k → k < c.place → P k e → e < c.end

-- Up to n or the next: what holds up to n and of the next.
up_to : (X : ℕ → Type 0) (n k : ℕ) → k ≤ suc n → (k ≤ n → X k) → X (suc n) → X k
up_to X n k h f g = go (ℕ_discrete (suc n) k)
  where
    go : Dec (suc n ≡ k) → X k
    go (yes e) = subst X e g
    go (no d) = f (omega arith)

-- What is kept is no shorter than either.
keep_covers : (b c : Choice) → (b.end ≤ (keep b c).end) × (c.end ≤ (keep b c).end)
unfolding keep
keep_covers b c = by_if_lt (λ (x : Choice). (b.end ≤ x.end) × (c.end ≤ x.end)) b.end c.end (λ l. omega arith) (λ l. omega arith)

module _ {P : ℕ → ℕ → Type 0} {m : ℕ → ℕ} {i : ℕ} where
  -- Where the next place is tried, what is kept is the best of one place more.
  best_keep : (n : ℕ) {b c : Choice} → ((k : ℕ) → 1 ≤ k → k ≤ n → m k ≤ b.end) → Best P i n b → Sound P m i (suc n) c → Best P i (suc n) (keep b c)
  unfolding keep
  best_keep n {b} {c} covers h g =
      by_if_lt (Best P i (suc n)) b.end c.end
      (λ l. let t = g.fits (omega (arith, h.forward)) in record {
        forward = omega (arith, h.forward);
        small = omega (arith, t.0);
        none = λ z. absurd (omega (arith, t.0));
        chosen = λ _. (omega (arith, h.forward), subst (λ (k : ℕ). P k c.end) (sym t.0) t.1);
        longest = λ k e a z p. up_to (λ k. P k e → e ≤ c.end) n k z (λ y q. omega (arith, h.longest k e a y q)) (new (omega arith) (omega arith) e) p;
        first = λ k e a z p. omega (arith, h.longest k e a (omega (arith, t.0)) p);
      })
      (λ l. record {
        forward = h.forward;
        small = omega (arith, h.small);
        none = h.none;
        chosen = h.chosen;
        longest = λ k e a z p. up_to (λ k. P k e → e ≤ b.end) n k z (λ y q. h.longest k e a y q) (new (omega arith) l e) p;
        first = h.first;
      })
    where
      new : {z : ℕ} → b.end ≤ z → c.end ≤ z → (e : ℕ) → P (suc n) e → e ≤ z
      new {z} u v e p = go (g.reached e p)
        where
          go : (e ≤ c.end) ⊎ ((j : ℕ) × (1 ≤ j) × (j < suc n) × (e ≤ m j)) → e ≤ z
          go (inl q) = omega arith
          go (inr (j, x, y, q)) = omega (arith, covers j x (omega arith))

  -- Where all the places from one on are tried, what is kept is the best of them all; m gives the end of each.
  best_rest : (n : ℕ) {cs : List Choice} {b : Choice} → Numbered (Sound P m i) (suc n) cs → ((k : ℕ) → (get_or cs k (none_at i)).end ≡ m (suc n + k))
      → ((k : ℕ) → 1 ≤ k → k ≤ n → m k ≤ b.end) → Best P i n b → Best P i (n + length cs) (try_all cs b)
  unfolding try_all
  best_rest n {b = b} no_more is covers h = subst (λ (k : ℕ). Best P i k b) (sym (add-zero n)) h
  best_rest n {cs = c ∷ cs} {b} (g ⨟ gs) is covers h =
      let z : suc n + length cs ≡ n + length (c ∷ cs) = omega arith in
      let o = keep_covers b c in
      let this : c.end ≡ m (suc n) = is 0 ∙ ap m (add-zero (suc n)) in
      subst (λ (k : ℕ). Best P i k (try_all cs (keep b c))) z
      (best_rest (suc n) gs
      (λ k. is (suc k) ∙ ap m (let q : suc n + suc k ≡ suc (suc n) + k = omega arith in q))
      (λ k x y. up_to (λ k. m k ≤ (keep b c).end) n k y (λ l. omega (arith, covers k x l, o.0)) (omega (arith, o.1)))
      (best_keep n covers h g))

-- What is kept of all places is the best.
pub best_all : {P : ℕ → ℕ → Type 0} {i : ℕ} {cs : List Choice} → Numbered (Sound P (end_of i cs) i) 1 cs → Best P i (length cs) (try_all cs (none_at i))
best_all {P} {i} {cs} gs =
    let z : 0 + length cs ≡ length cs = omega arith in
    subst (λ (k : ℕ). Best P i k (try_all cs (none_at i))) z
    (best_rest 0 gs (λ k. let q : suc k ≡ 1 + k = omega arith in ap (end_of i cs) q) (λ k x y. absurd (omega arith)) start)
  where
    start : Best P i 0 (none_at i)
    start =
        record {
          forward = omega arith;
          small = omega arith;
          none = λ _. refl;
          chosen = λ n. absurd (n refl);
          longest = λ k e a b p. absurd (omega arith);
          first = λ k e a b p. absurd (omega arith);
        }

-- What a matcher finds for one place is the best, where no other has an end at all and it has one.
pub best_alone : {P : ℕ → ℕ → Type 0} {i : ℕ} (n k : ℕ) {m : Option ℕ} → 1 ≤ k → k ≤ n → ((j e : ℕ) → (j ≡ k → ⊥) → P j e → ⊥) → Right (P k) m
    → (e : ℕ) → i < e → P k e → Best P i n (found i k 0 m)
best_alone n k {m = None} a b others r e l p = some_end (r.top e p).1
best_alone {P} {i} n k {m = Some x} a b others r e l p =
    let past : i < x = omega (arith, under e p) in
    record {
      forward = omega arith;
      small = b;
      none = λ z. absurd (omega arith);
      chosen = λ _. (past, r.fits x refl);
      longest = λ j y _ _ q. go j y q (ℕ_discrete j k);
      first = λ j y _ z q. absurd (others j y (λ w. omega arith) q);
    }
  where
    under : (y : ℕ) → P k y → y ≤ x
    under y q = let t = r.top y q in let z : x ≡ t.0 = cc t.1 in omega (arith, t.2)

    go : (j y : ℕ) → P j y → Dec (j ≡ k) → y ≤ x
    go j y q (yes w) = under y (subst (λ (z : ℕ). P z y) w q)
    go j y q (no d) = absurd (others j y d q)
