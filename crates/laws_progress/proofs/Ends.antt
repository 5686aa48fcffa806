-- Matchers put together: what holds of the end that each part finds holds of the end of the whole. Rests on nothing.
use Rattle.std.specs.Prelude.{if◌then◌else◌, Option, Some, None}
use Prim.Native.Nat.{ℕ}
use mathlib.Core.Path.{◌≡◌, refl, subst}
use mathlib.Core.Bool.{Bool, true, false}
use mathlib.Core.List.{List}
use native.Mathlib.Omega.{arith}
use lib.Dec.{ltb}
use Rattle.definition.specs.Matchers.{◌then◌, later, max_list, only}
use Rattle.lemmas.proofs.Cases.{by_if}
use Rattle.lemmas.proofs.Each.{Each, none_left, ◌⨾◌}

-- if a matcher finds an end, then P holds of it
pub record Ends (P : ℕ → Type 0) (m : Option ℕ) : Type 0 where
  pub at : {e : ℕ} → m ≡ Some e → P e

-- no end is found
pub ends_nothing : {P : ℕ → Type 0} → Ends P None
ends_nothing = record { at = λ q. absurd (let z : ◌≡◌ {A = ℕ} 0 1 = cc in omega arith) }

-- an end is found
pub ends_to : {P : ℕ → Type 0} {e : ℕ} → P e → Ends P (Some e)
ends_to {P} {e} p = record { at = λ {e = k} q. let z : e ≡ k = cc in subst P z p }

-- P of an end gives Q of it
pub ends_map : {P Q : ℕ → Type 0} {m : Option ℕ} → ((e : ℕ) → P e → Q e) → Ends P m → Ends Q m
ends_map f h = record { at = λ {e} q. f e (h.at q) }

-- one matcher from where another ends
pub ends_then : {P Q : ℕ → Type 0} {m : Option ℕ} {f : ℕ → Option ℕ} → Ends P m → ((j : ℕ) → P j → Ends Q (f j)) → Ends Q (m then f)
ends_then {P} {Q} {m} {f} h g = go m refl
  where
    go : (k : Option ℕ) → m ≡ k → Ends Q (k then f)
    go (Some j) q = g j (h.at q)
    go None q = ends_nothing

-- a matcher that a test allows
pub ends_only : {P : ℕ → Type 0} {m : Option ℕ} (t : Bool) → (t ≡ true → Ends P m) → Ends P (only t m)
ends_only true h = h refl
ends_only false h = ends_nothing

-- one of two matchers, by a test
pub ends_if : {P : ℕ → Type 0} {m k : Option ℕ} (t : Bool) → (t ≡ true → Ends P m) → Ends P k → Ends P (if t then m else k)
ends_if {P} t h g = by_if (Ends P) t h (λ _. g)

-- the later of two ends
pub ends_later : {P : ℕ → Type 0} {m k : Option ℕ} → Ends P m → Ends P k → Ends P (later m k)
unfolding later
ends_later {P} {m = Some a} {k = Some b} h g = by_if (Ends P) (ltb a b) (λ _. g) (λ _. h)
ends_later {P} {m = Some a} {k = None} h g = h
ends_later {P} {m = None} {k} h g = g

-- the latest of some ends
pub ends_max : {P : ℕ → Type 0} {ms : List (Option ℕ)} → Each (Ends P) ms → Ends P (max_list ms)
unfolding max_list
ends_max none_left = ends_nothing
ends_max (h ⨾ hs) = ends_later h (ends_max hs)
