-- What a table of references has at a place. Rests on nothing.
use Prim.Native.Nat.{ℕ, zero, suc}
use mathlib.Core.Path.{◌≡◌, refl}
use mathlib.Core.List.{List, [], ◌∷◌, map}
use lib.ListN.{get_or}
use denote.Bor.{Bor}

pub now_at : (refs : List (Bor (List ℕ))) (k : ℕ) → (get_or refs k (record { ref_ptr = (0, 0); now = [] })).now ≡ get_or (map (λ r. r.now) refs) k []
now_at [] k = refl
now_at (r ∷ refs) zero = refl
now_at (r ∷ refs) (suc k) = now_at refs k
