-- Bytes that are written one by one to the front of a lent buffer. Rests on the laws of buffers that are written over.
use Prim.Native.Nat.{ℕ, zero, suc, ◌+◌, ◌≤◌, ◌<◌}
use mathlib.Core.Path.{◌≡◌, refl, sym, ap, ◌∙◌}
use mathlib.Core.List.{List, [], ◌∷◌, ◌++◌}
use native.Mathlib.Nat.{not-suc-le-zero, le_of_suc-le-suc}
use native.Mathlib.Omega.{arith}
use lib.ListN.{length, get_or, take, set, length-take}
use lib.Seq.{take_all}
use Rattle.lemmas.specs.Over.{over}
use Rattle.lemmas.proofs.Over.{length_over}

-- One element more after those written.
pub write_on : (vs l : List ℕ) (x : ℕ) → length vs < length l → set (over vs l) (length vs) x ≡ over (vs ++ (x ∷ [])) l
unfolding over
write_on [] [] x h = absurd (not-suc-le-zero h)
write_on [] (y ∷ l) x h = refl
write_on (v ∷ vs) [] x h = absurd (not-suc-le-zero h)
write_on (v ∷ vs) (y ∷ l) x h = ap (λ (m : List ℕ). v ∷ m) (write_on vs l x (le_of_suc-le-suc h))

-- One element more is taken.
take_on : (bs : List ℕ) (j : ℕ) → j < length bs → take j bs ++ (get_or bs j 0 ∷ []) ≡ take (suc j) bs
take_on [] j h = absurd (not-suc-le-zero h)
take_on (b ∷ bs) zero h = refl
take_on (b ∷ bs) (suc j) h = ap (λ (m : List ℕ). b ∷ m) (take_on bs j (le_of_suc-le-suc h))

-- the first j of the bytes bs are written to the front of a buffer that has room for all
pub record Copied (bs before : List ℕ) (j : ℕ) (after : List ℕ) : Type 0 where
  pub room : length bs ≤ length before
  pub within : j ≤ length bs
  pub is : after ≡ over (take j bs) before

pub copied_starts : (bs l : List ℕ) → length bs ≤ length l → Copied bs l 0 l
unfolding over
copied_starts bs l h = record { room = h; within = omega arith; is = refl }

-- The buffer keeps its length.
pub copied_length : {bs l m : List ℕ} {j : ℕ} → Copied bs l j m → length m ≡ length l
copied_length {bs} {l} {m} {j} c =
    ap length c.is ∙ length_over (take j bs) l (simp length-take (omega (arith, c.room, c.within)))

pub copied_goes_on : {bs l m : List ℕ} {j x : ℕ} → Copied bs l j m → j < length bs → x ≡ get_or bs j 0 → Copied bs l (j + 1) (set m j x)
copied_goes_on {bs} {l} {m} {j} {x} c h e =
    let n : length (take j bs) ≡ j = simp length-take (omega arith) in
    let w : set (over (take j bs) l) (length (take j bs)) x ≡ over (take j bs ++ (x ∷ [])) l =
    write_on (take j bs) l x (omega (arith, n, c.room)) in
    let k : suc j ≡ j + 1 = omega arith in
    record {
      room = c.room;
      within = omega arith;
      is =
          ap (λ (y : List ℕ). set y j x) c.is
          ∙ ap (λ (i : ℕ). set (over (take j bs) l) i x) (sym n)
          ∙ w
          ∙ ap (λ (y : ℕ). over (take j bs ++ (y ∷ [])) l) e
          ∙ ap (λ (y : List ℕ). over y l) (take_on bs j h)
          ∙ ap (λ (i : ℕ). over (take i bs) l) k;
    }

pub copied_ends : {bs l m : List ℕ} {j : ℕ} → Copied bs l j m → length bs ≤ j → m ≡ over bs l
copied_ends {bs} {l} c h = c.is ∙ ap (λ (y : List ℕ). over y l) (take_all _ bs h)
