-- What `clean_number` takes away, from the left and from the right. Rests on nothing but the definition.
use Rattle.std.specs.Prelude.{Option, Some, None, not, cond}
use Rattle.std.proofs.lemmas.List.Sums.{prefix_len-le-length}
use borrow.Author.Tests.{lt-ltb, le-ltb}
use Rattle.std.specs.Option.{unwrap_or}
use Rattle.std.specs.List.{position, position_or_len, prefix_len}
use Prim.Native.Nat.{ℕ, suc, ◌+◌, ◌-◌, ◌≤◌, ◌<◌}
use mathlib.Core.Path.{◌≡◌, refl, sym, ap, ◌∙◌}
use mathlib.Core.Bool.{Bool, true, false}
use mathlib.Core.List.{List, [], ◌∷◌, ◌++◌}
use mathlib.Core.Logic.{⊎_elim, inl, inr}
use native.Mathlib.Omega.{arith}
use types.Run.{OneOf}
use lib.ListN.{length, get_or, take, drop, length-drop}
use lib.Seq.{take-suc, take-length}
use Rattle.std.proofs.lemmas.List.{drop-take}
use Rattle.definition.specs.Basics.{Bytes, codes, mem_cp}
use Rattle.definition.specs.Numbers.{strips, strip_left, strip_if_last, strip_right, clean_number}
use Rattle.lemmas.proofs.Cases.{by_bool, by_order}
use Rattle.lemmas.proofs.Members.{mem_yes, mem_no}
use Rattle.number_value.specs.CleaningContracts.{LeftStripped, RightStripped, Cleaned}

-- ---- the letters

-- The letters but the last two, in the order of their numbers.
abbrev pub letters : List ℕ
letters = codes "ILNUlnsu"

-- Each of those goes.
pub strips_letter : (b : ℕ) → OneOf letters b → strips b ≡ true
unfolding strips mem_cp
strips_letter b h = mem_yes letters (codes "uzyslLUnIN") b refl h

-- So do y and z.
pub strips_last : (b : ℕ) → 121 ≤ b → b < 123 → strips b ≡ true
unfolding strips mem_cp
strips_last b h k =
    mem_yes (codes "yz") (codes "uzyslLUnIN") b refl (by_order b 122 (λ l. inl (omega arith)) (λ l. inr (omega arith)))

-- No other byte does.
pub strips_none : (b : ℕ) → (OneOf letters b → ⊥) → (b ≡ 121 → ⊥) → (b ≡ 122 → ⊥) → strips b ≡ false
unfolding strips mem_cp
strips_none b h y z = mem_no (121 ∷ 122 ∷ letters) (codes "uzyslLUnIN") b refl (⊎_elim y (⊎_elim z h))

-- ---- from the left: what is left begins at the first byte that stays

-- A byte that stays.
abbrev pub stays : ℕ → Bool
stays b = not (strips b)

-- Where all bytes go, that is the end.
left_is : (s : Bytes) → drop (position_or_len stays s) s ≡ strip_left s
unfolding strip_left
left_is [] = refl
left_is (b ∷ l) =
    by_bool (λ t. drop (cond (not (not t)) (1 + prefix_len (λ x. not (stays x)) l) 0) (b ∷ l) ≡ elim t [ true ↦ strip_left l | false ↦ b ∷ l ]) (strips b)
    (λ e. let next : 1 + position_or_len stays l ≡ suc (position_or_len stays l) = omega arith in rw next (left_is l))
    (λ e. refl)

-- The library's search for it, which may find none, answers it.
pub left_found : (s : Bytes) (r : Option ℕ) → r ≡ position stays s → LeftStripped s (unwrap_or r (length s))
left_found s r e =
    let n = position_or_len stays s in
    let w : n ≤ length s = prefix_len-le-length (λ x. not (stays x)) s in
    let at : unwrap_or r (length s) ≡ n =
    by_order n (length s)
    (λ l. ap (λ (o : Option ℕ). unwrap_or o (length s)) (e ∙ ap (λ (t : Bool). cond t (Some n) None) (lt-ltb n (length s) l)))
    (λ l. ap (λ (o : Option ℕ). unwrap_or o (length s)) (e ∙ ap (λ (t : Bool). cond t (Some n) None) (le-ltb n (length s) l)) ∙ omega arith)
    in
    record { within = rw at w; is = rw at (left_is s) }

-- ---- from the right: what is left of all is what is left of it up to `to`

-- A last byte that goes leaves what stands in front of it.
strip_last : (l : Bytes) (b : ℕ) → strips b ≡ true → strip_right (l ++ b ∷ []) ≡ strip_right l
unfolding strip_right strip_if_last
strip_last [] b e = rw (strip_if_last, e)
strip_last (x ∷ l) b e = ap (strip_if_last x) (strip_last l b e)

-- One that stays leaves everything.
keep_last : (l : Bytes) (b : ℕ) → strips b ≡ false → strip_right (l ++ b ∷ []) ≡ l ++ b ∷ []
unfolding strip_right strip_if_last
keep_last [] b e = rw (strip_if_last, e)
keep_last (x ∷ []) b e = ap (strip_if_last x) (keep_last [] b e)
keep_last (x ∷ y ∷ l) b e = ap (strip_if_last x) (keep_last (y ∷ l) b e)

pub record FromRight (s : Bytes) (to : ℕ) : Type 0 where
  pub within : to ≤ length s
  pub same : strip_right (take to s) ≡ strip_right s

pub right_starts : (s : Bytes) → FromRight s (length s)
right_starts s = record { within = omega arith; same = ap strip_right (take-length s) }

module _ {s : Bytes} {to : ℕ} (f : FromRight s to) where
  -- The last byte, and those in front of it.
  take_last : 0 < to → take to s ≡ take (to - 1) s ++ get_or s (to - 1) 0 ∷ []
  take_last h =
      let w = f.within in
      let e : to ≡ suc (to - 1) = omega arith in
      let k : to - 1 < length s = omega arith in
      ap (λ (t : ℕ). take t s) e ∙ take-suc s (to - 1) 0 k

  -- Where the last byte goes, the one in front of it is asked.
  pub right_goes_on : 0 < to → strips (get_or s (to - 1) 0) ≡ true → FromRight s (to - 1)
  right_goes_on h e =
      let w = f.within in
      record { within = omega arith; same = sym (strip_last (take (to - 1) s) _ e) ∙ ap strip_right (sym (take_last h)) ∙ f.same }

  -- Where it stays, everything up to it stays.
  pub right_stops : 0 < to → strips (get_or s (to - 1) 0) ≡ false → RightStripped s to
  right_stops h e = record {
    within = f.within;
    is = take_last h ∙ sym (keep_last (take (to - 1) s) _ e) ∙ ap strip_right (sym (take_last h)) ∙ f.same;
  }

-- Where all are gone nothing is left.
pub right_ends : {s : Bytes} → FromRight s 0 → RightStripped s 0
unfolding strip_right
right_ends f = record { within = f.within; is = f.same }

-- ---- both

-- What is left from the right of what is left from the left is the clean number.
pub cleaned : {s : Bytes} {from n : ℕ} → LeftStripped s from → RightStripped (drop from s) n → Cleaned s (record { from = from; to = from + n })
unfolding clean_number
cleaned {s} {from} {n} l r = record {
  ordered = omega arith;
  within = omega (arith, l.within, r.within, length-drop from s);
  is = drop-take from n s ∙ r.is ∙ ap strip_right l.is;
}
