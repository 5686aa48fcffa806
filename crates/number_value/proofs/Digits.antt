-- The digits of `show`, one by one from the last, and the loops that count and write them. Rests on the laws of loops (crate `lemmas`).
use Prim.Native.Nat.{ℕ, zero, suc, ◌+◌, ◌-◌, ◌/◌, ◌%◌, ◌≤◌, ◌<◌}
use mathlib.Core.Path.{◌≡◌, sym, ap, ◌∙◌}
use mathlib.Core.List.{[], ◌∷◌, ◌++◌, append_assoc, append-nil}
use native.Mathlib.Omega.{arith}
use lib.ListN.{length, take, drop, set, length-append, length-drop, take-append-drop}
use lib.Seq.{length-take-le}
use borrow.Author.Tests.{lt-ltb, le-ltb}
use Rattle.definition.specs.Basics.{Bytes, again, done, loop}
use Rattle.definition.specs.Numbers.{show_turn, show}
use Rattle.lemmas.specs.Over.{over}
use Rattle.lemmas.proofs.Cases.{by_order, by_lt}
use Rattle.lemmas.proofs.Loops.{Leads, Falls, Any, loop_same, loop_again, loop_done}
use Rattle.lemmas.proofs.Over.{write_back}

-- ---- the digits

-- A turn answers for a number of one digit.
turn_last : (n : ℕ) (ds : Bytes) → n < 10 → show_turn (n, ds) ≡ done ((48 + n) ∷ ds)
turn_last n ds h = rw (show_turn, lt-ltb n 10 h)

-- For any other it takes the last digit.
turn_more : (n : ℕ) (ds : Bytes) → 10 ≤ n → show_turn (n, ds) ≡ again (n / 10, (48 + n % 10) ∷ ds)
turn_more n ds h = rw (show_turn, le-ltb n 10 h)

-- A further turn has a smaller number.
falls : Falls show_turn Any (λ a. a.0) Any
falls = record {
  at = λ a u. by_lt (Leads (λ b. Any b × (b.0 < a.0)) Any) a.0 10 (λ h. tt) (λ h. (tt, omega arith));
}

-- The digits are the same with any fuel above the number.
enough : (m n : ℕ) (ds : Bytes) → n < m → loop show_turn (λ a. a.1) m (n, ds) ≡ loop show_turn (λ a. a.1) (suc n) (n, ds)
enough m n ds h = loop_same falls (λ a. a.1) (λ a. a.1) m (suc n) (n, ds) tt h (omega arith)

-- A number of one digit.
pub show_last : (n : ℕ) → n < 10 → show n ≡ (48 + n) ∷ []
unfolding show
show_last n h = loop_done falls (λ a. a.1) (suc n) (n, []) ((48 + n) ∷ []) tt (omega arith) (turn_last n [] h)

-- Digits that are already taken stand after those of the number.
show_onto : (m n : ℕ) (ds : Bytes) → n < m → loop show_turn (λ a. a.1) m (n, ds) ≡ show n ++ ds
unfolding show
show_onto zero n ds h = absurd (omega arith)
show_onto (suc m) n ds h = by_order n 10 last (more (show_onto m))
  where
    last : n < 10 → loop show_turn (λ a. a.1) (suc m) (n, ds) ≡ show n ++ ds
    last l =
        loop_done falls (λ a. a.1) (suc m) (n, ds) ((48 + n) ∷ ds) tt h (turn_last n ds l)
        ∙ ap (λ (x : Bytes). x ++ ds) (sym (show_last n l))

    more : ((k : ℕ) (es : Bytes) → k < m → loop show_turn (λ a. a.1) m (k, es) ≡ show k ++ es) → 10 ≤ n
        → loop show_turn (λ a. a.1) (suc m) (n, ds) ≡ show n ++ ds
    more rest l =
        let q : n / 10 < m = omega arith in
        let taken : (es : Bytes) → loop show_turn (λ a. a.1) (suc m) (n, es) ≡ show (n / 10) ++ (48 + n % 10) ∷ es =
        λ es. loop_again falls (λ a. a.1) (suc m) (n, es) (n / 10, (48 + n % 10) ∷ es) tt h (turn_more n es l)
        ∙ loop_same falls (λ a. a.1) (λ a. a.1) (suc m) m (n / 10, (48 + n % 10) ∷ es) tt (omega arith) q
        ∙ rest (n / 10) ((48 + n % 10) ∷ es) q
        in
        let whole : show n ≡ show (n / 10) ++ (48 + n % 10) ∷ [] = sym (enough (suc m) n [] h) ∙ taken [] in
        taken ds ∙ sym (ap (λ (x : Bytes). x ++ ds) whole ∙ append_assoc (show (n / 10)) ((48 + n % 10) ∷ []) ds)

-- A number of more digits: those of its tenth part, and its last.
pub show_more : (n : ℕ) → 10 ≤ n → show n ≡ show (n / 10) ++ (48 + n % 10) ∷ []
unfolding show
show_more n h =
    loop_again falls (λ a. a.1) (suc n) (n, []) (n / 10, (48 + n % 10) ∷ []) tt (omega arith) (turn_more n [] h)
    ∙ show_onto (suc n) (n / 10) ((48 + n % 10) ∷ []) (omega arith)

-- Each number has a digit.
pub show_some : (n : ℕ) → 1 ≤ length (show n)
show_some n =
    by_order n 10
    (λ l. omega (arith, ap length (show_last n l)))
    (λ l. omega (arith, ap length (show_more n l), length-append (show (n / 10)) ((48 + n % 10) ∷ [])))

-- ---- the count: so many digits are counted, and those of what is left but one

pub record Counted (n left count : ℕ) : Type 0 where
  pub few : count + left ≤ n + 1
  pub same : count + length (show left) ≡ length (show n) + 1

pub counted_starts : (n : ℕ) → Counted n n 1
counted_starts n = record { few = omega arith; same = omega arith }

module _ {n left count : ℕ} (c : Counted n left count) where
  pub counted_goes_on : 10 ≤ left → Counted n (left / 10) (count + 1)
  counted_goes_on h =
      let f = c.few in
      let s = c.same in
      let e : length (show left) ≡ length (show (left / 10)) + 1 = ap length (show_more left h) ∙ length-append (show (left / 10)) _ in
      record { few = omega arith; same = omega arith }

  pub counted_ends : left < 10 → count ≡ length (show n)
  counted_ends h =
      let s = c.same in
      let e : length (show left) ≡ 1 = ap length (show_last left h) in
      omega arith

-- ---- the writing: the digits of what is left are still to be written in front of those that stand after `at`

pub record Showing (n : ℕ) (d : Bytes) (left at : ℕ) (l : Bytes) : Type 0 where
  pub fits : length (show n) ≤ length d
  pub digits : Bytes
  pub whole : show n ≡ show left ++ digits
  pub place : at ≡ length (show left)
  pub written : l ≡ take at d ++ (digits ++ drop (length (show n)) d)

pub showing_starts : (n : ℕ) (d : Bytes) (at : ℕ) → length (show n) ≤ length d → at ≡ length (show n) → Showing n d n at d
showing_starts n d at h e = record {
  fits = h;
  digits = [];
  whole = sym (append-nil (show n));
  place = e;
  written = sym (ap (λ (k : ℕ). take k d ++ drop (length (show n)) d) e ∙ take-append-drop (length (show n)) d);
}

module _ {n : ℕ} {d : Bytes} {left at : ℕ} {l : Bytes} (s : Showing n d left at l) where
  -- The buffer keeps its length.
  pub showing_length : length l ≡ length d
  showing_length =
      let f = s.fits in
      let p = s.place in
      let w : length (show n) ≡ length (show left) + length s.digits = ap length s.whole ∙ length-append (show left) s.digits in
      ap length s.written
      ∙ simp (length-append, length-drop, length-take-le at d (omega arith)) (omega arith)

  -- The last of the digits left, x, which stands after ds, is the one to write.
  module _ (ds : Bytes) (x : ℕ) (e : show left ≡ ds ++ x ∷ []) where
    digit_place : at ≡ suc (length ds)
    digit_place =
        let m : length (show left) ≡ length ds + 1 = ap length e ∙ length-append ds (x ∷ []) in
        omega (arith, s.place)

    digit_whole : show n ≡ ds ++ x ∷ s.digits
    digit_whole = s.whole ∙ ap (λ (v : Bytes). v ++ s.digits) e ∙ append_assoc ds (x ∷ []) s.digits

    digit_room : at ≤ length d
    digit_room =
        let m : length (show n) ≡ length ds + suc (length s.digits) = ap length digit_whole ∙ length-append ds (x ∷ s.digits) in
        omega (arith, s.fits, digit_place)

    digit_written : set l (at - 1) x ≡ take (at - 1) d ++ (x ∷ (s.digits ++ drop (length (show n)) d))
    digit_written =
        let r = s.digits ++ drop (length (show n)) d in
        let q : at ≡ suc (at - 1) = omega (arith, digit_place) in
        let h : at - 1 < length d = omega (arith, digit_place, digit_room) in
        ap (λ (m : Bytes). set m (at - 1) x) (s.written ∙ ap (λ (k : ℕ). take k d ++ r) q) ∙ write_back d r (at - 1) x h

  pub showing_goes_on : 10 ≤ left → Showing n d (left / 10) (at - 1) (set l (at - 1) (48 + left % 10))
  showing_goes_on h =
      let x = 48 + left % 10 in
      let e = show_more left h in
      record {
        fits = s.fits;
        digits = x ∷ s.digits;
        whole = digit_whole (show (left / 10)) x e;
        place = omega (arith, digit_place (show (left / 10)) x e);
        written = digit_written (show (left / 10)) x e;
      }

  -- There is a place for a digit more.
  pub showing_room : 10 ≤ left → (1 ≤ at) × (at ≤ length d)
  showing_room h =
      let e = show_more left h in
      (omega (arith, digit_place (show (left / 10)) (48 + left % 10) e), digit_room (show (left / 10)) (48 + left % 10) e)

  -- Where more than one digit is left the number is 10 or more, and there is a place for its last.
  pub showing_more : 1 < at → (10 ≤ left) × (at ≤ length d)
  showing_more h =
      by_order left 10
      (λ l. absurd (omega (arith, s.place, ap length (show_last left l))))
      (λ l. (l, digit_room (show (left / 10)) (48 + left % 10) (show_more left l)))

  -- Where one is left the number is below 10.
  pub showing_one : at ≤ 1 → left < 10
  showing_one h =
      by_order left 10 (λ l. l)
      (λ l. absurd (omega (arith, s.place, ap length (show_more left l), length-append (show (left / 10)) ((48 + left % 10) ∷ []), show_some (left / 10))))

  pub showing_ends : left < 10 → set l 0 (48 + left) ≡ over (show n) d
  unfolding over
  showing_ends h =
      let x = 48 + left in
      let e = show_last left h in
      let z : at - 1 ≡ 0 = omega (arith, digit_place [] x e) in
      (rw z at (digit_written [] x e)) ∙ ap (λ (v : Bytes). v ++ drop (length (show n)) d) (sym (digit_whole [] x e))

  pub showing_first : left < 10 → 0 < length d
  showing_first h = omega (arith, digit_place [] (48 + left) (show_last left h), digit_room [] (48 + left) (show_last left h))
