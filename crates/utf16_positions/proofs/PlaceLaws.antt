-- Places of a line: so many characters on from one that is known. Rests on the laws of skips and of the count (crate `position`).
use Prim.Native.Nat.{ℕ, zero, suc, ◌+◌, ◌-◌, ◌≤◌, ◌<◌}
use native.Mathlib.Omega.{arith}
use mathlib.Core.Path.{◌≡◌, refl, sym, ap, ◌∙◌}
use mathlib.Core.Logic.{inl, inr}
use mathlib.Core.Bool.{true, ◌&&◌}
use lib.Dec.{eqb}
use lib.ListN.{length, get_or}
use borrow.Author.Tests.{eqb-true}
use Rattle.lemmas.proofs.Cases.{both}
use Rattle.definition.specs.Basics.{Bytes}
use Rattle.definition.specs.Utf8.{sequence_at}
use Rattle.definition.specs.Position.{Weight, count_chars}
use Rattle.definition.specs.Utf16.{utf16, skip_chars}
use Rattle.definition.specs.declared.Sequence.{Sequence}
use Rattle.definition.specs.declared.Sequence.TheVariants.{Char}
use Rattle.utf8.proofs.Reading.{NoChar, with_none}
use Rattle.utf8.proofs.Runs.{by_char}
use Rattle.laws_progress.proofs.Characters.{ascii_at}
use Rattle.position.specs.AsciiRuns.{Ascii}
use Rattle.position.proofs.Counting.{count_none, count_through}
use Rattle.position.proofs.Skips.{skip_more, skip_char, skip_none, skip_forward, skip_within, count_char, count_skip_small, one_unit, utf16_light}
use Rattle.utf16_positions.specs.declared.LineStart.{LineStart}
use Rattle.utf16_positions.specs.declared.Place.{Place}
use Rattle.utf16_positions.specs.declared.Tally.{Tally}
use Rattle.utf16_positions.specs.declared.places.CharSize.{CharSize}
use Rattle.utf16_positions.specs.Places.{first_place, place_at, Begins, Tallied}
use Rattle.utf16_positions.specs.Asks.{size_at, OnFrom, From, tally_at}
use Rattle.utf16_positions.specs.Plain.{plain_place}

-- the place n characters on, and the place after a character of a size
abbrev place_after : Weight → Bytes → Place → ℕ → Place
place_after w s p n =
    let i = skip_chars s p.off n in
    record { off = i; col = p.col + n; units = p.units + count_chars w s p.off (i - p.off) }

abbrev pub passed : Place → CharSize → Place
passed p z = record { off = p.off + z.bytes; col = p.col + 1; units = p.units + z.units }

module _ (w : Weight) (s : Bytes) where
  -- a place is made of its three numbers
  same : {a b c d e f : ℕ} → a ≡ d → b ≡ e → c ≡ f → ◌≡◌ {A = Place} (record { off = a; col = b; units = c }) (record { off = d; col = e; units = f })
  same p q r = rw (p, q, r)

  -- no character on is the same place
  place_zero : (p : Place) → place_after w s p 0 ≡ p
  unfolding skip_chars
  place_zero p = same refl (omega arith) (omega (arith, count_none w s p.off))

  -- m more are counted from there
  place_more : (p : Place) (n m : ℕ) → place_after w s (place_after w s p n) m ≡ place_after w s p (n + m)
  place_more p n m =
      let k = skip_chars s p.off n in
      let j : skip_chars s p.off (n + m) ≡ skip_chars s k m = skip_more s p.off n m in
      let c = count_through w s p.off k (skip_chars s k m) (skip_forward s p.off n) (skip_forward s k m) in
      rw j (same refl (omega arith) (omega (arith, c)))

  -- the size of the character that stands at an offset
  size_char : (i : ℕ) {c k : ℕ} → sequence_at s i ≡ Char c k → size_at w s i ≡ record { bytes = k; units = w c }
  unfolding size_at
  size_char i {c} {k} e =
      let n : i + k - i ≡ k = omega arith in
      rw (e, size_at, n)

  -- where none stands there is none
  size_none : (i : ℕ) → NoChar (sequence_at s i) → size_at w s i ≡ record { bytes = 0; units = 0 }
  unfolding size_at
  size_none i h = with_none (sequence_at s i) i _ _ h

  -- one on is past the character there
  place_one : (p : Place) → place_after w s p 1 ≡ passed p (size_at w s p.off)
  unfolding skip_chars
  place_one p = by_char s p.off some none
    where
      i : ℕ
      i = p.off

      some : (c k : ℕ) → sequence_at s i ≡ Char c k → place_after w s p 1 ≡ passed p (size_at w s i)
      some c k e =
          let n : i + k - i ≡ k = omega arith in
          rw (skip_char s i 0 e, size_char i e, n, count_char s w i e)

      none : NoChar (sequence_at s i) → place_after w s p 1 ≡ passed p (size_at w s i)
      none h = rw (skip_none s i 1 h, size_none i h) (same (omega arith) refl (omega (arith, count_none w s i)))

  -- ---- the place at a column

  -- a place before it has the same place there
  place_from : (p : Place) (n col : ℕ) → p.col + n ≤ col → place_at w s (place_after w s p n) col ≡ place_at w s p col
  place_from p n col h =
      let m : n + (col - (p.col + n)) ≡ col - p.col = omega arith in
      place_more p n (col - (p.col + n)) ∙ ap (place_after w s p) m

  -- so has the one after the next character
  place_passed : (p : Place) (col : ℕ) → p.col < col → place_at w s (passed p (size_at w s p.off)) col ≡ place_at w s p col
  place_passed p col h = ap (λ (q : Place). place_at w s q col) (sym (place_one p)) ∙ place_from p 1 col (omega arith)

  -- at the column itself, or past it, stands the place
  pub place_there : (p : Place) (col : ℕ) → col ≤ p.col → place_at w s p col ≡ p
  place_there p col h =
      let z : col - p.col ≡ 0 = omega arith in
      ap (place_after w s p) z ∙ place_zero p

-- ---- places that may be counted on from

module _ {s : Bytes} where
  -- so many characters on the units have grown by no more than the bytes
  on_after : {p : Place} (n : ℕ) → OnFrom s p → OnFrom s (place_after utf16 s p n)
  on_after {p} n h = record {
    short = h.short;
    within = skip_within s p.off n h.within;
    small = omega (arith, h.small, skip_forward s p.off n, count_skip_small s utf16 utf16_light p.off n);
  }

  -- after the next character
  on_passed : {p : Place} → OnFrom s p → OnFrom s (passed p (size_at utf16 s p.off))
  on_passed {p} h = rw (place_one utf16 s p) at (on_after 1 h)

  -- a line's start
  on_start : {l : LineStart} → Begins s l → OnFrom s (first_place l)
  on_start b = record { short = b.short; within = b.within; small = omega (arith, b.margin) }

  -- the place that is known
  pub on_known : {t : Tally} → Tallied s t → OnFrom s t.place
  on_known {t} h = rw h.known (on_after (t.place.col - t.start.column) (on_start h.begins))

  -- where the count to a column may begin, and that it gives the place of the line there
  pub from_counts : {t : Tally} {l : LineStart} {col : ℕ} {p : Place} → Tallied s t → Begins s l → From t l col p → OnFrom s p
  from_counts h b (inl e) = rw e (on_start b)
  from_counts h b (inr (_, _, e)) = rw e (on_known h)

  pub from_gives : {t : Tally} {l : LineStart} {col : ℕ} {p : Place} → Tallied s t → From t l col p → place_at utf16 s p col ≡ place_at utf16 s (first_place l) col
  from_gives h (inl e) = rw e
  from_gives {t} {l} {col} {p} h (inr (e, n, q)) =
      let m : t.start.column + (t.place.col - t.start.column) ≤ col = omega (arith, h.after) in
      ap (λ (x : Place). place_at utf16 s x col) (q ∙ h.known)
      ∙ place_from utf16 s (first_place t.start) (t.place.col - t.start.column) col m
      ∙ ap (λ (x : LineStart). place_at utf16 s (first_place x) col) e

  -- that place is known
  pub tallied_at : {l : LineStart} (col : ℕ) → Begins s l → Tallied s (tally_at s l col)
  tallied_at {l} col b =
      let m : col - l.column ≡ l.column + (col - l.column) - l.column = omega arith in
      record { begins = b; after = omega arith; known = ap (place_after utf16 s (first_place l)) m }

-- ---- the loop that counts: `from` is where it began, and p is where it is

pub record Going (s : Bytes) (from : Place) (col : ℕ) (p : Place) : Type 0 where
  pub on : OnFrom s p
  pub same : place_at utf16 s p col ≡ place_at utf16 s from col

module _ {s : Bytes} {from : Place} {col : ℕ} where
  pub going_starts : OnFrom s from → Going s from col from
  going_starts h = record { on = h; same = refl }

  pub going_on : {p : Place} {z : CharSize} → z ≡ size_at utf16 s p.off → p.col < col → Going s from col p → Going s from col (passed p z)
  going_on {p} e h g = rw e (record { on = on_passed g.on; same = place_passed utf16 s p col h ∙ g.same })

  pub going_ends : {p : Place} → col ≤ p.col → Going s from col p → p ≡ place_at utf16 s from col
  going_ends {p} h g = sym (place_there utf16 s p col h) ∙ g.same

-- ---- what the code sees

-- two lines of which the four numbers pass `==` are the same
pub line_is : (a b : LineStart) → (eqb a.line b.line && (eqb a.bol b.bol && (eqb a.column b.column && eqb a.units b.units))) ≡ true → a ≡ b
line_is a b e =
    let p = both _ _ e in
    let q = both _ _ p.1 in
    let r = both _ _ q.1 in
    go (eqb-true a.line b.line p.0) (eqb-true a.bol b.bol q.0) (eqb-true a.column b.column r.0) (eqb-true a.units b.units r.1)
  where
    go : {n m k l n' m' k' l' : ℕ} → n ≡ n' → m ≡ m' → k ≡ k' → l ≡ l'
        → ◌≡◌ {A = LineStart} (record { line = n; bol = m; column = k; units = l }) (record { line = n'; bol = m'; column = k'; units = l' })
    go p q r e = rw (p, q, r, e)

module _ (s : Bytes) (i : ℕ) where
  -- a byte below 80 is a character by itself
  pub sized_ascii : i < length s → get_or s i 0 < 0x80 → ◌≡◌ {A = CharSize} (record { bytes = 1; units = 1 }) (size_at utf16 s i)
  sized_ascii h k = ap (λ (n : ℕ). record { bytes = 1; units = n }) (sym (one_unit (get_or s i 0) (omega arith))) ∙ sym (size_char utf16 s i (ascii_at s i h k))

  -- q is what the decoder says, and n the units of a character that it reads
  pub sized : {q : Sequence} {c k n : ℕ} → q ≡ sequence_at s i → q ≡ Char c k → n ≡ utf16 c → record { bytes = k; units = n } ≡ size_at utf16 s i
  sized {c = c} {k = k} e r u = ap (λ (n : ℕ). record { bytes = k; units = n }) u ∙ sym (size_char utf16 s i (sym e ∙ r))

  pub unsized : {q t : Sequence} → q ≡ sequence_at s i → q ≡ t → NoChar t → record { bytes = 0; units = 0 } ≡ size_at utf16 s i
  unsized e r h = sym (size_none utf16 s i (rw (sym e ∙ r) h))

-- ---- over ASCII

module _ (s : Bytes) where
  -- so many bytes on are as many characters and as many units
  ascii_after : (p : Place) (n : ℕ) → Ascii s p.off (p.off + n) → p.off + n ≤ length s
      → place_after utf16 s p n ≡ record { off = p.off + n; col = p.col + n; units = p.units + n }
  ascii_after p zero h k = place_zero utf16 s p ∙ same utf16 s (omega arith) (omega arith) (omega arith)
  ascii_after p (suc n) h k =
      let one : record { bytes = 1; units = 1 } ≡ size_at utf16 s p.off = sized_ascii s p.off (omega arith) (h p.off (omega arith) (omega arith)) in
      let m : suc n ≡ 1 + n = omega arith in
      ap (place_after utf16 s p) m
      ∙ sym (place_more utf16 s p 1 n)
      ∙ ap (λ (q : Place). place_after utf16 s q n) (place_one utf16 s p ∙ ap (passed p) (sym one))
      ∙ ascii_after (passed p (record { bytes = 1; units = 1 })) n (λ j a b. h j (omega arith) (omega arith)) (omega arith)
      ∙ same utf16 s (omega arith) (omega arith) (omega arith)

  -- so the place at a column needs no count
  pub plain_is : (p : Place) (col : ℕ) → p.col ≤ col → Ascii s p.off (p.off + (col - p.col)) → p.off + (col - p.col) ≤ length s
      → place_at utf16 s p col ≡ plain_place p col
  plain_is p col h a k = ascii_after p (col - p.col) a k ∙ same utf16 s refl (omega arith) refl
