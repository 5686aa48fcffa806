-- The writer's loop: what is written begins the literal, and follows it move by move. Rests on the laws of the literal (crate
-- `read_string`), which only gets longer, and of buffers that are written over.
use Prim.Native.Nat.{ℕ, ◌+◌, ◌-◌, ◌≤◌, ◌<◌}
use mathlib.Core.Path.{◌≡◌, refl, sym, ap, subst, ◌∙◌}
use mathlib.Core.List.{[], ◌++◌}
use native.Mathlib.Omega.{arith}
use lib.ListN.{length, take, drop, length-append, length-drop}
use Rattle.definition.specs.Basics.{Bytes}
use Rattle.lemmas.specs.Over.{over, Wrote}
use Rattle.lemmas.proofs.Over.{length_over}
use Rattle.reader.specs.Described.{literal}
use Rattle.read_string.specs.declared.moves.Move.{Move}
use Rattle.read_string.specs.declared.moves.Move.TheVariants.{Copy, Skip, Line, Char, Surrogate, Close, Open}
use Rattle.read_string.specs.Moves.{string_move}
use Rattle.read_string.specs.Ends.{adds, ends_at, On, Goes}
use Rattle.read_string.proofs.Goes.{move_goes}
use Rattle.read_string.specs.Literal.{literal_from}
use Rattle.read_string.proofs.LiteralLaws.{literal_starts, literal_on, literal_closed, literal_surrogate, literal_open}
use Rattle.read_string.proofs.Growth.{literal_grows, grows_longer, grows_ends}
use Rattle.read_string.proofs.LoopLaws.{on_past}
use Rattle.payload_write.specs.Asks.{Puts, Writes}
use Rattle.lemmas.proofs.Tails.{tail_lent, written_after}

-- acc, which is what the literal holds before byte i, is written, `at` bytes of n
pub record Writing (s f : Bytes) (from n : ℕ) (before : Bytes) (i at : ℕ) (now : Bytes) : Type 0 where
  pub acc : Bytes
  pub spells : literal_from s f i acc ≡ literal s f from
  pub counted : at ≡ length acc
  pub fits : at ≤ n
  pub long : n ≡ length (literal s f from)
  pub room : n ≤ length before
  pub is : now ≡ over acc before

-- nothing is written yet
pub writing_starts : {s f : Bytes} {from n : ℕ} {out : Bytes} → Writes s f from n out → Writing s f from n out from 0 out
unfolding over
writing_starts {s} {f} {from} h = record {
  acc = [];
  spells = literal_starts s f from;
  counted = refl;
  fits = omega arith;
  long = h.long;
  room = h.room;
  is = refl;
}

module _ {s f : Bytes} {from n : ℕ} {before : Bytes} {i at : ℕ} {now : Bytes} (w : Writing s f from n before i at now) where
  -- the buffer keeps its length
  pub writing_length : length now ≡ length before
  writing_length = ap length w.is ∙ length_over w.acc before (omega (arith, w.counted, w.fits, w.room))

  -- where n bytes are written the literal is
  pub writing_ends : n ≤ at → now ≡ over (literal s f from) before
  writing_ends h =
      let l : literal_from s f i w.acc ≡ w.acc =
      grows_ends (literal_grows s f w.acc i) (ap length w.spells ∙ omega (arith, w.long, w.counted, w.fits))
      in
      w.is ∙ ap (λ (x : Bytes). over x before) (sym l ∙ w.spells)

  module _ (left : at < n) where
    -- before that the literal isn't at its end
    not_ended : {l : Bytes} → literal_from s f i w.acc ≡ l → length l ≤ at → ⊥
    not_ended {l} e h = omega (arith, w.long, ap length (sym e ∙ w.spells))

    -- so it goes on
    goes_on : (m : Move) → string_move s f i ≡ m → On m
    goes_on (Copy e) q = tt
    goes_on (Skip e) q = tt
    goes_on (Line e) q = tt
    goes_on (Char c e) q = tt
    goes_on Surrogate q = not_ended (literal_surrogate s f i w.acc q) (omega arith)
    goes_on (Close e) q = not_ended (literal_closed s f i w.acc e q) (omega (arith, w.counted))
    goes_on Open q = not_ended (literal_open s f i w.acc q) (omega arith)

    module _ {m : Move} (q : m ≡ string_move s f i) where
      on : On m
      on = goes_on m (sym q)

      -- and reads something
      goes : Goes s i m
      goes = subst (Goes s i) (sym q) (move_goes s i f)

      -- with what the move adds it is still what the literal begins with
      spells_on : literal_from s f (ends_at i m) (w.acc ++ adds s i m) ≡ literal s f from
      spells_on = sym (literal_on s f i w.acc m on (sym q)) ∙ w.spells

      -- so there is room for it
      fits_on : at + length (adds s i m) ≤ n
      fits_on =
          let l : length (literal_from s f (ends_at i m) (w.acc ++ adds s i m)) ≡ n = ap length spells_on ∙ sym w.long in
          let g = grows_longer (literal_grows s f (w.acc ++ adds s i m) (ends_at i m)) (omega arith) in
          omega (arith, length-append w.acc (adds s i m), w.counted)

      -- what it adds fits the tail
      pub writing_puts : Puts s m i (take (length now - at) (drop at now))
      writing_puts = record { goes = goes; room = rw (tail_lent now at, length-drop) (omega (arith, fits_on, writing_length, w.room)) }

      -- the move reads something
      pub writing_less : {k : ℕ} → k ≡ ends_at i m → length s - k < length s - i
      writing_less end =
          let p = on_past m on goes in
          omega (arith, end, p.past, p.within)

      module _ {exit : Bytes} {r : ℕ} (p : Wrote (adds s i m) (take (length now - at) (drop at now)) exit r) where
        -- what was written fits
        pub writing_fits : at + r ≤ n
        writing_fits = omega (arith, p.all, fits_on)

        -- and the literal is followed up to the end of the move
        pub writing_on : {k : ℕ} → k ≡ ends_at i m
            → Writing s f from n before k (at + r) (take at now ++ (exit ++ drop (length now - at) (drop at now)))
        writing_on end = record {
          acc = w.acc ++ adds s i m;
          spells = rw end spells_on;
          counted = omega (arith, p.all, length-append w.acc (adds s i m), w.counted);
          fits = writing_fits;
          long = w.long;
          room = w.room;
          is = written_after before now exit w.acc (adds s i m) at w.is w.counted p.bytes;
        }
