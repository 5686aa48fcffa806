-- A literal that is read up to some byte, move by move, and what its bytes are described by. Rests on what a literal holds and on
-- where moves end.
use Prim.Native.Nat.{ℕ, ◌+◌, ◌-◌, ◌≤◌}
use mathlib.Core.Path.{◌≡◌, refl, sym, ap, ap₂, ◌∙◌}
use mathlib.Core.List.{[], ◌++◌}
use native.Mathlib.Omega.{arith}
use lib.ListN.{length, take, drop, length-append}
use lib.Seq.{slice, slice_empty, length-slice, take-take}
use Rattle.definition.specs.Basics.{Bytes}
use Rattle.definition.specs.Text.{lexeme}
use Rattle.definition.specs.Utf8.{encode}
use Rattle.lemmas.proofs.Lists.{slice_then_drop}
use Rattle.read_string.specs.declared.moves.Move.{Move}
use Rattle.read_string.specs.declared.moves.Move.TheVariants.{Copy, Skip, Line, Char, Surrogate, Close, Open}
use Rattle.read_string.specs.Moves.{string_move}
use Rattle.read_string.specs.Ends.{Past, Goes, adds, ends_at, On}
use Rattle.read_string.specs.Literal.{literal_from, Held}
use Rattle.read_string.proofs.LiteralLaws.{literal_starts, literal_on}

-- a part and the part after it
part_part : (s : Bytes) (a b c : ℕ) → a ≤ b → b ≤ c → c ≤ length s → lexeme s a b ++ lexeme s b c ≡ lexeme s a c
part_part s a b c h k l =
    let n : b ≤ length (take c s) = omega (arith, length-slice 0 c s l) in
    ap (λ (x : Bytes). drop a x ++ slice b c s) (sym (take-take b c s k)) ∙ slice_then_drop a b (take c s) h n

-- before the first byte
pub held_starts : (s f : Bytes) (from : ℕ) → from ≤ length s → Held s f from from 0 []
held_starts s f from h = record {
  spells = literal_starts s f from;
  counted = refl;
  begun = omega arith;
  within = h;
  short = omega arith;
  plain = λ _. sym (slice_empty from s);
}

module _ {s f : Bytes} {from i count : ℕ} {acc : Bytes} (h : Held s f from i count acc) where
  -- up to byte e, with the bytes x more
  held_more : (e n : ℕ) (x : Bytes) → Past s i e → literal_from s f i acc ≡ literal_from s f e (acc ++ x) → length x ≤ e - i
      → (length x ≡ e - i → x ≡ lexeme s i e) → n ≡ length x → Held s f from e (count + n) (acc ++ x)
  held_more e n x p q l k c =
      let m = length-append acc x in
      let b = h.begun in
      let d = h.short in
      record {
        spells = sym q ∙ h.spells;
        counted = omega (arith, h.counted);
        begun = omega (arith, p.past);
        within = p.within;
        short = omega (arith, p.past);
        plain = λ r.
            ap₂ (λ (y z : Bytes). y ++ z) (h.plain (omega (arith, p.past))) (k (omega (arith, p.past)))
            ∙ part_part s from i e b (omega (arith, p.past)) p.within;
      }

  -- up to the end of a move after which it goes on
  pub held_on : (m : Move) (n : ℕ) → On m → Goes s i m → string_move s f i ≡ m → n ≡ length (adds s i m)
      → Held s f from (ends_at i m) (count + n) (acc ++ adds s i m)
  held_on (Copy e) n o g q c =
      held_more e n (lexeme s i e) g (literal_on s f i acc (Copy e) tt q) (omega (arith, length-slice i e s g.within)) (λ _. refl) c
  held_on (Skip e) n o g q c =
      held_more e n [] g (literal_on s f i acc (Skip e) tt q) (omega arith) (λ r. absurd (omega (arith, g.past))) c
  held_on (Line e) n o g q c =
      held_more e n (lexeme s i e) g (literal_on s f i acc (Line e) tt q) (omega (arith, length-slice i e s g.within)) (λ _. refl) c
  held_on (Char a e) n o g q c =
      held_more e n (encode a) g.0 (literal_on s f i acc (Char a e) tt q) (omega (arith, g.1.fewer)) (λ r. absurd (omega (arith, g.1.fewer))) c
  held_on Surrogate n o g q c = absurd o
  held_on (Close e) n o g q c = absurd o
  held_on Open n o g q c = absurd o
