-- Records whose positions are known without a count: they become what they become by counting. Rests on the laws of places and of records.
use Rattle.std.specs.Prelude.{Option, None}
use Prim.Native.Nat.{ℕ, ◌-◌, ◌≤◌}
use native.Mathlib.Omega.{arith}
use mathlib.Core.Path.{◌≡◌, refl, sym, ap, ap₂, ◌∙◌}
use mathlib.Core.Bool.{true}
use mathlib.Core.List.{List, ◌++◌}
use mathlib.Core.Logic.{inr}
use lib.Dec.{leb}
use lib.ListN.{get_or}
use lib.Seq.{sets}
use borrow.Author.Tests.{eq-eqb, leb-true}
use Rattle.definition.specs.Basics.{Bytes}
use Rattle.definition.specs.Utf16.{utf16}
use Rattle.definition.specs.declared.Pos.{Pos}
use Rattle.position.specs.AsciiRuns.{AsciiTo}
use Rattle.utf16_positions.specs.declared.LineStart.{LineStart}
use Rattle.utf16_positions.specs.declared.Place.{Place}
use Rattle.utf16_positions.specs.declared.Tally.{Tally}
use Rattle.utf16_positions.specs.Places.{first_place, place_at, second_by, Tallied, Recounts, Recounted}
use Rattle.utf16_positions.specs.Asks.{tally_at, pos_words, again_at, extra_again}
use Rattle.utf16_positions.specs.Plain.{OnKnown, plain_end, PlainHere, plain_place, Ahead, Short, PlainAgain}
use Rattle.utf16_positions.proofs.PlaceLaws.{on_known, from_gives, plain_is, tallied_at}
use Rattle.utf16_positions.proofs.RecordLaws.{both_again, no_extra, all_again}

-- the run of ASCII after the known place reaches the record's end
pub reaches : {s : Bytes} {here : LineStart} {t : Tally} {r : List ℕ} {j : ℕ} → Tallied s t → OnKnown here t r → AsciiTo s t.place.off j
    → leb (plain_end t r) j ≡ true → PlainHere s here t r
reaches {t = t} {r = r} {j = j} h o a e =
    let m : plain_end t r ≤ j = leb-true (plain_end t r) j e in
    record { on = o; ascii = λ k l n. a.ascii k l (omega arith); within = omega (arith, a.within (on_known h).within) }

module _ {s : Bytes} {here next : LineStart} {t : Tally} {r : List ℕ} (h : Recounts s here next t r) (p : PlainHere s here t r) where
  -- a column of the record that isn't past its end
  ahead : (col : ℕ) → t.place.col ≤ col → col ≤ get_or r 5 0 → Ahead t.place col
  ahead col a b = record {
    after = a;
    bytes = omega (arith, p.within, h.here_begins.short);
    units = let k = on_known h.tallied in omega (arith, k.small, k.within, k.short);
  }

  first : t.place.col ≤ get_or r 3 0
  first = p.on.after

  order : get_or r 3 0 ≤ get_or r 5 0
  order = p.on.order

  -- what storing its numbers asks for
  pub short : Short t r
  short = record {
    size = h.size;
    start_line = h.lines.start;
    end_line = h.lines.end;
    start = ahead (get_or r 3 0) first order;
    end = ahead (get_or r 5 0) (omega arith) (omega arith);
  }

  -- the place at such a column
  place_is : (col : ℕ) → t.place.col ≤ col → col ≤ get_or r 5 0 → place_at utf16 s (first_place here) col ≡ plain_place t.place col
  place_is col a b =
      sym (from_gives h.tallied (inr (p.on.same, a, refl)))
      ∙ plain_is s t.place col a (λ k m n. p.ascii k m (omega arith)) (omega (arith, p.within))

  -- the position there
  second_plain : (line col : ℕ) → line ≡ here.line → t.place.col ≤ col → col ≤ get_or r 5 0
      → second_by s here next (record { line = line; col = col }) ≡ record { line = line - 1; col = (plain_place t.place col).units }
  unfolding second_by
  second_plain line col e a b =
      rw (eq-eqb line here.line e, second_by) (ap (λ (x : Place). record { line = line - 1; col = x.units }) (place_is col a b))

  -- so the record becomes what it becomes by counting
  pub plainly : (begun : Option ℕ) → begun ≡ None → {t' : Tally} {r' : List ℕ} → PlainAgain t r t' r' → Recounted s here next begun r t' r'
  plainly begun b {t'} {r'} w = all_again h begun (rw tally (tallied_at (get_or r 5 0) h.here_begins)) (rw b words)
    where
      q : Pos → Pos
      q = second_by s here next

      tally : t' ≡ tally_at s here (get_or r 5 0)
      tally =
          w.tally
          ∙ ap₂ (λ (l : LineStart) (x : Place). record { start = l; place = x }) p.on.same
          (sym (place_is (get_or r 5 0) (omega arith) (omega arith)))

      words : r' ≡ again_at q 4 (again_at q 2 (extra_again q r))
      words =
          w.words
          ∙ sym (both_again q r
          ∙ ap₂ (λ (x y : Pos). sets r 2 (pos_words x ++ pos_words y))
          (second_plain (get_or r 2 0) (get_or r 3 0) p.on.start_line first order)
          (second_plain (get_or r 4 0) (get_or r 5 0) p.on.end_line (omega arith) (omega arith)))
          ∙ ap (λ (l : List ℕ). again_at q 4 (again_at q 2 l)) (no_extra h p.on.few).is
