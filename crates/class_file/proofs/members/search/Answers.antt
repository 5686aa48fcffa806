-- `search` meets its contract: where the middle range stands to c says which half is left, or that it is the answer.
use Prim.Native.Nat.{ℕ, ◌+◌, ◌-◌, ◌/◌, ◌<◌}
use mathlib.Core.Path.{◌≡◌, sym, ap, ◌∙◌}
use mathlib.Core.List.{List}
use native.Mathlib.Omega.{arith}
use lib.ListN.{get_or}
use Rattle.std.specs.Prelude.{map}
use Rattle.std.proofs.lemmas.List.{length-map}
use Rattle.definition.specs.ClassFile.{Range}
use Rattle.class_file.proofs.Ranges.{Reads, reads_at}
use Rattle.class_file.proofs.SearchLaws.{Narrowed, narrow_none, narrow_high, narrow_low, narrow_found, side_less, side_greater, side_equal}
use Rattle.class_file.proofs.members.search.Goals as goal

-- the middle one of the ranges that are left, as the element x gives it
middle : {X : Type 0} (ends : X → Range) (xs : List X) (x : X) (r : Range) (c low high : ℕ) → Narrowed (map ends xs) c low high → low < high
    → r ≡ ends x → x ≡ get_or xs (low + (high - low) / 2) x → Reads (map ends xs) (low + (high - low) / 2) r.0 r.1
middle ends xs x r c low high w l e is =
    reads_at ends xs (low + (high - low) / 2) x r (omega (arith, rw length-map at w.within)) (e ∙ ap ends is)

pub loop-low-preserved-then-is_gt : goal.loop-low-preserved-then-is_gt
loop-low-preserved-then-is_gt g c =
    let w = c.loop-low.invariant in
    let m = middle _ _ _ _ _ _ _ w c.loop-low-test.true c.ends.ensures c.index-ranges-mid.is in
    let above = side_greater c.ends.result c.args.c (rw (c.is_gt.ensures, c.side-place.ensures) at c.if-is_gt.true) in
    narrow_high c.requires w _ (omega arith) (omega arith) (rw m.is_first at above)

pub loop-low-preserved : goal.loop-low-preserved
loop-low-preserved g c =
    let w = c.loop-low.invariant in
    let m = middle _ _ _ _ _ _ _ w c.loop-low-test.true c.ends.ensures c.index-ranges-mid.is in
    let below = side_less c.ends.result c.args.c (rw (c.is_lt.ensures, c.side-place.ensures) at c.if-is_lt.true) in
    narrow_low c.requires w _ (omega arith) (omega arith) (rw m.is_last at below)

pub returns-else-is_lt : goal.returns-else-is_lt
returns-else-is_lt g c =
    let w = c.loop-low.invariant in
    let m = middle _ _ _ _ _ _ _ w c.loop-low-test.true c.ends.ensures c.index-ranges-mid.is in
    let holds = side_equal c.ends.result c.args.c
    (rw (c.is_gt.ensures, c.side-place.ensures) at c.if-is_gt.false)
    (rw (c.is_lt.ensures, c.side-place.ensures) at c.if-is_lt.false) in
    sym (narrow_found c.requires w _ (omega arith) (omega arith) (rw m.is_first at holds.0) (rw m.is_last at holds.1))

pub returns : goal.returns
returns g c = sym (narrow_none _ _ _ _ c.loop-low.invariant c.loop-low-test.false)
