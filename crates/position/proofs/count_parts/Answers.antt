use Prim.Native.Nat.{◌+◌, ◌-◌}
use native.Mathlib.Omega.{arith}
use native.Mathlib.Numerals.{unary_clauses}
use mathlib.Core.Path.{◌≡◌, refl, sym, ◌∙◌}
use lib.ListN.{length}
use Rattle.std.specs.Slice.Iter.{chunks_rest}
use Rattle.position.proofs.Counting.{counted_small, counting_starts, counting_goes_to, counting_ends, count_of_front, rest_begins, rest_left}
use Rattle.position.proofs.count_parts.Goals as goal

pub loop-part-init : goal.loop-part-init
loop-part-init c =
    let bytes = c.args.bytes.now in
    let none : length bytes - length bytes ≡ 0 = omega arith in
    rw (c.into_iter-part-iterator.ensures.into_iter_gives, c.chunks-part-items.ensures.size, c.chunks-part-items.ensures.rest, none)
    (record { some = omega arith; few = omega arith; rest = refl; counted = counting_starts _ _ _ _ })

pub overflow_add-n : goal.overflow_add-n
overflow_add-n c =
    let m = counted_small _ _ _ _ _ (omega arith) c.loop-part.invariant.counted in
    omega arith

pub loop-part-preserved : goal.loop-part-preserved
loop-part-preserved c =
    let bytes = c.args.bytes.now in
    let part = c.in-Some.part.now in
    let k = length bytes - length (chunks_rest c.loop-part.part-iterator) in
    let rest = chunks_rest c.next.new.self in
    let e = c.loop-part.invariant.rest ∙ c.in-Some.ensures.steps.1.0 in
    let on : length bytes - length rest ≡ k + length part = rest_begins bytes k part rest (omega arith) e in
    let size : length bytes - length rest - k ≡ length part = omega arith in
    record {
      some = omega arith;
      few = omega arith;
      rest = rest_left bytes k part rest (omega arith) e;
      counted =
          rw (c.from-n.ensures, c.count_part.ensures, count_of_front bytes k _ part rest e (sym size))
          (counting_goes_to _ _ _ _ _ _ _ (omega arith) (omega arith) c.loop-part.invariant.counted);
    }

pub returns : goal.returns
returns c = simp unary_clauses at (counting_ends _ _ _ _ _ _ (omega (arith, c.in-None.ensures.steps.1.0)) c.loop-part.invariant.counted)
