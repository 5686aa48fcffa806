-- As in `count_part`, a part at a time: a part has 255 bytes at most, what is left are the last bytes, and those before them are counted.
use mathlib.Core.Path.{◌≡◌}
use Prim.Native.Nat.{◌-◌, ◌≤◌, ◌<◌}
use lib.ListN.{length, drop}
use Rattle.std.specs.Slice.Iter.{chunks_rest, chunks_size}
use Rattle.definition.specs.Position.{one_each}
use Rattle.position.proofs.Counting.{Counting}
use Rattle.position.proofs.count_parts.Given as goal

abbrev pub invariant-loop-part : goal.invariant-loop-part
invariant-loop-part l = record {
  some : 0 < chunks_size l.part-iterator;
  few : chunks_size l.part-iterator ≤ 255;
  rest : drop (length l.bytes - length (chunks_rest l.part-iterator)) l.bytes ≡ chunks_rest l.part-iterator;
  counted : Counting one_each l.bytes 0 (length l.bytes) l.n (length l.bytes - length (chunks_rest l.part-iterator));
}
