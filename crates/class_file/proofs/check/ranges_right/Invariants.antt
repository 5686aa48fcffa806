-- `ranges_right` meets its contract. The invariant: the classes before k ascend.
use mathlib.Core.Path.{◌≡◌}
use mathlib.Core.Bool.{true}
use Rattle.definition.specs.ClassFile.{ranges_right}
use Rattle.class_file.proofs.check.ranges_right.Given as goal

abbrev pub invariant-loop-k : goal.invariant-loop-k
invariant-loop-k l = ranges_right l.file l.k ≡ true
