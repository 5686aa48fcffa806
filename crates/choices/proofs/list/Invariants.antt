-- What is left of the text falls: each character takes a byte or more of it.
use Rattle.std.proofs.Common.{◌-◌, length}
use Rattle.choices.proofs.list.Given as goal

abbrev pub decreases-loop-i : goal.decreases-loop-i
decreases-loop-i g l = length l.text - l.i
