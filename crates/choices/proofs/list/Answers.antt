-- A character that stands in the text takes a byte or more, and none after the text's end.
use Rattle.std.proofs.Common.{arith, sym}
use Rattle.utf8.proofs.Character.{char_read, char_within}
use Rattle.choices.proofs.list.Goals as goal

pub overflow_add-i : goal.overflow_add-i
overflow_add-i g c = omega (arith, char_within (char_read (sym c.in-Char.ensures)))

pub loop-i-smaller : goal.loop-i-smaller
loop-i-smaller g c = omega (arith, char_within (char_read (sym c.in-Char.ensures)))
