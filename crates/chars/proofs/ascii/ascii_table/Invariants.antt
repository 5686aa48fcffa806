-- `ascii_table` meets its contract. The invariant, `Filled`: each entry says whether its character is among those so far.
use lib.ListN.{take}
use Rattle.chars.proofs.AsciiTables.{Filled}
use Rattle.chars.proofs.ascii.ascii_table.Given as goal

abbrev pub invariant-loop-c : goal.invariant-loop-c
invariant-loop-c l = Filled l.table (take l.c-index l.chars)
