-- No more bytes are checked than the text has.
use Rattle.std.proofs.Common.{◌≤◌, length}
use Rattle.bench.proofs.checks.Given as goal

abbrev pub invariant-loop : goal.invariant-loop
invariant-loop l = l.legal ≤ length l.text
