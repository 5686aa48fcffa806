-- `match_backtick_ident` is the definition's `match_backtick_ident`. The invariant: its loop goes on at `end`, after a part or more. The
-- measure is what is left of the text.
use Prim.Native.Nat.{◌-◌, ◌≤◌}
use lib.ListN.{length}
use Rattle.matchers.proofs.QuoteLaws.{PartsTo}
use Rattle.matchers.proofs.quoted.match_backtick_ident.Given as goal

abbrev pub invariant-loop-next : goal.invariant-loop-next
invariant-loop-next l = (l.end ≤ length l.text) × PartsTo l.text l.i l.end

abbrev pub decreases-loop-next : goal.decreases-loop-next
decreases-loop-next l = length l.text - l.end
