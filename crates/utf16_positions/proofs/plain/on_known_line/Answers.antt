-- Each way out that answers no says nothing; where none is taken each of the six holds.
use mathlib.Core.Path.{sym, ◌∙◌}
use mathlib.Core.Bool.{false≢true}
use Rattle.std.proofs.lemmas.Bool.{not-false}
use Rattle.utf16_positions.proofs.PlaceLaws.{line_is}
use native.Mathlib.Omega.{arith}
use borrow.Author.Tests.{leb-true}
use Rattle.utf16_positions.proofs.plain.on_known_line.Goals as goal

pub returns-then-ne : goal.returns-then-ne
returns-then-ne c = λ e. absurd (false≢true e)

pub returns-then-out-gt1 : goal.returns-then-out-gt1
returns-then-out-gt1 c = λ e. absurd (false≢true e)

pub returns-then-out-here : goal.returns-then-out-here
returns-then-out-here c = λ e. absurd (false≢true e)

pub returns-then-out-here-2 : goal.returns-then-out-here-2
returns-then-out-here-2 c = λ e. absurd (false≢true e)

pub returns-then-out-known : goal.returns-then-out-known
returns-then-out-known c = λ e. absurd (false≢true e)

pub returns : goal.returns
returns c = λ e.
    record {
      same = line_is _ _ (not-false _ (sym c.ne.ensures ∙ c.if-ne.false));
      few = omega arith;
      start_line = omega arith;
      end_line = omega arith;
      after = omega arith;
      order = leb-true _ _ e;
    }
