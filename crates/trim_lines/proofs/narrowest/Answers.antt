-- `narrowest` is the definition's: both go by the same test.
use mathlib.Core.Path.{sym}
use borrow.Author.Tests.{lt-ltb, le-ltb}
use Rattle.trim_lines.specs.Trimming.{narrowest}
use Rattle.trim_lines.proofs.narrowest.Goals as goal

pub returns-then-margin : goal.returns-then-margin
unfolding narrowest
returns-then-margin c = sym (simp (narrowest, lt-ltb _ _ c.if-margin.true))

pub returns : goal.returns
unfolding narrowest
returns c = sym (simp (narrowest, le-ltb _ _ c.if-margin.false))
