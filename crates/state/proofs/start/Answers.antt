-- Two tests in the order of the definition.
use Rattle.state.proofs.Starting.{line_refused, column_refused, both_taken}
use Rattle.state.proofs.start.Goals as goal

pub returns-then-line-gt-LARGEST_LINE : goal.returns-then-line-gt-LARGEST_LINE
returns-then-line-gt-LARGEST_LINE c = line_refused _ _ c.if-line-gt-LARGEST_LINE.true

pub returns-then-column-gt-LARGEST_COLUMN : goal.returns-then-column-gt-LARGEST_COLUMN
returns-then-column-gt-LARGEST_COLUMN c = column_refused _ _ c.if-line-gt-LARGEST_LINE.false c.if-column-gt-LARGEST_COLUMN.true

pub returns : goal.returns
returns c = both_taken _ _ c.started.ensures c.if-line-gt-LARGEST_LINE.false c.if-column-gt-LARGEST_COLUMN.false
