-- `class_check` meets its contract: each return is an arm of the definition's check.
use mathlib.Core.Path.{sym, ◌∙◌}
use Rattle.class_file.proofs.Accepted.{check_short, check_long, check_layout, check_ranges, check_passes}
use Rattle.class_file.proofs.check.class_check.Goals as goal

pub returns-then-file-lt-HEADER : goal.returns-then-file-lt-HEADER
returns-then-file-lt-HEADER c = sym (check_short _ c.if-file-lt-HEADER.true)

pub returns-then-file-gt-LONGEST_FILE : goal.returns-then-file-gt-LONGEST_FILE
returns-then-file-gt-LONGEST_FILE c = sym (check_long _ c.if-file-lt-HEADER.false c.if-file-gt-LONGEST_FILE.true)

pub returns-then-not-laid_out : goal.returns-then-not-laid_out
returns-then-not-laid_out c =
    sym (check_layout _ c.if-file-lt-HEADER.false c.if-file-gt-LONGEST_FILE.false (sym c.laid_out.ensures ∙ c.if-not-laid_out.true))

pub ranges_right-requires : goal.ranges_right-requires
ranges_right-requires c = sym c.laid_out.ensures ∙ c.if-not-laid_out.false

pub returns-then-not-ranges_right : goal.returns-then-not-ranges_right
returns-then-not-ranges_right c =
    sym (check_ranges _ c.if-file-lt-HEADER.false c.if-file-gt-LONGEST_FILE.false (sym c.laid_out.ensures ∙ c.if-not-laid_out.false)
    (sym c.ranges_right.ensures ∙ c.if-not-ranges_right.true))

pub returns : goal.returns
returns c =
    sym (check_passes _ c.if-file-lt-HEADER.false c.if-file-gt-LONGEST_FILE.false (sym c.laid_out.ensures ∙ c.if-not-laid_out.false)
    (sym c.ranges_right.ensures ∙ c.if-not-ranges_right.false))
