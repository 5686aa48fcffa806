-- `narrow` is the definition's: an equation for each way through it.
use mathlib.Core.Path.{sym}
use borrow.Author.Tests.{eq-eqb, ne_eqb}
use Rattle.trim_lines.proofs.Widths.{narrow_newline, narrow_decided, narrow_space, narrow_other}
use Rattle.trim_lines.proofs.narrow.Goals as goal

pub returns-then-b-eq10 : goal.returns-then-b-eq10
returns-then-b-eq10 c = sym (narrow_newline _ _ (eq-eqb _ _ c.if-b-eq10.true))

pub returns-then-margin : goal.returns-then-margin
returns-then-margin c = sym (narrow_decided _ _ (ne_eqb _ _ c.if-b-eq10.false) c.if-margin.true)

pub returns-then-b-eq32 : goal.returns-then-b-eq32
returns-then-b-eq32 c =
    sym (narrow_space _ _ (ne_eqb _ _ c.if-b-eq10.false) c.if-margin.false (eq-eqb _ _ c.if-b-eq32.true))

pub returns : goal.returns
returns c =
    sym (narrow_other _ _ (ne_eqb _ _ c.if-b-eq10.false) c.if-margin.false (ne_eqb _ _ c.if-b-eq32.false))
