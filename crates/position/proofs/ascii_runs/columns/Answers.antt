-- Where the run of ASCII covers the token the columns go on by as much as the offsets do (`start_covered`, `end_covered`); else they are counted.
use mathlib.Core.Path.{ap}
use native.Mathlib.Omega.{arith}
use Rattle.position.specs.declared.Cache.{Cache}
use Rattle.position.proofs.Counting.{column_fits}
use Rattle.position.proofs.Ascii.{start_covered, end_covered, asked_on}
use Rattle.position.proofs.ascii_runs.columns.Goals as goal

pub overflow_sub-result : goal.overflow_sub-result
overflow_sub-result c = omega (arith, (c.covers.ensures c.if-covers.true).after)

pub overflow_add-result : goal.overflow_add-result
overflow_add-result c =
    let pre = c.requires in
    omega (arith, column_fits _ pre.0 (start_covered pre.2 (c.covers.ensures c.if-covers.true) pre.0))

pub overflow_sub-result-then-covers : goal.overflow_sub-result-then-covers
overflow_sub-result-then-covers c =
    let v = c.covers.ensures c.if-covers.true in
    omega (arith, v.after, v.order)

pub overflow_add-result-then-covers : goal.overflow_add-result-then-covers
overflow_add-result-then-covers c =
    let pre = c.requires in
    omega (arith, column_fits _ pre.1 (end_covered pre.2 (c.covers.ensures c.if-covers.true) pre.1))

pub returns-then-covers : goal.returns-then-covers
returns-then-covers c =
    let pre = c.requires in
    let v = c.covers.ensures c.if-covers.true in
    (ap (λ (x : Cache). x.col) (start_covered pre.2 v pre.0), ap (λ (x : Cache). x.col) (end_covered pre.2 v pre.1))

pub known_after-end-requires : goal.known_after-end-requires
known_after-end-requires c =
    let pre = c.requires in
    asked_on _ c.known_after-start.ensures pre.0 pre.1

pub returns : goal.returns
returns c = (ap (λ (x : Cache). x.col) c.known_after-start.ensures, ap (λ (x : Cache). x.col) c.known_after-end.ensures)
