use Prim.Native.Nat.{◌-◌}
use mathlib.Core.Path.{refl, sym, ◌∙◌}
use Rattle.rules.proofs.RuleLaws.{chosen_tabled, end_fits, line_fits}
use Rattle.lookahead.proofs.LookaheadLaws.{reaching_starts, reaching_after, chosen, passed_white, passed_line, seen}
use native.Mathlib.Omega.{arith}
use Rattle.lookahead.proofs.look.Goals as goal

pub loop-from-init : goal.loop-from-init
loop-from-init c =
    let p = c.requires in
    reaching_starts (record { standing = p.standing; between = p.between; accepted = p.lent.classes })

pub after_white-here-requires : goal.after_white-here-requires
after_white-here-requires c = c.loop-from.invariant.ready

pub select-choice-requires : goal.select-choice-requires
select-choice-requires c = c.requires.lent

pub rule_of-requires : goal.rule_of-requires
rule_of-requires c = (chosen_tabled _ _ _ c.select-choice.ensures).place

pub moved-from-requires : goal.moved-from-requires
moved-from-requires c =
    let k = reaching_after c.loop-from.invariant c.after_white-here.ensures in
    end_fits (chosen k c.select-choice.ensures (sym c.rule_of.ensures ∙ c.in-White.is) refl)

pub loop-from-smaller-in-White : goal.loop-from-smaller-in-White
loop-from-smaller-in-White c =
    let k = reaching_after c.loop-from.invariant c.after_white-here.ensures in
    let passed = passed_white k c.select-choice.ensures (sym c.rule_of.ensures ∙ c.in-White.is) c.moved-from.ensures in
    omega (arith, passed.1, c.after_white-here.ensures.less)

pub loop-from-preserved-in-White : goal.loop-from-preserved-in-White
loop-from-preserved-in-White c =
    let k = reaching_after c.loop-from.invariant c.after_white-here.ensures in
    (passed_white k c.select-choice.ensures (sym c.rule_of.ensures ∙ c.in-White.is) c.moved-from.ensures).0

pub next_line-from-requires : goal.next_line-from-requires
next_line-from-requires c =
    let k = reaching_after c.loop-from.invariant c.after_white-here.ensures in
    let h = chosen k c.select-choice.ensures (sym c.rule_of.ensures ∙ c.in-Newline.is) refl in
    (end_fits h, line_fits h)

pub loop-from-smaller : goal.loop-from-smaller
loop-from-smaller c =
    let k = reaching_after c.loop-from.invariant c.after_white-here.ensures in
    let passed = passed_line k c.select-choice.ensures (sym c.rule_of.ensures ∙ c.in-Newline.is) c.next_line-from.ensures in
    omega (arith, passed.1, c.after_white-here.ensures.less)

pub loop-from-preserved : goal.loop-from-preserved
loop-from-preserved c =
    let k = reaching_after c.loop-from.invariant c.after_white-here.ensures in
    (passed_line k c.select-choice.ensures (sym c.rule_of.ensures ∙ c.in-Newline.is) c.next_line-from.ensures).0

pub returns-in-Action : goal.returns-in-Action
returns-in-Action c =
    let k = reaching_after c.loop-from.invariant c.after_white-here.ensures in
    seen k c.select-choice.ensures (sym c.rule_of.ensures ∙ c.in-Action.is) tt

pub returns-in-Reader : goal.returns-in-Reader
returns-in-Reader c =
    let k = reaching_after c.loop-from.invariant c.after_white-here.ensures in
    seen k c.select-choice.ensures (sym c.rule_of.ensures ∙ c.in-Reader.is) tt
