-- At the text's end the item is EOF; before it the choice is acted on.
use Rattle.step.proofs.StepLaws.{turn_ends, next_reads, acts, acted}
use Rattle.step.proofs.read_choice.Goals as goal

pub end_of_text-requires : goal.end_of_text-requires
end_of_text-requires c = c.requires.0.standing

pub returns-then-at_end : goal.returns-then-at_end
returns-then-at_end c = next_reads _ _ _ _ _ (turn_ends _ _ _ _ _ c.if-at_end.true (c.end_of_text.ensures _))

pub act-requires : goal.act-requires
act-requires c =
    let p = c.requires in
    (acts p.0 p.1 c.if-at_end.false, p.0.ruled)

pub returns : goal.returns
returns c =
    let p = c.requires in
    acted p.0 p.1 c.if-at_end.false _ c.act.ensures
