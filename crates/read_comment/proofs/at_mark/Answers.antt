-- `at_mark` is a turn of the definition's `comment` where no run stands, no level is opened and no line ends.
use mathlib.Core.Path.{sym, ◌∙◌}
use native.Mathlib.Omega.{arith}
use Rattle.read_comment.proofs.Small.{small}
use Rattle.read_comment.proofs.TurnLaws.{closed_ending, over_ending, turns_closed, turns_over, turns_after, after_within}
use Rattle.read_comment.proofs.at_mark.Goals as goal

pub moved-requires : goal.moved-requires
moved-requires c =
    let h = small c.requires.stopped.inside.standing.stands in
    omega (arith, h.offset)

pub terminate-requires : goal.terminate-requires
terminate-requires c =
    closed_ending c.requires (sym c.byte_pair.ensures ∙ c.if-byte_pair.true) c.moved.ensures

pub returns-then-byte_pair : goal.returns-then-byte_pair
returns-then-byte_pair c =
    turns_closed c.requires c.args.from (sym c.byte_pair.ensures ∙ c.if-byte_pair.true) c.moved.ensures c.terminate.ensures

pub terminate-requires-then-text-i : goal.terminate-requires-then-text-i
terminate-requires-then-text-i c = over_ending c.requires

pub returns-then-text-i : goal.returns-then-text-i
returns-then-text-i c =
    turns_over c.requires c.args.from (sym c.byte_pair.ensures ∙ c.if-byte_pair.false) c.if-text-i.true c.terminate-then-text-i.ensures

pub moved-requires-2 : goal.moved-requires-2
moved-requires-2 c =
    omega (arith, after_within c.requires c.after.ensures, c.requires.stopped.inside.standing.stands.short)

pub returns : goal.returns
returns c =
    turns_after c.requires c.args.from (sym c.byte_pair.ensures ∙ c.if-byte_pair.false) c.if-text-i.false c.after.ensures
    c.moved-2.ensures
