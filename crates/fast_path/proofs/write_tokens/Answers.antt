use mathlib.Core.Path.{refl, ◌∙◌}
use mathlib.Core.List.{[]}
use Rattle.rules.proofs.RuleLaws.{chosen_tabled}
use Rattle.lookahead.proofs.LookaheadLaws.{action_chose}
use Rattle.fast_path.proofs.TokenLaws.{action_asks}
use Rattle.fast_path.proofs.TokensWrittenLaws.{tokens_start, looks_asked, writes_asked, then_reader, then_action, token_passed, no_tokens}
use native.Mathlib.Omega.{arith}
use Rattle.fast_path.proofs.write_tokens.Goals as goal

pub returns-then-st-ne0 : goal.returns-then-st-ne0
returns-then-st-ne0 c = no_tokens c.requires.0 c.if-st-ne0.true refl

pub loop-here-init : goal.loop-here-init
loop-here-init c = (tokens_start c.requires.0 c.if-st-ne0.false, refl, refl)

pub look-requires : goal.look-requires
look-requires c = looks_asked c.loop-here.invariant.0 c.requires.1

pub shape_of-records-in-Reader : goal.shape_of-records-in-Reader
shape_of-records-in-Reader c = c.loop-here.invariant.1

pub shape_of-bytes-in-Reader : goal.shape_of-bytes-in-Reader
shape_of-bytes-in-Reader c = c.loop-here.invariant.2

pub returns-in-Reader : goal.returns-in-Reader
returns-in-Reader c =
    let sees = rw c.in-Reader.is at c.look.ensures in
    then_reader c.loop-here.invariant.0 sees refl

pub ruled-action-requires : goal.ruled-action-requires
ruled-action-requires c =
    let sees = rw c.in-Action.is at c.look.ensures in
    let h = sees.faces in
    (action_chose h c.loop-here.invariant.0.between.accepted, chosen_tabled _ _ _ h.chosen, h.ruled)

pub overflow_mul-first : goal.overflow_mul-first
overflow_mul-first c = omega (arith, c.loop-here.invariant.0.between.kept.begun)

pub put_action-requires : goal.put_action-requires
put_action-requires c = action_asks (c.ruled-action.ensures [] (omega arith)) (writes_asked c.loop-here.invariant.0)

pub shape_of-records-in-None : goal.shape_of-records-in-None
shape_of-records-in-None c = c.put_action.auto.records ∙ c.loop-here.invariant.1

pub shape_of-bytes-in-None : goal.shape_of-bytes-in-None
shape_of-bytes-in-None c = c.put_action.auto.bytes ∙ c.loop-here.invariant.2

pub returns-in-None : goal.returns-in-None
returns-in-None c =
    let sees = rw c.in-Action.is at c.look.ensures in
    then_action c.loop-here.invariant.0 sees c.ruled-action.ensures (rw c.in-None.is at c.put_action.ensures) refl

pub overflow_add-count : goal.overflow_add-count
overflow_add-count c = omega (arith, c.loop-here.invariant.0.between.kept.few)

pub loop-here-smaller : goal.loop-here-smaller
loop-here-smaller c =
    let sees = rw c.in-Action.is at c.look.ensures in
    (token_passed c.loop-here.invariant.0 sees c.ruled-action.ensures _ _ _ (rw c.in-Some.is at c.put_action.ensures)).1

pub loop-here-preserved : goal.loop-here-preserved
loop-here-preserved c =
    let sees = rw c.in-Action.is at c.look.ensures in
    ((token_passed c.loop-here.invariant.0 sees c.ruled-action.ensures _ _ _ (rw c.in-Some.is at c.put_action.ensures)).0, c.put_action.auto.records ∙ c.loop-here.invariant.1, c.put_action.auto.bytes ∙ c.loop-here.invariant.2)
