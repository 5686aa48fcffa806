-- Each return is an arm of the definition.
use mathlib.Core.Path.{sym, ◌∙◌}
use Rattle.refusal.proofs.Ladder.{ill_formed, well, unsound}
use Rattle.refusal.proofs.text_refusal.Goals as goal

pub returns-then-bad-text : goal.returns-then-bad-text
returns-then-bad-text c = ill_formed _ _ c.first_bad-bad.ensures c.if-bad-text.true

pub returns-then-sound : goal.returns-then-sound
returns-then-sound c = well _ _ c.first_bad-bad.ensures c.if-bad-text.false (sym c.if-sound.true ∙ c.sound.ensures)

pub returns : goal.returns
returns c = unsound _ _ c.first_bad-bad.ensures c.if-bad-text.false (sym c.if-sound.false ∙ c.sound.ensures)
