use mathlib.Core.Path.{ap, ◌∙◌}
use Rattle.definition.specs.Basics.{Bytes, same}
use Rattle.table_words.proofs.spellings.is_word.Goals as goal

pub returns : goal.returns
returns c = c.spells.ensures ∙ ap (λ (w : Bytes). same w c.args.id.now) c.word.ensures
