-- A literal that has as many bytes as were read is what was read.
use Rattle.read_string.proofs.ReadLaws.{part_sized, literal_sized, part_held, literal_held}
use Rattle.read_string.proofs.contents.Goals as goal

pub returns-then-count-saturating_sub : goal.returns-then-count-saturating_sub
returns-then-count-saturating_sub c = record { sized = part_sized c.requires c.saturating_sub.ensures c.if-count-saturating_sub.true; describes = λ s name f acc h _. part_held c.saturating_sub.ensures c.if-count-saturating_sub.true s name f acc h }

pub returns : goal.returns
returns c = record { sized = literal_sized c.requires; describes = literal_held }
