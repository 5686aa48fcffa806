-- The names in the code are those of the definition's list.
use mathlib.Core.List.{[]}
use native.Mathlib.Omega.{arith}
use Rattle.definition.specs.Utf8.{encode, encode_all}
use Rattle.definition.specs.Tables.{cps}
use Rattle.definition.specs.Kinds.{kind_names}
use Rattle.std.proofs.lemmas.List.{get_or-take}
use Rattle.lemmas.proofs.Pointed.{now_at}
use Rattle.table_entries.proofs.TextLaws.{text_in}
use Rattle.listing_lines.specs.Line.{names}
use Rattle.listing_lines.proofs.kind_names.name_at.Goals as goal

pub returns-then-k-lt66 : goal.returns-then-k-lt66
unfolding names kind_names cps encode_all encode
returns-then-k-lt66 c = rw (now_at _ _) (get_or-take 66 names c.args.k [] (omega arith))

pub returns : goal.returns
unfolding names kind_names cps encode_all encode
returns c = rw (now_at _ _) (text_in names 66 108 c.args.k (omega arith) (omega arith))
