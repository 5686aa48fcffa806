-- Each place's payload describes its text; the others have none.
use mathlib.Core.Path.{refl}
use Rattle.rule_table.proofs.PlainLaws.{token_word, name_gives, line_gives, file_line_gives, part_gives, token_gives, less_gives, given_at, nothing_gives}
use native.Mathlib.Omega.{arith}
use Rattle.rule_table.proofs.plain.plain_payload.Goals as goal

pub overflow_add-result-in-36 : goal.overflow_add-result-in-36
overflow_add-result-in-36 c = omega (arith, token_word c.requires c.in-36.is)

pub returns-in-4 : goal.returns-in-4
returns-in-4 c = λ s name h named. given_at name h named _ _ 4 c.in-4.is (name_gives name h named)

pub returns-in-5 : goal.returns-in-5
returns-in-5 c = λ s name h named. given_at name h named _ _ 5 c.in-5.is (line_gives name h named)

pub returns-in-6 : goal.returns-in-6
returns-in-6 c = λ s name h named. given_at name h named _ _ 6 c.in-6.is (file_line_gives name h named)

pub returns-in-26 : goal.returns-in-26
returns-in-26 c = λ s name h named. given_at name h named _ _ 26 c.in-26.is (part_gives name h named _ _ c.saturating_sub.ensures (omega arith))

pub returns-in-32 : goal.returns-in-32
returns-in-32 c = λ s name h named. given_at name h named _ _ 32 c.in-32.is (part_gives name h named _ _ c.saturating_sub-in-32.ensures (omega arith))

pub returns-in-36 : goal.returns-in-36
returns-in-36 c = λ s name h named. given_at name h named _ _ 36 c.in-36.is (token_gives name h named _ (token_word c.requires c.in-36.is))

pub returns-in-37 : goal.returns-in-37
returns-in-37 c = λ s name h named. given_at name h named _ _ 37 c.in-37.is (less_gives name h named)

pub returns-in-50 : goal.returns-in-50
returns-in-50 c = λ s name h named. given_at name h named _ _ 50 c.in-50.is (part_gives name h named _ _ refl (omega arith))

pub returns-in_default : goal.returns-in_default
returns-in_default c = λ s name h named. nothing_gives name h named _ _ c.in_default.in_default-own.rest
