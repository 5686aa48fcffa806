-- A word of the tables gives its entry's token; the lexeme is a part of the text.
use Rattle.rule_words.proofs.Entries.{word_rules, lexeme_rules}
use native.Mathlib.Omega.{arith}
use Rattle.rule_words.proofs.worded.Goals as goal

pub kind_at-requires : goal.kind_at-requires
kind_at-requires c = omega (arith, rw c.in-Some.is at c.requires)

pub returns-in-Some : goal.returns-in-Some
returns-in-Some c = λ s name h. word_rules h name _ _ _ _ (rw c.in-Some.is at c.requires) c.in-Some.is c.kind_at.ensures

pub returns-in-None : goal.returns-in-None
returns-in-None c = λ s name h. lexeme_rules h name _ _ c.in-None.is
