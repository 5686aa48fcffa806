-- `is_escape_letter` answers for the bytes of the definition's list, and for no others.
use mathlib.Core.Path.{refl, sym}
use Rattle.definition.specs.Basics.{codes, mem_cp}
use Rattle.lemmas.proofs.Members.{mem_yes, mem_no}
use Rattle.matchers.proofs.quoted.is_escape_letter.Goals as goal

pub returns-in-92 : goal.returns-in-92
unfolding mem_cp
returns-in-92 c = sym (mem_yes (codes "\"'0\\bfnrtv") (codes "\\\"'bfntrv0") _ refl c.in-92.is)

pub returns-in_default : goal.returns-in_default
unfolding mem_cp
returns-in_default c = sym (mem_no (codes "\"'0\\bfnrtv") (codes "\\\"'bfntrv0") _ refl c.in_default.in_default-own.rest.1)
