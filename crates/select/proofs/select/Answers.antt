-- `select` is the definition's `select`: past the end nothing is chosen, a byte of ASCII is a character by itself, and what is decoded is beyond
-- ASCII.
use mathlib.Core.Path.{sym, subst, ◌∙◌}
use Rattle.utf8.proofs.Reading.{NoChar}
use Rattle.utf8.proofs.Character.{decoded_within}
use Rattle.star.proofs.RunLaws.{no_char}
use Rattle.select.proofs.First.{select_none}
use Rattle.select.proofs.BeyondAscii.{beyond_ascii}
use Rattle.select.proofs.Standing.{no_char_past, ascii_stands, beyond_stands}
use native.Mathlib.Omega.{arith}
use Rattle.select.proofs.select.Goals as goal

pub returns-then-text-i : goal.returns-then-text-i
returns-then-text-i c = c.nothing.ensures ∙ sym (select_none _ _ _ (no_char_past _ _ c.if-text-i.true))

pub at_ascii-requires : goal.at_ascii-requires
at_ascii-requires c = (c.requires, ascii_stands c.if-text-i.false c.if-text-i-lt128.true)

pub returns-in_default : goal.returns-in_default
returns-in_default c = c.nothing-in_default.ensures ∙ sym (select_none _ _ _ (subst NoChar c.sequence_at.ensures (no_char c.sequence_at.result c.in_default.not-Char)))

pub overflow_add-i : goal.overflow_add-i
overflow_add-i c = omega (arith, decoded_within _ _ c.sequence_at.ensures c.in-Char.is)

pub returns : goal.returns
returns c = let q = sym c.sequence_at.ensures ∙ c.in-Char.is in c.at_beyond_ascii.ensures ∙ sym (beyond_ascii _ _ _ _ _ q (beyond_stands _ _ q c.if-text-i-lt128.false))
