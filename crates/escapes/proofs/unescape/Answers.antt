-- Each return is one way of the definition: past the end, a character, a backslash that ends the text, and an escape.
use native.Mathlib.Omega.{arith}
use mathlib.Core.Path.{sym, ◌∙◌}
use Rattle.escapes.proofs.EscapeLaws.{byte_read, unescape_past, unescape_plain, unescape_open, unescape_slash}
use Rattle.escapes.proofs.unescape.Goals as goal

pub returns-in_default : goal.returns-in_default
returns-in_default c = unescape_past _ _ (sym c.byte.ensures ∙ c.in_default.is)

pub returns-then-first-ne92 : goal.returns-then-first-ne92
returns-then-first-ne92 c =
    c.code_at.ensures ∙ unescape_plain _ _ _ (sym c.byte.ensures ∙ c.in-Some.is) c.if-first-ne92.true

pub overflow_add-i : goal.overflow_add-i
overflow_add-i c =
    omega (arith, (byte_read _ _ (sym c.byte.ensures ∙ c.in-Some.is)).0)

pub returns-in_default-byte : goal.returns-in_default-byte
returns-in_default-byte c =
    unescape_open _ _ _ (sym c.byte.ensures ∙ c.in-Some.is) c.if-first-ne92.false (sym c.byte-2.ensures ∙ c.in_default-byte.is)

pub escaped-requires : goal.escaped-requires
escaped-requires c = (byte_read _ _ (sym c.byte-2.ensures ∙ c.in-Some-byte.is)).0

pub returns : goal.returns
returns c =
    c.escaped.ensures
    ∙ unescape_slash _ _ _ (sym c.byte.ensures ∙ c.in-Some.is) c.if-first-ne92.false _ (sym c.byte-2.ensures ∙ c.in-Some-byte.is)
