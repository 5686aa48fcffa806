-- The refusals that ask for the text's bytes, as the definition's `refusal` ends.
use Rattle.std.specs.Prelude.{ℕ, true, false, ltb, length, if◌then◌else◌}
use Rattle.definition.specs.Basics.{Bytes}
use Rattle.definition.specs.Text.{first_bad}
use Rattle.definition.specs.State.{sound}
use Rattle.definition.specs.declared.State.{State}

unfoldable pub text_refusal : Bytes → State → ℕ × ℕ
text_refusal s st = elim (ltb (first_bad s) (length s)) [ true ↦ (8, first_bad s) | false ↦ if sound s st then (0, 0) else (9, 0) ]
