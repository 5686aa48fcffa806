-- The table of refusals and stops of specs/Limits.antt, as one test that the checker computes; and that refusal 6 goes before
-- all others and refusal 7 next, which no table could show without a text of a million bytes. Rests on nothing but the definition.
use mathlib.Core.Path.{◌≡◌, refl}
use mathlib.Core.Bool.{true, false}
use lib.ListN.{length}
use Rattle.definition.specs.Basics.{Bytes}
use Rattle.definition.specs.Run.{text_too_long, name_too_long, refusal}
use Rattle.definition.specs.Limits.{limit_rows, given, due}
use Rattle.definition.specs.declared.State.{State}
use Rattle.definition.proofs.Computed.{equal_rows}

pub limits : given ≡ due
unfolding limit_rows
limits = equal_rows given due refl

module _ (s name f : Bytes) (st : State) where
  -- a text that is too long is refusal 6, whatever else is wrong
  pub six_first : text_too_long (length s) ≡ true → refusal s name f st ≡ (6, 0)
  unfolding refusal
  six_first h = rw (h, refusal)

  -- a name that is too long is refusal 7, whatever the class file, the text and the state are
  pub seven_next : text_too_long (length s) ≡ false → name_too_long (length name) ≡ true → refusal s name f st ≡ (7, 0)
  unfolding refusal
  seven_next h k = rw (h, k, refusal)
