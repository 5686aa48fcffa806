-- What is read by a rule. s is the text, name the file's name.
use Rattle.definition.specs.Basics.{Bytes}
use Rattle.definition.specs.Token.{TokenTurn}
use Rattle.reader.specs.Described.{Turns}
use Rattle.reader.specs.declared.Read.{Read}
use Rattle.reader.specs.declared.ReadResult.TheVariants.{Done}

-- what the definition's rule t gives, whatever the class file is
abbrev pub Does : Bytes → Bytes → TokenTurn → Read → Type 0
Does s name t r = (f : Bytes) → Turns s name f t (Done r)
