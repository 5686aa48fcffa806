-- Where a reader stands: in a sound state of a legal text that is not too long, with a column that is known.
use Rattle.definition.specs.Basics.{Bytes}
use Rattle.definition.specs.declared.State.{State}
use Rattle.state.specs.Sound.{Stands}
use Rattle.position.specs.declared.Cache.{Cache}
use Rattle.reader.specs.Described.{KnownAt}

pub record Standing (s : Bytes) (st : State) (known : Cache) : Type 0 where
  pub stands : Stands s st
  pub cached : KnownAt s st known
