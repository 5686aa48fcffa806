-- The white space of ASCII, which a run of white space passes by bytes.
use Rattle.std.specs.Prelude.{ℕ, Bool, ◌||◌, eqb}
use Rattle.definition.specs.Basics.{ch}

abbrev pub is_blank : ℕ → Bool
is_blank c = eqb c (ch " ") || (eqb c (ch "\t") || (eqb c 11 || eqb c 12))
