-- The two bytes that early literals begin with.
use Rattle.std.specs.Prelude.{ℕ, Bool, eqb, if◌then◌else◌}
use Rattle.definition.specs.Basics.{ch, between}

-- the two bytes that an early literal may begin with
abbrev pub early_pair : ℕ → ℕ → Bool
early_pair a b =
    if eqb a (ch "s") then eqb b (ch "e") else (if eqb a (ch "#") then between (ch "a") (ch "z") b else (if eqb a (ch "%") then eqb b (ch "s") else eqb a (ch "`")))
