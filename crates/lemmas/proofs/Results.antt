-- What a `?` hands up.
use Rattle.std.specs.Prelude.{Result, Ok, Err, IsErrAnd}
use mathlib.Core.Path.{◌≡◌, ap}

-- the exit of a `?` returns the error that it was given, as the caller's error
pub handed_up : {T E : Type 0} {e : E} (r : Result T E) → IsErrAnd r (λ y. y ≡ e) → r ≡ Err e
handed_up (Ok x) h = absurd h
handed_up (Err y) h = ap Err h
