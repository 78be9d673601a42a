-- What the exit of a `?` on a Result returns: the error that was there.
use mathlib.Core.Path.{◌≡◌, ap}
use Rattle.std.specs.Prelude.{Result, Ok, Err, IsErrAnd}

pub exit-with : {T E : Type 0} {r : Result T E} {e : E} → IsErrAnd r (λ y. y ≡ e) → r ≡ Err e
exit-with {r = Ok x} h = absurd h
exit-with {r = Err y} h = ap Err h
