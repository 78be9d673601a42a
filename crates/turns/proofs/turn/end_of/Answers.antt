use mathlib.Core.Path.{◌≡◌}
use native.Mathlib.Omega.{arith}
use Rattle.form.proofs.DecodeLaws.{clash}
use Rattle.turns.proofs.turn.end_of.Goals as goal

pub returns-in_default : goal.returns-in_default
returns-in_default c = record { least = omega arith; most = c.requires; done = λ n q k. absurd (clash cc) }

pub returns-then-room-used : goal.returns-then-room-used
returns-then-room-used c = record { least = omega arith; most = c.requires; done = λ n q k. let z : c.in-Ok.n ≡ n = cc in absurd (omega arith) }

pub returns : goal.returns
returns c = record { least = omega arith; most = omega arith; done = λ n q k. let z : c.in-Ok.n ≡ n = cc in omega arith }
