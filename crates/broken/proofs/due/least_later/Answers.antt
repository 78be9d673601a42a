use Rattle.broken.proofs.DueLaws.{least-later}
use native.Mathlib.Omega.{arith}
use Rattle.broken.proofs.due.least_later.Goals as goal

pub returns : goal.returns
returns c = record { value = least-later _ _ _ _ c.least_kids.ensures.value; upper_bound = omega arith }
