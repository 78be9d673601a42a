use native.Mathlib.Omega.{arith}
use Rattle.broken.proofs.DueLaws.{least-none, least-some}
use Rattle.broken.proofs.due.least_kids.Goals as goal

pub returns-then-depth-eq0 : goal.returns-then-depth-eq0
returns-then-depth-eq0 c = record { value = least-none _ _ _ _ c.if-depth-eq0.true; upper_bound = omega arith }

pub returns-else-depth-eq0 : goal.returns-else-depth-eq0
returns-else-depth-eq0 c = record { value = least-some _ _ _ _ c.if-depth-eq0.false; upper_bound = omega arith }
