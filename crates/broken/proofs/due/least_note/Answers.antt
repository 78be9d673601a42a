use Rattle.broken.proofs.DueLaws.{least-note}
use native.Mathlib.Omega.{arith}
use Rattle.broken.proofs.due.least_note.Goals as goal

pub returns : goal.returns
returns c = record { value = least-note _ _ _ _ c.least_kids.ensures.value; upper_bound = omega arith }
