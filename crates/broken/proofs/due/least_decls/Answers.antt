use native.Mathlib.Omega.{arith}
use Rattle.broken.proofs.DueLaws.{least-wrong, least_first}
use Rattle.broken.proofs.due.least_decls.Goals as goal

pub returns-then-came : goal.returns-then-came
returns-then-came c = record { value = rw c.if-came.true c.least_later.ensures.value; upper_bound = c.least_later.ensures.upper_bound }

pub returns-then-decls-eq0 : goal.returns-then-decls-eq0
returns-then-decls-eq0 c = record { value = rw c.if-came.false (least-wrong _ _ _ c.if-decls-eq0.true); upper_bound = omega arith }

pub returns : goal.returns
returns c = record { value = rw c.if-came.false (least_first _ _ _ _ c.if-decls-eq0.false c.least_note.ensures.value); upper_bound = c.least_note.ensures.upper_bound }
