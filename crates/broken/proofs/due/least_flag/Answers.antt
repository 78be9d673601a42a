use native.Mathlib.Omega.{arith}
use Rattle.broken.proofs.DueLaws.{least-later-flag, least-first-flag}
use Rattle.broken.proofs.due.least_flag.Goals as goal

pub returns-then-came : goal.returns-then-came
returns-then-came c = record { value = rw c.if-came.true (let h = least-later-flag c.args.depth c.args.decls c.args.exprs _ c.least_later.ensures.value in omega arith); upper_bound = omega arith }

pub returns : goal.returns
returns c = record { value = rw c.if-came.false (let h = least-first-flag c.args.depth c.args.decls c.args.exprs _ c.least_note.ensures.value in omega arith); upper_bound = omega arith }
