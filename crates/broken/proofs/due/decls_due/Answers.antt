use Rattle.broken.specs.Internal.Seeks.{next_then, next_due}
use Rattle.broken.proofs.DueLaws.{some_left, none_left, none-noted}
use Rattle.broken.proofs.due.decls_due.Goals as goal

pub returns-then-decls-gt0 : goal.returns-then-decls-gt0
unfolding next_then next_due
returns-then-decls-gt0 c = some_left c.args.came _ _ c.if-decls-gt0.true

pub returns-then-came : goal.returns-then-came
unfolding next_due
returns-then-came c = none_left c.args.came _ _ c.if-came.true c.if-decls-gt0.false

pub returns : goal.returns
unfolding next_due
returns c = none-noted c.args.came _ _ c.if-came.false c.if-decls-gt0.false
