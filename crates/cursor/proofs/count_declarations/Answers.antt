use Rattle.tree.proofs.Residual.{exit-with}
use Rattle.cursor.proofs.DeclaredLaws.{count-refused, count_none, count-some}
use Rattle.cursor.proofs.count_declarations.Goals as goal

pub returns-in_err-check : goal.returns-in_err-check
returns-in_err-check c = rw (exit-with c.from_residual.ensures.1) (count-refused _ _ c.check.ensures _ c.in_err-check.was)

pub returns-then-n-eq0 : goal.returns-then-n-eq0
returns-then-n-eq0 c = count_none _ _ c.check.ensures _ c.in_ok-check.was _ c.declared-n.ensures c.if-n-eq0.true

pub returns : goal.returns
returns c = count-some _ _ c.check.ensures _ c.in_ok-check.was _ c.declared-n.ensures c.if-n-eq0.false
