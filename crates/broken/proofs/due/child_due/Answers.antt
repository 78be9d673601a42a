use Rattle.tree.specs.Tag.{own}
use Rattle.broken.proofs.KidsLaws.{expr-first, pred-first}
use Rattle.broken.proofs.due.child_due.Goals as goal

pub returns-then-preds-eq0 : goal.returns-then-preds-eq0
unfolding own
returns-then-preds-eq0 c = rw (← expr-first _ c.if-preds-eq0.true, ← c.expr_shape.ensures) c.due_of.ensures

pub returns : goal.returns
unfolding own
returns c = rw (← pred-first _ c.if-preds-eq0.false, ← c.pred_shape.ensures) c.due_of-2.ensures
