use Rattle.broken.proofs.KidsLaws.{expr-first, pred-first}
use Rattle.broken.proofs.kids.child_head.Goals as goal

pub returns-then-preds-eq0 : goal.returns-then-preds-eq0
returns-then-preds-eq0 c = rw (← expr-first _ c.if-preds-eq0.true) c.expr_head.ensures

pub returns : goal.returns
returns c = rw (← pred-first _ c.if-preds-eq0.false) c.pred_head.ensures
