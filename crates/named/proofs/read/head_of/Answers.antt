use Rattle.named.proofs.read.head_of.Goals as goal

pub returns-then-expression : goal.returns-then-expression
returns-then-expression c = rw c.if-expression.true c.expr_head.ensures

pub returns : goal.returns
returns c = rw c.if-expression.false c.pred_head.ensures
