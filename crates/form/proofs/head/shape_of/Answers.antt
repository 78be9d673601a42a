use Rattle.form.proofs.HeadLaws.{shape-yes, shape-not}
use Rattle.form.proofs.head.shape_of.Goals as goal

pub returns-then-expression : goal.returns-then-expression
returns-then-expression c = shape-yes _ _ _ c.if-expression.true c.expr_shape.ensures

pub returns : goal.returns
returns c = shape-not _ _ _ c.if-expression.false c.pred_shape.ensures
