use Rattle.reader.proofs.check.first_form.Goals as goal

pub returns-then-is_expr : goal.returns-then-is_expr
returns-then-is_expr c = rw c.if-is_expr.true c.mark_expr.ensures

pub returns-else-is_expr : goal.returns-else-is_expr
returns-else-is_expr c = rw c.if-is_expr.false c.mark_pred.ensures
