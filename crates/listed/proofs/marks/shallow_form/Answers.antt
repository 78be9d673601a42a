use Rattle.listed.proofs.ShallowLaws.{told-shallow}
use Rattle.listed.proofs.marks.shallow_form.Goals as goal

pub returns-then-is_expr : goal.returns-then-is_expr
returns-then-is_expr c = rw c.if-is_expr.true (told-shallow _ c.requires _ _ _ _ _ c.expr_at.ensures)

pub returns-else-is_expr : goal.returns-else-is_expr
returns-else-is_expr c = rw c.if-is_expr.false (told-shallow _ c.requires _ _ _ _ _ c.pred_at.ensures)
