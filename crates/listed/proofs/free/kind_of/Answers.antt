use Rattle.listed.proofs.free.kind_of.Goals as goal

pub returns-then-is_expr : goal.returns-then-is_expr
returns-then-is_expr c = rw (← c.is_expr.ensures, c.if-is_expr.true)

pub returns : goal.returns
returns c = rw (← c.is_expr.ensures, c.if-is_expr.false)
