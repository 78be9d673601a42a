use Rattle.places.proofs.SidesLaws.{told-ends}
use Rattle.places.proofs.positions.skip_expr.Goals as goal

pub returns : goal.returns
returns c = told-ends _ _ _ _ _ _ c.expr_at.ensures
