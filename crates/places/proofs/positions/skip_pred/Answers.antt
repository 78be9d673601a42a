use Rattle.places.proofs.SidesLaws.{told-ends}
use Rattle.places.proofs.positions.skip_pred.Goals as goal

pub returns : goal.returns
returns c = told-ends _ _ _ _ _ _ c.pred_at.ensures
