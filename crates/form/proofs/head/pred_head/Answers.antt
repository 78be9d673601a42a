use Rattle.tree.specs.Tag.{pred}
use Rattle.form.proofs.HeadLaws.{plain-head}
use Rattle.form.proofs.head.pred_head.Goals as goal

pub returns : goal.returns
returns c = plain-head _ pred _ _ _ _ c.pred_shape.ensures c.in-Plain.is
