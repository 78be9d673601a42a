use Rattle.tree.specs.Tag.{expr}
use Rattle.form.proofs.HeadLaws.{plain-head}
use Rattle.form.proofs.head.expr_head.Goals as goal

pub returns : goal.returns
returns c = plain-head _ expr _ _ _ _ c.expr_shape.ensures c.in-Plain.is
