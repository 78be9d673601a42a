use mathlib.Core.Path.{◌∙◌}
use lib.ListN.{length}
use Rattle.rules.specs.Lift.{lift_part}
use Rattle.subst.proofs.LiftLaws.{part-is, part-at}
use Rattle.subst.proofs.lift.at_depth.Goals as goal

pub returns : goal.returns
returns c = (c.choose.ensures.0 ∙ part-is (lift_part c.args.base.now c.args.depth (length c.args.work.now)) c.args.base.now c.args.work.now _ _ (c.make_copy-made.ensures.value, c.make_copy-made.ensures.work_after), c.choose.ensures.1 ∙ part-at (lift_part c.args.base.now c.args.depth (length c.args.work.now)) _ _ _ c.make_copy-made.ensures.value)
