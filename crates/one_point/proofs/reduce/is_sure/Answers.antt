use mathlib.Core.Path.{◌∙◌}
use Rattle.one_point.proofs.PlaceLaws.{sure-deep, sure-none, sure-read}
use Rattle.one_point.proofs.reduce.is_sure.Goals as goal

pub returns-then-depth-left : goal.returns-then-depth-left
returns-then-depth-left c = sure-deep c.args.depth c.args.part.now c.args.rest.now c.depth_left-left.result c.depth_left-left.ensures c.if-depth-left.true

pub returns-then-left-eq0 : goal.returns-then-left-eq0
returns-then-left-eq0 c = sure-none c.args.depth c.args.part.now c.args.rest.now c.depth_left-left.result c.depth_left-left.ensures c.if-depth-left.false c.if-left-eq0.true

pub returns : goal.returns
returns c = c.is_some.ensures ∙ sure-read c.args.depth c.args.part.now c.args.rest.now c.depth_left-left.result c.depth_left-left.ensures c.if-depth-left.false _ c.skip_pred.ensures
