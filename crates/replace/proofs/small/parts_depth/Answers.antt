use mathlib.Core.Path.{◌≡◌}
use native.Mathlib.Omega.{arith}
use Rattle.replace.proofs.SmallLaws.{parts_none, parts_next, depth-most}
use Rattle.replace.proofs.small.parts_depth.Goals as goal

pub loop-i-init : goal.loop-i-init
loop-i-init c = parts_none _ _ _

pub depth_at-d-requires : goal.depth_at-d-requires
depth_at-d-requires c = depth-most _ _ _ c.loop-i.invariant

pub loop-i-preserved : goal.loop-i-preserved
loop-i-preserved c = parts_next _ _ _ _ _ _ c.loop-i.invariant c.depth_at-d.ensures

pub returns : goal.returns
returns c = rw (let e : c.loop-i.i ≡ c.args.table.now.n = omega arith in e) at c.loop-i.invariant
