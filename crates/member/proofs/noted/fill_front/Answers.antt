use mathlib.Core.Path.{refl}
use Rattle.member.specs.Internal.Noted.{front_filled}
use Rattle.member.proofs.NotedSteps.{front-next}
use Rattle.member.proofs.noted.fill_front.Goals as goal

pub loop-i-preserved : goal.loop-i-preserved
loop-i-preserved c = front-next _ _ _ _ c.loop-i.invariant c.fill_place.ensures

pub loop-i-init : goal.loop-i-init
unfolding front_filled
loop-i-init c = refl
