use Prim.Native.Nat.{◌-◌}
use Rattle.replace.specs.Internal.Pieces.{deep_part}
use Rattle.replace.proofs.SmallLaws.{Tried}
use Rattle.replace.proofs.small.depth_from.Given as goal

abbrev pub invariant-loop-d : goal.invariant-loop-d
invariant-loop-d l = Tried (λ d'. deep_part d' l.row) l.from l.d

abbrev pub decreases-loop-d : goal.decreases-loop-d
decreases-loop-d l = 65 - l.d
