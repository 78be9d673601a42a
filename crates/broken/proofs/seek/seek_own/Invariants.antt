use mathlib.Core.Bool.{Bool}
use Prim.Native.Nat.{◌-◌}
use lib.ListN.{length}
use Rattle.broken.specs.Internal.Seeks.{next_due, Reaches}
use Rattle.broken.proofs.seek.seek_own.Given as goal

abbrev pub invariant-loop-rest : goal.invariant-loop-rest
invariant-loop-rest l = (named : Bool) → Reaches named l.row l.at l.depth (next_due l.initial.rest) l.need l.p (next_due l.rest)

abbrev pub decreases-loop-rest : goal.decreases-loop-rest
decreases-loop-rest l = length l.row - l.p
