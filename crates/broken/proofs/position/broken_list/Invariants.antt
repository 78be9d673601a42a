use Prim.Native.Nat.{◌-◌}
use lib.ListN.{length}
use Rattle.broken.proofs.EntryLaws.{Lists}
use Rattle.broken.proofs.position.broken_list.Given as goal

abbrev pub invariant-loop-p : goal.invariant-loop-p
invariant-loop-p l = Lists l.kind l.row l.p

abbrev pub decreases-loop-p : goal.decreases-loop-p
decreases-loop-p l = length l.row - l.p
