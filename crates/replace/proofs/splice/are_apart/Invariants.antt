use mathlib.Core.Path.{◌≡◌}
use mathlib.Core.Bool.{◌&&◌}
use Prim.Native.Nat.{◌-◌, ◌<◌}
use lib.ListN.{length, drop}
use Rattle.shift.specs.Internal.Items.{apart}
use Rattle.replace.proofs.splice.are_apart.Given as goal

abbrev pub invariant-loop-i : goal.invariant-loop-i
invariant-loop-i l = (apart l.lo (drop l.from l.row) (drop l.from l.marks) ≡ (l.apart && apart l.lo (drop l.i l.row) (drop l.i l.marks))) × (l.i < length l.row)

abbrev pub decreases-loop-i : goal.decreases-loop-i
decreases-loop-i l = length l.row - l.i
