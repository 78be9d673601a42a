use mathlib.Core.Path.{◌≡◌}
use Prim.Native.Nat.{◌-◌}
use lib.ListN.{length, drop}
use Rattle.shift.specs.Internal.Items.{items, rewritten, store}
use Rattle.subst.specs.Internal.Binding.{bound_words}
use Rattle.subst.proofs.bind.write_bound.Given as goal

abbrev pub invariant-loop-i : goal.invariant-loop-i
invariant-loop-i l = (store l.initial.out 0 (rewritten (bound_words l.names) (items l.row l.marks)) ≡ store l.out l.i (rewritten (bound_words l.names) (items (drop l.i l.row) (drop l.i l.marks)))) × (length l.out ≡ length l.initial.out)

abbrev pub decreases-loop-i : goal.decreases-loop-i
decreases-loop-i l = length l.row - l.i
