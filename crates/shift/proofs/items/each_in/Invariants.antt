use Rattle.std.proofs.Common.{◌≡◌, ◌-◌, length, drop}
use Rattle.shift.specs.Internal.Items.{items, all_items, item_in}
use Rattle.shift.proofs.items.each_in.Given as goal

abbrev pub invariant-loop-i : goal.invariant-loop-i
invariant-loop-i l = all_items (item_in l.lo l.hi) (items l.row l.marks) ≡ all_items (item_in l.lo l.hi) (items (drop l.i l.row) (drop l.i l.marks))

abbrev pub decreases-loop-i : goal.decreases-loop-i
decreases-loop-i l = length l.row - l.i
