use Rattle.std.proofs.Common.{◌≡◌, ◌-◌, ◌≤◌, length, get_or, drop}
use Rattle.shift.specs.Internal.Items.{wordwise, move_at, store}
use Rattle.shift.proofs.shift.write_moved.Given as goal

abbrev pub invariant-loop-i : goal.invariant-loop-i
invariant-loop-i l = (store l.initial.out 1 (wordwise (move_at l.up l.down) (get_or l.marks 0 0) (get_or l.row 0 0) (drop 1 l.row) (drop 1 l.marks)) ≡ store l.out l.i (wordwise (move_at l.up l.down) (get_or l.marks (l.i - 1) 0) (get_or l.row (l.i - 1) 0) (drop l.i l.row) (drop l.i l.marks))) × (1 ≤ l.i) × (l.i ≤ length l.row) × (length l.out ≡ length l.initial.out)
