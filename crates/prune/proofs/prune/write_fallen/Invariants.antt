use Rattle.std.proofs.Common.{◌≡◌, ◌+◌, ◌-◌, length, get_or, drop}
use Rattle.shift.specs.Internal.Items.{wordwise, store}
use Rattle.prune.specs.Internal.Dropped.{fall_at}
use Rattle.prune.proofs.prune.write_fallen.Given as goal

abbrev pub invariant-loop-i : goal.invariant-loop-i
invariant-loop-i l = (store l.initial.out (l.at + 1) (wordwise (fall_at l.words) (get_or l.marks 0 0) (get_or l.body 0 0) (drop 1 l.body) (drop 1 l.marks)) ≡ store l.out (l.at + l.i) (wordwise (fall_at l.words) (get_or l.marks (l.i - 1) 0) (get_or l.body (l.i - 1) 0) (drop l.i l.body) (drop l.i l.marks))) × (length l.out ≡ length l.initial.out)
