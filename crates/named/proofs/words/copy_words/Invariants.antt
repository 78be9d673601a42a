use Rattle.std.proofs.Common.{◌≡◌, ◌-◌, length, take, drop}
use Rattle.shift.specs.Internal.Items.{store}
use Rattle.named.proofs.words.copy_words.Given as goal

abbrev pub invariant-loop-i : goal.invariant-loop-i
invariant-loop-i l = (store l.initial.made l.at (take (l.end - l.at) (drop l.at l.row)) ≡ store l.made l.i (take (l.end - l.i) (drop l.i l.row))) × (length l.made ≡ length l.initial.made)
