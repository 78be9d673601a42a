use mathlib.Core.Path.{◌≡◌}
use Prim.Native.Nat.{◌+◌, ◌-◌}
use lib.ListN.{length, drop}
use Rattle.shift.specs.Internal.Items.{items, rewritten, moved_words, store}
use Rattle.replace.proofs.pieces.write_part.Given as goal

abbrev pub invariant-loop-i : goal.invariant-loop-i
invariant-loop-i l = (store l.initial.out l.at (rewritten (moved_words l.up l.down) (items l.row l.marks)) ≡ store l.out (l.at + l.i) (rewritten (moved_words l.up l.down) (items (drop l.i l.row) (drop l.i l.marks)))) × (length l.out ≡ length l.initial.out)

abbrev pub decreases-loop-i : goal.decreases-loop-i
decreases-loop-i l = length l.row - l.i
