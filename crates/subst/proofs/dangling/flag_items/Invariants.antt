use mathlib.Core.Path.{◌≡◌}
use Prim.Native.Nat.{◌-◌}
use lib.ListN.{length, drop}
use Rattle.shift.specs.Internal.Items.{items, rewritten}
use Rattle.subst.specs.Internal.Flags.{index_words, flag_all}
use Rattle.subst.proofs.dangling.flag_items.Given as goal

abbrev pub invariant-loop-i : goal.invariant-loop-i
invariant-loop-i l = (flag_all l.initial.flags (rewritten index_words (items l.row l.marks)) ≡ flag_all l.flags (rewritten index_words (items (drop l.i l.row) (drop l.i l.marks)))) × (length l.flags ≡ length l.initial.flags)

abbrev pub decreases-loop-i : goal.decreases-loop-i
decreases-loop-i l = length l.row - l.i
