use mathlib.Core.Path.{◌≡◌}
use Prim.Native.Nat.{◌+◌, ◌-◌, ◌≤◌}
use lib.ListN.{length, drop}
use Rattle.shift.specs.Internal.Items.{store}
use Rattle.replace.specs.Internal.Pieces.{kept_words}
use Rattle.replace.proofs.heads.write_names.Given as goal

abbrev pub invariant-loop-i : goal.invariant-loop-i
invariant-loop-i l = (store l.initial.head 2 (kept_words l.words (drop 2 l.row)) ≡ store l.head l.p (kept_words (drop l.i l.words) (drop l.i (drop 2 l.row)))) × (2 + length (kept_words l.words (drop 2 l.row)) ≡ l.p + length (kept_words (drop l.i l.words) (drop l.i (drop 2 l.row)))) × (l.p ≤ l.i + 2) × (length l.head ≡ length l.initial.head)

abbrev pub decreases-loop-i : goal.decreases-loop-i
decreases-loop-i l = length l.words - l.i
