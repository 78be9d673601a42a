use mathlib.Core.Path.{◌≡◌}
use Prim.Native.Nat.{◌≤◌}
use lib.ListN.{length, drop}
use Rattle.subst.specs.Internal.Flags.{selected}
use Rattle.shift.specs.Internal.Items.{store}
use Rattle.subst.proofs.dangling.write_flags.Given as goal

abbrev pub invariant-loop-i : goal.invariant-loop-i
invariant-loop-i l = (store l.initial.out 0 (selected 0 l.flags) ≡ store l.out l.n (selected l.i (drop l.i l.flags))) × (length l.out ≡ length l.initial.out) × (l.n ≤ l.i)
