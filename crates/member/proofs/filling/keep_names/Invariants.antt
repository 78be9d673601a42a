use mathlib.Core.Path.{◌≡◌}
use mathlib.Core.List.{◌++◌}
use Prim.Native.Nat.{◌≤◌}
use lib.ListN.{take, drop}
use Rattle.replace.specs.Internal.Pieces.{kept_words}
use Rattle.member.proofs.filling.keep_names.Given as goal

abbrev pub invariant-loop-i : goal.invariant-loop-i
invariant-loop-i l = (kept_words l.words l.names ≡ take l.p l.out ++ kept_words (drop l.i l.words) (drop l.i l.names)) × (l.p ≤ l.i)
