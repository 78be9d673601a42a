use mathlib.Core.Path.{◌≡◌}
use Prim.Native.Nat.{◌+◌, ◌≤◌}
use lib.ListN.{drop}
use Rattle.replace.specs.Internal.Pieces.{filled_words}
use Rattle.replace.proofs.pieces.filled_from.Given as goal

abbrev pub invariant-loop-i : goal.invariant-loop-i
invariant-loop-i l = (filled_words (drop l.from l.words) ≡ l.n + filled_words (drop l.i l.words)) × (l.n ≤ l.i)
