use mathlib.Core.Path.{◌≡◌}
use Rattle.replace.specs.Internal.Pieces.{longest}
use Rattle.replace.proofs.pieces.longest_part.Given as goal

abbrev pub invariant-loop-i : goal.invariant-loop-i
invariant-loop-i l = l.size ≡ longest l.table.starts l.table.ends l.i
