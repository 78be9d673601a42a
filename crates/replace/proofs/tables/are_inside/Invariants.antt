use mathlib.Core.Path.{◌≡◌}
use mathlib.Core.Bool.{true}
use Rattle.replace.specs.Internal.Pieces.{parts_in}
use Rattle.replace.proofs.tables.are_inside.Given as goal

abbrev pub invariant-loop-i : goal.invariant-loop-i
invariant-loop-i l = parts_in l.table.starts l.table.ends l.words l.i ≡ true
