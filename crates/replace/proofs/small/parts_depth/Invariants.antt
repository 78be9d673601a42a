use mathlib.Core.Path.{◌≡◌}
use Rattle.replace.specs.Internal.Pieces.{depth_from, deep_parts}
use Rattle.replace.proofs.small.parts_depth.Given as goal

abbrev pub invariant-loop-i : goal.invariant-loop-i
invariant-loop-i l = l.d ≡ depth_from 1 (λ k. deep_parts k l.table.starts l.table.ends l.i l.list)
