use Prim.Native.Nat.{◌+◌, ◌-◌}
use lib.ListN.{length}
use Rattle.rules.specs.Command.{commands}
use Rattle.line.proofs.LineLaws.{From}
use Rattle.line.proofs.head.read_head.Given as goal

abbrev pub invariant-loop-command : goal.invariant-loop-command
invariant-loop-command l = From l.n l.line

abbrev pub decreases-loop-command : goal.decreases-loop-command
decreases-loop-command l = length commands + 1 - l.n
