use mathlib.Core.Path.{◌≡◌}
use lib.ListN.{drop}
use Rattle.line.specs.Scan.{number}
use Rattle.line.specs.Internal.Places.{number_at}
use Rattle.line.specs.declared.turn.State.TheVariants.{Spaced}
use Rattle.line.proofs.number.read_number.Given as goal

abbrev pub invariant-loop-p : goal.invariant-loop-p
invariant-loop-p l = number_at l.p (number l.state (drop l.p l.line)) ≡ number_at l.at (number Spaced (drop l.at l.line))
