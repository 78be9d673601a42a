use mathlib.Core.Path.{◌≡◌}
use Rattle.member.specs.Internal.Noted.{front_filled}
use Rattle.member.proofs.noted.fill_front.Given as goal

abbrev pub invariant-loop-i : goal.invariant-loop-i
invariant-loop-i l = l.front ≡ front_filled l.table l.i
