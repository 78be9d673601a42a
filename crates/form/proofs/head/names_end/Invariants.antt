use mathlib.Core.Path.{◌≡◌}
use Prim.Native.Nat.{◌-◌}
use lib.ListN.{drop}
use Rattle.form.specs.Decode.{names}
use Rattle.form.specs.Internal.Heads.{names_at}
use Rattle.form.proofs.head.names_end.Given as goal

abbrev pub invariant-loop : goal.invariant-loop
invariant-loop l = names_at l.at (names l.n 0 0 (drop l.at l.row)) ≡ names_at l.p (names (l.n - l.counter) 0 0 (drop l.p l.row))
