use mathlib.Core.Path.{◌≡◌}
use Prim.Native.Nat.{◌+◌}
use lib.ListN.{length}
use Rattle.named.specs.Internal.Scope.{closes, Held}
use Rattle.named.proofs.scope.close_names.Given as goal

abbrev pub invariant-loop-l : goal.invariant-loop-l
invariant-loop-l l = (closes l.under l.n l.initial.scope ≡ closes l.under l.l l.scope) × (length l.scope ≡ length l.initial.scope) × Held l.scope (l.under + l.l)
