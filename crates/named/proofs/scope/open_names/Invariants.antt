use mathlib.Core.Path.{◌≡◌}
use Prim.Native.Nat.{◌+◌}
use lib.ListN.{length, drop}
use Rattle.named.specs.Internal.Scope.{open_all, Held}
use Rattle.named.proofs.scope.open_names.Given as goal

abbrev pub invariant-loop-i : goal.invariant-loop-i
invariant-loop-i l = (open_all l.declared l.under l.initial.scope ≡ open_all (drop l.i l.declared) (l.under + l.i) l.scope) × (length l.scope ≡ length l.initial.scope) × Held l.scope (l.under + l.i)
