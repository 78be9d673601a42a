use mathlib.Core.Path.{◌≡◌}
use Prim.Native.Nat.{◌-◌}
use Rattle.decls.specs.Internal.Noted.{decls_end}
use Rattle.decls.proofs.ends.decls_end.Given as goal

abbrev pub invariant-loop : goal.invariant-loop
invariant-loop l = decls_end l.row l.p l.n ≡ decls_end l.row l.at (l.n - l.counter)
