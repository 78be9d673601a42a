use mathlib.Core.Path.{◌≡◌}
use mathlib.Core.List.{List}
use Prim.Native.Nat.{ℕ, ◌-◌}
use lib.ListN.{length}
use Rattle.places.specs.Internal.Positions.{Beside, parts_at}
use Rattle.one_point.specs.Internal.Parts.{PartsCopied}
use Rattle.one_point.proofs.parts.copy_parts.Given as goal

abbrev pub invariant-loop-todo : goal.invariant-loop-todo
invariant-loop-todo l = ((e m : ℕ) (o : List ℕ) → PartsCopied (parts_at l.row l.p l.q l.todo) l.w l.out l.count e m o → PartsCopied (parts_at l.row l.at l.beside l.n) l.pos l.initial.out l.k e m o) × Beside l.row l.p l.q l.todo l.w l.count (length l.out) × (length l.out ≡ length l.initial.out)

abbrev pub decreases-loop-todo : goal.decreases-loop-todo
decreases-loop-todo l = length l.row - l.p
