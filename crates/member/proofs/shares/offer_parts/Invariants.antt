use mathlib.Core.Path.{◌≡◌}
use mathlib.Core.List.{List}
use Prim.Native.Nat.{ℕ, ◌-◌}
use lib.ListN.{length}
use Rattle.form.specs.Lists.{Place}
use Rattle.reader.specs.declared.lists.Table.{Table}
use Rattle.rules.specs.Partial.{no_places}
use Rattle.places.specs.Internal.Positions.{Beside, parts_at, MarkedAt}
use Rattle.member.specs.Internal.Member.{share, TableIs, Shared}
use Rattle.member.proofs.shares.offer_parts.Given as goal

abbrev pub invariant-loop-todo : goal.invariant-loop-todo
invariant-loop-todo l = (ps : List Place) × TableIs l.row l.marks l.n l.table ps × ((t : Table) (e m : ℕ) (o : List ℕ) → Shared l.row l.marks l.n l.up l.w l.out l.count (share l.n (parts_at l.row l.p l.q l.todo) ps) t e m o → Shared l.row l.marks l.n l.up l.pos l.initial.out 0 (share l.n (parts_at l.row l.at l.beside 1) (no_places l.n)) t e m o) × Beside l.row l.p l.q l.todo l.w l.count (length l.out) × MarkedAt l.row l.marks l.q l.todo × (length l.out ≡ length l.initial.out)

abbrev pub decreases-loop-todo : goal.decreases-loop-todo
decreases-loop-todo l = length l.row - l.p
