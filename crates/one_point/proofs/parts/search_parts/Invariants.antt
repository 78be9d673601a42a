use mathlib.Core.Path.{◌≡◌}
use mathlib.Core.List.{List}
use Prim.Native.Nat.{ℕ, ◌-◌}
use lib.ListN.{length}
use Rattle.rules.specs.Scan.{offer_parts}
use Rattle.places.specs.Internal.Positions.{Beside, parts_at}
use Rattle.one_point.specs.Internal.Parts.{PartsTold}
use Rattle.places.specs.declared.sides.Replacement.{Replacement}
use Rattle.std.specs.Prelude.{Option, None}
use Rattle.one_point.proofs.parts.search_parts.Given as goal

abbrev pub invariant-search : goal.invariant-search
invariant-search l = (l.found ≡ None) × ((f : Option Replacement) (e m : ℕ) (o : List ℕ) → PartsTold l.row l.w l.out l.count (offer_parts l.n (parts_at l.row l.p l.q l.todo)) f e m o → PartsTold l.row l.pos l.initial.out 0 (offer_parts l.n (parts_at l.row l.at l.beside 1)) f e m o) × Beside l.row l.p l.q l.todo l.w l.count (length l.out) × (length l.out ≡ length l.initial.out)

abbrev pub decreases-search : goal.decreases-search
decreases-search l = length l.row - l.p
