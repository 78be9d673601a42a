use mathlib.Core.Path.{◌≡◌}
use mathlib.Core.List.{List}
use Prim.Native.Nat.{ℕ, ◌+◌, ◌-◌, ◌*◌, ◌≤◌}
use lib.ListN.{length, drop}
use Rattle.std.specs.Prelude.{Option}
use Rattle.form.specs.Lists.{list_of}
use Rattle.spell.specs.Internal.Writes.{PrintedEntries}
use Rattle.spell.proofs.entries.print_entries.Given as goal

abbrev pub invariant-loop-spot : goal.invariant-loop-spot
invariant-loop-spot l = record {
  after : (b : List ℕ) (r : Option ℕ) → PrintedEntries l.before l.kind l.spot.out (list_of l.kind (drop l.spot.row l.row)) l.out b r → PrintedEntries 91 l.kind 0 (list_of l.kind l.row) l.initial.out b r;
  room : l.spot.out + 13 * (length l.row - l.spot.row) ≤ 13 * length l.row;
  same_length : length l.out ≡ length l.initial.out;
}

abbrev pub decreases-loop-spot : goal.decreases-loop-spot
decreases-loop-spot l = length l.row - l.spot.row
