use mathlib.Core.Path.{◌≡◌}
use mathlib.Core.List.{List}
use Prim.Native.Nat.{ℕ, ◌≤◌, ◌<◌}
use lib.ListN.{length, drop}
use Rattle.std.specs.Prelude.{Option}
use Rattle.line.specs.Scan.{scan, group}
use Rattle.line.specs.Internal.Places.{Grouped}
use Rattle.line.specs.declared.line.Part.{Part}
use Rattle.line.proofs.group.read_group.Given as goal

abbrev pub invariant-loop-p : goal.invariant-loop-p
invariant-loop-p l = record {
  after : (b : List ℕ) (r : Option Part) → Grouped l.at l.p l.n (scan l.places l.depth l.state (drop l.p l.line)) l.row b r → Grouped l.at l.at 0 (group l.places (drop l.at l.line)) l.initial.row b r;
  words : l.n ≤ l.p;
  inside : 0 < l.depth;
  brackets : l.depth ≤ l.p;
  same_length : length l.row ≡ length l.initial.row;
}
