use mathlib.Core.Bool.{Bool}
use mathlib.Core.List.{List}
use Prim.Native.Nat.{ℕ, ◌-◌, ◌≤◌}
use lib.ListN.{length, drop}
use Rattle.form.specs.Lists.{list_of}
use Rattle.reader.specs.Internal.Reads.{table_of, ListingFrom}
use Rattle.reader.specs.declared.lists.Table.{Table}
use Rattle.reader.proofs.lists.read_entries.Given as goal

abbrev pub invariant-loop-p : goal.invariant-loop-p
invariant-loop-p l = ((u : Table) (b : List ℕ) (ok : Bool) → ListingFrom l.p (list_of l.kind (drop l.p l.row)) (table_of l.n l.words l.starts l.ends) u l.marks b ok → ListingFrom 0 (list_of l.kind l.row) (table_of 0 l.initial.words l.initial.starts l.initial.ends) u l.initial.marks b ok) × (l.n ≤ l.p)

abbrev pub decreases-loop-p : goal.decreases-loop-p
decreases-loop-p l = length l.row - l.p
