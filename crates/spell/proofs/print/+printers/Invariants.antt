use mathlib.Core.Path.{◌≡◌}
use mathlib.Core.List.{List}
use Prim.Native.Nat.{ℕ, ◌+◌, ◌-◌, ◌*◌, ◌≤◌}
use lib.ListN.{length, drop, replicate}
use Rattle.std.specs.Prelude.{Option}
use Rattle.tree.specs.Form.{pick}
use Rattle.tree.specs.Tag.{expr, pred}
use Rattle.form.specs.Decode.{decode, decode_all, decls}
use Rattle.spell.specs.declared.print.Spot.{Spot}
use Rattle.spell.specs.Internal.Writes.{PrintedAll, PrintedDecls}
use Rattle.spell.proofs.print.+printers.Given as goal

abbrev pub decreases-print_child : goal.decreases-print_child
decreases-print_child l = 8 * (length l.row.now - l.at.row) + 1

abbrev pub decreases-print_decl : goal.decreases-print_decl
decreases-print_decl l = 8 * (length l.row.now - l.at.row) + 2

abbrev pub decreases-print_decls : goal.decreases-print_decls
decreases-print_decls l = 8 * (length l.row.now - l.at.row) + 3

abbrev pub decreases-print_node : goal.decreases-print_node
decreases-print_node l = 8 * (length l.row.now - l.at.row)

abbrev pub decreases-print_nodes : goal.decreases-print_nodes
decreases-print_nodes l = 8 * (length l.row.now - l.at.row) + 2

abbrev pub decreases-print_kids : goal.decreases-print_kids
decreases-print_kids l = 8 * (length l.row.now - l.at.row) + 3

abbrev pub decreases-print_noted : goal.decreases-print_noted
decreases-print_noted l = 8 * (length l.row.now - l.at.row) + 4

abbrev pub invariant-print_decls-loop : goal.invariant-print_decls-loop
invariant-print_decls-loop l = record {
  after : (b : List ℕ) (r : Option Spot) → PrintedDecls l.spot.row l.spot.out (decls (λ s ws. decode l.depth s ws) (l.n - l.counter) (drop l.spot.row l.row)) l.out b r
      → PrintedDecls l.initial.spot.row l.initial.spot.out (decls (λ s ws. decode l.depth s ws) l.n (drop l.initial.spot.row l.row)) l.initial.out b r;
  behind : l.initial.spot.row ≤ l.spot.row;
  room : l.spot.out + 13 * (length l.row - l.spot.row) ≤ l.initial.spot.out + 13 * (length l.row - l.initial.spot.row);
  same_length : length l.out ≡ length l.initial.out;
}

abbrev pub invariant-print_nodes-loop : goal.invariant-print_nodes-loop
invariant-print_nodes-loop l = record {
  after : (b : List ℕ) (r : Option Spot)
      → PrintedAll l.spot.row l.spot.out (decode_all (λ s ws. decode l.depth s ws) (replicate (l.n - l.counter) (pick l.expression expr pred)) (drop l.spot.row l.row)) l.out b r
      → PrintedAll l.initial.spot.row l.initial.spot.out (decode_all (λ s ws. decode l.depth s ws) (replicate l.n (pick l.expression expr pred)) (drop l.initial.spot.row l.row)) l.initial.out b r;
  behind : l.initial.spot.row ≤ l.spot.row;
  room : l.spot.out + 13 * (length l.row - l.spot.row) ≤ l.initial.spot.out + 13 * (length l.row - l.initial.spot.row);
  same_length : length l.out ≡ length l.initial.out;
}
