use mathlib.Core.Path.{◌≡◌}
use mathlib.Core.List.{List}
use Prim.Native.Nat.{◌+◌, ◌-◌, ◌*◌, ◌≤◌}
use lib.ListN.{length, drop, replicate}
use Rattle.tree.specs.Tag.{expr, pred}
use Rattle.form.specs.Decode.{decode, decode_all, decls}
use Rattle.reader.specs.Internal.Reads.{ToldAll, ToldDecls}
use Prim.Native.Nat.{ℕ}
use Rattle.reader.proofs.reader.+readers.Given as goal
use Rattle.std.specs.Prelude.{Option}

abbrev pub decreases-mark_child : goal.decreases-mark_child
decreases-mark_child l = 8 * (length l.row.now - l.at) + 1

abbrev pub decreases-mark_decl : goal.decreases-mark_decl
decreases-mark_decl l = 8 * (length l.row.now - l.at) + 2

abbrev pub decreases-mark_decls : goal.decreases-mark_decls
decreases-mark_decls l = 8 * (length l.row.now - l.at) + 3

abbrev pub decreases-mark_expr : goal.decreases-mark_expr
decreases-mark_expr l = 8 * (length l.row.now - l.at)

abbrev pub decreases-mark_exprs : goal.decreases-mark_exprs
decreases-mark_exprs l = 8 * (length l.row.now - l.at) + 2

abbrev pub decreases-mark_kids : goal.decreases-mark_kids
decreases-mark_kids l = 8 * (length l.row.now - l.at) + 3

abbrev pub decreases-mark_noted : goal.decreases-mark_noted
decreases-mark_noted l = 8 * (length l.row.now - l.at) + 4

abbrev pub decreases-mark_pred : goal.decreases-mark_pred
decreases-mark_pred l = 8 * (length l.row.now - l.at)

abbrev pub decreases-mark_preds : goal.decreases-mark_preds
decreases-mark_preds l = 8 * (length l.row.now - l.at) + 2

abbrev pub invariant-mark_decls-loop : goal.invariant-mark_decls-loop
invariant-mark_decls-loop l = ((b : List ℕ) (r : Option ℕ) → ToldDecls l.p l.under (decls (λ s ws. decode l.depth s ws) (l.n - l.counter) (drop l.p l.row)) l.marks b r → ToldDecls l.at l.under (decls (λ s ws. decode l.depth s ws) l.n (drop l.at l.row)) l.initial.marks b r) × (l.at ≤ l.p) × (length l.marks ≡ length l.initial.marks)

abbrev pub invariant-mark_exprs-loop : goal.invariant-mark_exprs-loop
invariant-mark_exprs-loop l = ((b : List ℕ) (r : Option ℕ) → ToldAll l.p l.under (decode_all (λ s ws. decode l.depth s ws) (replicate (l.n - l.counter) expr) (drop l.p l.row)) l.marks b r → ToldAll l.at l.under (decode_all (λ s ws. decode l.depth s ws) (replicate l.n expr) (drop l.at l.row)) l.initial.marks b r) × (l.at ≤ l.p) × (length l.marks ≡ length l.initial.marks)

abbrev pub invariant-mark_preds-loop : goal.invariant-mark_preds-loop
invariant-mark_preds-loop l = ((b : List ℕ) (r : Option ℕ) → ToldAll l.p l.under (decode_all (λ s ws. decode l.depth s ws) (replicate (l.n - l.counter) pred) (drop l.p l.row)) l.marks b r → ToldAll l.at l.under (decode_all (λ s ws. decode l.depth s ws) (replicate l.n pred) (drop l.at l.row)) l.initial.marks b r) × (l.at ≤ l.p) × (length l.marks ≡ length l.initial.marks)
