use mathlib.Core.Path.{◌≡◌}
use mathlib.Core.List.{List}
use Prim.Native.Nat.{◌+◌, ◌-◌, ◌*◌, ◌≤◌}
use lib.ListN.{length, get_or, drop, replicate}
use Rattle.form.specs.Decode.{decode_all, decls}
use Rattle.named.specs.Internal.Scope.{scope_of, Held}
use Rattle.named.specs.Internal.Reads.{read_names, sort_of, WroteAll, WroteDecls}
use Prim.Native.Nat.{ℕ, ◌<◌}
use Rattle.named.proofs.read.+namers.Given as goal
use Rattle.std.specs.Prelude.{Option}

abbrev pub decreases-name_all : goal.decreases-name_all
decreases-name_all l = 4 * l.depth + 1

abbrev pub decreases-name_decl : goal.decreases-name_decl
decreases-name_decl l = 4 * l.depth + 1

abbrev pub decreases-name_decls : goal.decreases-name_decls
decreases-name_decls l = 4 * l.depth + 2

abbrev pub decreases-name_form : goal.decreases-name_form
decreases-name_form l = 4 * l.depth

abbrev pub decreases-name_noted : goal.decreases-name_noted
decreases-name_noted l = 4 * l.depth + 3

abbrev pub decreases-name_under : goal.decreases-name_under
decreases-name_under l = 4 * l.depth + 2

abbrev pub invariant-name_all-loop : goal.invariant-name_all-loop
invariant-name_all-loop l = ((b : List ℕ) (r : Option ℕ) → WroteAll l.p (scope_of l.initial.scope l.under) (decode_all (λ s ws. read_names l.depth s ws) (replicate (l.n - l.counter) (sort_of l.expression)) (drop l.p l.row)) l.made b r → WroteAll l.at (scope_of l.initial.scope l.under) (decode_all (λ s ws. read_names l.depth s ws) (replicate l.n (sort_of l.expression)) (drop l.at l.row)) l.initial.made b r) × (l.at ≤ l.p) × (length l.made ≡ length l.initial.made) × (length l.scope ≡ length l.initial.scope) × Held l.scope l.under × (scope_of l.scope l.under ≡ scope_of l.initial.scope l.under)

abbrev pub invariant-name_decls-loop-i : goal.invariant-name_decls-loop-i
invariant-name_decls-loop-i l = ((b c : List ℕ) (r : Option ℕ) → length c ≡ length l.initial.names → ((j : ℕ) → j < l.i → get_or c j 0 ≡ get_or l.names j 0) → WroteDecls l.p (scope_of l.initial.scope l.under) (decls (λ s ws. read_names l.depth s ws) (l.n - l.i) (drop l.p l.row)) l.made b (drop l.i c) r → WroteDecls l.at (scope_of l.initial.scope l.under) (decls (λ s ws. read_names l.depth s ws) l.n (drop l.at l.row)) l.initial.made b c r) × (l.at ≤ l.p) × (length l.made ≡ length l.initial.made) × (length l.scope ≡ length l.initial.scope) × Held l.scope l.under × (scope_of l.scope l.under ≡ scope_of l.initial.scope l.under) × (l.i ≤ l.n) × (length l.names ≡ length l.initial.names)
