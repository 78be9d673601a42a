use mathlib.Core.Path.{◌≡◌}
use mathlib.Core.Bool.{true}
use Prim.Native.Nat.{◌+◌, ◌-◌, ◌≤◌}
use lib.ListN.{length}
use Rattle.reader.specs.Internal.Reads.{mark_all}
use Rattle.one_point.specs.Internal.Scans.{read_kids, end_of_all, kids_at, are_kids}
use Rattle.one_point.proofs.children.mark_preds.Given as goal

abbrev pub invariant-loop : goal.invariant-loop
invariant-loop l = (end_of_all l.p (read_kids l.row l.depth l.p (l.n - l.counter)) ≡ end_of_all l.at (read_kids l.row l.depth l.at l.n)) × (are_kids l.row l.depth l.at l.n ≡ are_kids l.row l.depth l.p (l.n - l.counter)) × (are_kids l.row l.depth l.p (l.n - l.counter) ≡ true → mark_all (kids_at l.row l.depth l.p (l.n - l.counter)) (l.pos + (l.p - l.at)) 0 l.marks ≡ mark_all (kids_at l.row l.depth l.at l.n) l.pos 0 l.initial.marks) × (l.at ≤ l.p) × (l.p - l.at ≤ length l.row - l.at) × (length l.marks ≡ length l.initial.marks)
