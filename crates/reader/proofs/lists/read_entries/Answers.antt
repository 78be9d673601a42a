use mathlib.Core.Path.{◌≡◌}
use Prim.Native.Nat.{◌+◌}
use native.Mathlib.Omega.{arith}
use lib.ListN.{get_or}
use Rattle.reader.specs.Internal.Reads.{table_of, add_row}
use Rattle.reader.proofs.TableLaws.{entry-rises, list-more, list-stop, list-end, row-stored, row-counted}
use Rattle.reader.proofs.lists.read_entries.Goals.{then-n-lt-LIMIT, else-n-lt-LIMIT}
use Rattle.reader.proofs.lists.read_entries.Goals as goal

pub loop-p-init : goal.loop-p-init
loop-p-init c = (λ u b ok t. t, omega arith)

pub returns-in_err-q : goal.returns-in_err-q
returns-in_err-q c = rw c.from_residual.ensures (c.loop-p.invariant.0 _ _ _ (list-stop _ _ _ c.loop-p-test.true _ _ _ _ c.entry_at.ensures c.in_err-q.was _ _))

pub loop-p-smaller : goal.loop-p-smaller
loop-p-smaller c = let h = entry-rises _ _ _ _ _ _ c.entry_at.ensures c.in_ok-q.was in omega arith

pub loop-p-preserved : goal.loop-p-preserved
loop-p-preserved c =
    let e : table_of (c.loop-p.n + 1) c.if-n-lt-LIMIT.words c.if-n-lt-LIMIT.starts c.if-n-lt-LIMIT.ends ≡ add_row (table_of c.loop-p.n c.loop-p.words c.loop-p.starts c.loop-p.ends) (get_or c.args.row.now c.loop-p.p 0) (c.loop-p.p + 1) c.in_ok-q.q =
    elim c.if-n-lt-LIMIT.branch [ then-n-lt-LIMIT w ↦ rw (w.words-is, w.starts-is, w.ends-is) (row-stored (table_of c.loop-p.n c.loop-p.words c.loop-p.starts c.loop-p.ends) _ _ _ w.if-n-lt-LIMIT.true) | else-n-lt-LIMIT w ↦ rw (w.words-is, w.starts-is, w.ends-is) (row-counted (table_of c.loop-p.n c.loop-p.words c.loop-p.starts c.loop-p.ends) _ _ _ w.if-n-lt-LIMIT.false) ] in
    (λ u b ok t. c.loop-p.invariant.0 u b ok (list-more _ _ _ c.loop-p-test.true _ _ _ _ c.entry_at.ensures _ _ c.in_ok-q.was e u b ok t), let h = entry-rises _ _ _ _ _ _ c.entry_at.ensures c.in_ok-q.was in omega arith)

pub returns : goal.returns
returns c = c.loop-p.invariant.0 _ _ _ (list-end _ _ _ _ _ c.loop-p-test.false)
