use native.Mathlib.Omega.{arith}
use Rattle.one_point.proofs.MarkLaws.{past_row, bad-end, rest-none, no-marks, slice-bad, slice-end, slice_in, slice-marks}
use Rattle.one_point.proofs.marks.mark_pred.Goals as goal

pub returns-then-row-at : goal.returns-then-row-at
returns-then-row-at c = let p = past_row c.args.row.now c.args.depth c.args.at c.if-row-at.true in
    record { value = rw p (bad-end c.args.at); marks_told = no-marks _ _ _ _ _ p }

pub returns-in_err-size : goal.returns-in_err-size
returns-in_err-size c = rw c.from_residual.ensures (record { value = slice-bad c.args.row.now c.args.at c.args.depth c.args.pos c.args.marks.now _ _ c.pred_at.result c.requires (rest-none c.args.marks.now c.args.pos) c.pred_at.ensures c.in_err-size.was; marks_told = slice-marks c.args.row.now c.args.at c.args.depth c.args.pos c.args.marks.now _ _ c.pred_at.result c.requires (rest-none c.args.marks.now c.args.pos) c.pred_at.ensures })

pub returns : goal.returns
returns c = record { value = slice-end c.args.row.now c.args.at c.args.depth c.args.pos c.args.marks.now _ _ c.pred_at.result c.requires (rest-none c.args.marks.now c.args.pos) c.pred_at.ensures _ c.in_ok-size.was; marks_told = slice-marks c.args.row.now c.args.at c.args.depth c.args.pos c.args.marks.now _ _ c.pred_at.result c.requires (rest-none c.args.marks.now c.args.pos) c.pred_at.ensures }

pub overflow_add-result : goal.overflow_add-result
overflow_add-result c = let i = slice_in c.args.row.now c.args.at c.args.depth c.args.pos c.args.marks.now _ _ c.pred_at.result c.requires (rest-none c.args.marks.now c.args.pos) c.pred_at.ensures (omega arith) _ c.in_ok-size.was in
    omega arith
