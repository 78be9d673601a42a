use native.Mathlib.Omega.{arith}
use Rattle.tree.specs.Tag.{pred}
use Rattle.one_point.proofs.ScanLaws.{ends_at, ends-not, fits, copied-form}
use Rattle.one_point.proofs.ReadLaws.{tell, tell_no}
use Rattle.one_point.proofs.MarkLaws.{no-marks, plain-marks}
use Rattle.one_point.proofs.scanned.copy_pred.Goals as goal

pub returns-in_err-next : goal.returns-in_err-next
returns-in_err-next c = rw c.from_residual.ensures (record { scan_told = tell_no _ c.args.row.now _ _ _ _ _ (ends-not c.args.row.now _ pred _ c.requires.0.deep _ c.mark_pred.ensures.value c.in_err-next.was); scan_marks = no-marks _ _ _ _ _ (ends-not c.args.row.now _ pred _ c.requires.0.deep _ c.mark_pred.ensures.value c.in_err-next.was) })

pub returns : goal.returns
returns c = let x = ends_at c.args.row.now _ pred _ c.requires.0.deep _ c.mark_pred.ensures.value _ c.in_ok-next.was in
    record { scan_told = tell _ c.args.row.now _ _ _ _ _ _ x.form _ x.is (copied-form c.args.row.now _ _ x.form x.is _ _ _ _ _ x.end c.copy_part-end.ensures.wrote); scan_marks = plain-marks _ _ _ _ c.args.depth _ (omega arith) c.mark_pred.ensures.marks_told }

pub copy_part-end-requires : goal.copy_part-end-requires
copy_part-end-requires c = let x = ends_at c.args.row.now _ pred _ c.requires.0.deep _ c.mark_pred.ensures.value _ c.in_ok-next.was in
    let e = x.end in
    let f = fits c.args.row.now _ _ x.form x.is in
    omega arith
