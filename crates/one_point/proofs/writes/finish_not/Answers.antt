use native.Mathlib.Omega.{arith}
use Rattle.one_point.proofs.WriteLaws.{unsay, say}
use Rattle.one_point.proofs.WriteMarks.{unsay-marks, say-marks}
use Rattle.one_point.proofs.writes.finish_not.Goals as goal

pub returns-then-out-pos-eq-NOT : goal.returns-then-out-pos-eq-NOT
returns-then-out-pos-eq-NOT c = record { wrote = λ f n w. unsay _ _ c.args.out.now (omega arith) c.if-out-pos-eq-NOT.true _ _ c.move_down.ensures.wrote f n w; marks_after = λ f ms n w cl q. unsay-marks _ _ c.args.out.now (omega arith) _ c.if-out-pos-eq-NOT.true _ c.move_marks_down.ensures f ms n w cl q }

pub returns : goal.returns
returns c = record { wrote = λ f n w. say _ _ c.args.out.now (omega arith) c.if-out-pos-eq-NOT.false f n w; marks_after = λ f ms n w cl q. say-marks _ _ c.args.out.now (omega arith) _ c.if-out-pos-eq-NOT.false f ms n w cl q }
