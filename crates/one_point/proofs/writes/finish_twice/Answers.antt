use native.Mathlib.Omega.{arith}
use Rattle.one_point.proofs.WriteMarks.{twice-other, twice-other-marks, twice-one, twice-one-marks, twice_two, twice-two-marks}
use Rattle.one_point.proofs.writes.finish_twice.Goals as goal

pub returns-then-out-pos-ne-NOT : goal.returns-then-out-pos-ne-NOT
returns-then-out-pos-ne-NOT c = record { wrote = λ f n w. twice-other c.args.pos c.args.end c.args.out.now (omega arith) c.if-out-pos-ne-NOT.true f n w; marks_after = λ f ms n w cl q. twice-other-marks c.args.pos c.args.end c.args.out.now (omega arith) c.if-out-pos-ne-NOT.true _ f ms n w q }

pub returns-then-out-pos-ne-NOT-2 : goal.returns-then-out-pos-ne-NOT-2
returns-then-out-pos-ne-NOT-2 c = record { wrote = λ f n w. twice-one c.args.pos c.args.end c.args.out.now (omega arith) c.if-out-pos-ne-NOT.false (let h = c.requires.3 c.if-out-pos-ne-NOT.false in omega arith) c.if-out-pos-ne-NOT-2.true f n w; marks_after = λ f ms n w cl q. twice-one-marks c.args.pos c.args.end c.args.out.now (omega arith) c.if-out-pos-ne-NOT.false (let h = c.requires.3 c.if-out-pos-ne-NOT.false in omega arith) c.if-out-pos-ne-NOT-2.true _ f ms n w q }

pub returns : goal.returns
returns c = record { wrote = λ f n w. twice_two c.args.pos c.args.end c.args.out.now (omega arith) c.if-out-pos-ne-NOT.false (let h = c.requires.3 c.if-out-pos-ne-NOT.false in omega arith) c.if-out-pos-ne-NOT-2.false _ _ c.move_down.ensures.wrote f n w; marks_after = λ f ms n w cl q. twice-two-marks c.args.pos c.args.end c.args.out.now (omega arith) c.if-out-pos-ne-NOT.false (let h = c.requires.3 c.if-out-pos-ne-NOT.false in omega arith) c.if-out-pos-ne-NOT-2.false _ _ c.move_marks_down.ensures f ms n w cl q }
