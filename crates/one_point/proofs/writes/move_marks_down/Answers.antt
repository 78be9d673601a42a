use native.Mathlib.Omega.{arith}
use lib.ListN.{length-set}
use Rattle.one_point.proofs.WriteLaws.{moved-end}
use Rattle.one_point.proofs.MarkLaws.{moved_marks}
use Rattle.one_point.proofs.writes.move_marks_down.Goals as goal

pub returns : goal.returns
returns c = λ f ms cl e q. moved_marks f c.args.pos c.args.end ms c.args.marks.now cl e c.requires.1 q c.move_down-n.result _ c.move_down-n.ensures.wrote c.move_down-n.ensures.out_unchanged c.move_down-n.auto.out

pub offset_bounds-marks-n : goal.offset_bounds-marks-n
offset_bounds-marks-n c = let e = moved-end c.args.pos c.args.end c.move_down-n.result c.args.marks.now _ c.requires.0 c.requires.1 c.move_down-n.ensures.wrote in
    omega arith

pub bounds-marks-n : goal.bounds-marks-n
bounds-marks-n c = let e = moved-end c.args.pos c.args.end c.move_down-n.result c.args.marks.now _ c.requires.0 c.requires.1 c.move_down-n.ensures.wrote in
    omega arith

pub overflow_add-marks : goal.overflow_add-marks
overflow_add-marks c = let e = moved-end c.args.pos c.args.end c.move_down-n.result c.args.marks.now _ c.requires.0 c.requires.1 c.move_down-n.ensures.wrote in
    omega arith

pub offset_bounds-marks-n-2 : goal.offset_bounds-marks-n-2
offset_bounds-marks-n-2 c = let e = moved-end c.args.pos c.args.end c.move_down-n.result c.args.marks.now _ c.requires.0 c.requires.1 c.move_down-n.ensures.wrote in
    omega arith

pub bounds-marks-n-2 : goal.bounds-marks-n-2
bounds-marks-n-2 c = let e = moved-end c.args.pos c.args.end c.move_down-n.result c.args.marks.now _ c.requires.0 c.requires.1 c.move_down-n.ensures.wrote in
    simp length-set (omega arith)
