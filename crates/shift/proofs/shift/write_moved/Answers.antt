use Rattle.std.proofs.Common.{get_or, set, sym, refl, ap, ◌∙◌, arith, length-set}
use Rattle.shift.proofs.WordwiseLaws.{word_more, word_none, back_one}
use Rattle.shift.proofs.ShiftLaws.{unmoved}
use Rattle.shift.proofs.shift.write_moved.Goals as goal

pub returns-then-row-eq0 : goal.returns-then-row-eq0
returns-then-row-eq0 c = sym (word_none _ c.args.row.now c.args.marks.now 0 0 0 0 (omega arith) _)

pub loop-i-init : goal.loop-i-init
loop-i-init c = (refl, omega arith, (omega arith), refl)

pub loop-i-preserved : goal.loop-i-preserved
loop-i-preserved c = (c.loop-i.invariant.0 ∙ rw (← back_one c.loop-i.i) (word_more _ c.args.row.now c.args.marks.now c.loop-i.i c.loop-i.i _ _ c.loop-i-test.true (omega arith) c.loop-i.out _ (ap (set c.loop-i.out c.loop-i.i) c.moved_at.ensures)), omega arith, (omega arith), length-set c.loop-i.out c.loop-i.i c.moved_at.result ∙ c.loop-i.invariant.3)

pub shape_of-out : goal.shape_of-out
shape_of-out c = c.loop-i.invariant.3 ∙ length-set c.args.out.now 0 (get_or c.args.row.now 0 0)

pub returns : goal.returns
returns c = sym (word_more _ c.args.row.now c.args.marks.now 0 0 0 0 (omega arith) (omega arith) c.args.out.now _ (ap (set c.args.out.now 0) (sym (unmoved _ _ _ _))) ∙ c.loop-i.invariant.0 ∙ word_none _ c.args.row.now c.args.marks.now _ _ _ _ c.loop-i-test.false _)
