use mathlib.Core.Path.{◌∙◌}
use native.Mathlib.Omega.{arith}
use Rattle.shift.proofs.WordwiseLaws.{back_one}
use Rattle.decls.proofs.ClearLaws.{cleared-next}
use Rattle.decls.proofs.used.clear_words.Goals as goal

pub loop-i-preserved : goal.loop-i-preserved
loop-i-preserved c =
    c.loop-i.invariant ∙ rw (← back_one c.loop-i.i) (cleared-next c.args.row.now c.args.marks.now c.args.n c.loop-i.i _ _ c.loop-i-test.true (omega arith) c.loop-i.words (omega arith) _ c.slot_of-slot.ensures)
