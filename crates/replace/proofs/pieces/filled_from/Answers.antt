use mathlib.Core.Path.{sym, ◌∙◌}
use native.Mathlib.Omega.{arith}
use lib.ListN.{get_or}
use Rattle.replace.proofs.PieceLaws.{filled-few, filled_next, filled-end}
use Rattle.replace.proofs.pieces.filled_from.Goals as goal

pub loop-i-init : goal.loop-i-init
loop-i-init c = (omega arith, omega arith)

pub overflow_add-n : goal.overflow_add-n
overflow_add-n c = let f = filled-few (get_or c.args.words.now c.loop-i.i 0) in omega arith

pub loop-i-preserved : goal.loop-i-preserved
loop-i-preserved c = (c.loop-i.invariant.0 ∙ filled_next c.args.words.now _ _ c.loop-i-test.true ∙ rw c.one_if-n.ensures, let f = filled-few (get_or c.args.words.now c.loop-i.i 0) in omega arith)

pub returns : goal.returns
returns c = sym (c.loop-i.invariant.0 ∙ filled-end c.args.words.now _ _ c.loop-i-test.false)
