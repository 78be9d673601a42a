use Rattle.std.proofs.Common.{sym, ◌∙◌, arith, get_or, false}
use Rattle.shift.specs.Internal.Items.{store}
use Rattle.subst.proofs.DanglingLaws.{write-next, selected-none, flag_one}
use Rattle.subst.proofs.dangling.write_flags.Goals as goal

pub loop-i-preserved : goal.loop-i-preserved
loop-i-preserved c = (c.loop-i.invariant.0 ∙ write-next c.args.flags.now _ _ _ _ _ c.loop-i-test.true c.put_flag-n.ensures.value c.put_flag-n.ensures.out_after, c.put_flag-n.auto.out ∙ c.loop-i.invariant.1, let h = flag_one 0 (get_or c.args.flags.now c.loop-i.i false) in omega arith)

pub returns : goal.returns
unfolding store
returns c = sym (c.loop-i.invariant.0 ∙ rw (selected-none c.args.flags.now _ c.loop-i-test.false))
