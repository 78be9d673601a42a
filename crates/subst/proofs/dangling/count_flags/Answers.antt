use Rattle.std.proofs.Common.{sym, ◌∙◌, get_or, arith, false}
use Rattle.subst.proofs.DanglingLaws.{count-next, flag-number, flag_one, selected-none}
use Rattle.subst.proofs.dangling.count_flags.Goals as goal

pub loop-flag-preserved : goal.loop-flag-preserved
loop-flag-preserved c =
    let w = get_or c.args.flags.now c.loop-flag.flag-index false in
    let a = c.from-n.ensures ∙ flag-number 0 w in
    let one = flag_one 0 w in
    let most = c.loop-flag.invariant.1 in
    (sym (count-next c.args.flags.now c.loop-flag.flag-index c.loop-flag.n _ c.loop-flag-test.true a) ∙ c.loop-flag.invariant.0, omega (arith, a, one, most))

pub returns : goal.returns
returns c = let e = rw (selected-none c.args.flags.now _ c.loop-flag-test.false) at c.loop-flag.invariant.0 in omega (arith, e)
