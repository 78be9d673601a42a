use mathlib.Core.Path.{◌∙◌}
use native.Mathlib.Omega.{arith}
use Rattle.decls.proofs.HeadLaws.{flags-more}
use Rattle.decls.proofs.heads.put_flags.Goals as goal

pub loop-name-preserved : goal.loop-name-preserved
loop-name-preserved c =
    (c.loop-name.invariant.0 ∙ flags-more c.args.names.now c.loop-name.name-index c.loop-name-test.true c.loop-name.out c.loop-name.p, omega arith)
