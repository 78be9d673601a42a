use native.Mathlib.Omega.{arith}
use Rattle.one_point.proofs.RaiseLaws.{raise-more, raise-all}
use Rattle.one_point.proofs.marks.raise.Goals as goal

pub loop-m-preserved : goal.loop-m-preserved
loop-m-preserved c = raise-more c.args.k c.loop-m.m-index c.args.marks.now c.loop-m.marks (omega arith) c.loop-m.invariant _ c.raise_mark.ensures

pub returns : goal.returns
returns c = raise-all c.args.k c.loop-m.m-index c.args.marks.now c.loop-m.marks (omega arith) c.loop-m.invariant
