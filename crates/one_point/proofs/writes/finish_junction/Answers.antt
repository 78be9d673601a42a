use native.Mathlib.Omega.{arith}
use Rattle.one_point.proofs.WriteLaws.{join-none, join_one, join_more}
use Rattle.one_point.proofs.writes.finish_junction.Goals as goal

pub returns-then-k-eq0 : goal.returns-then-k-eq0
returns-then-k-eq0 c = λ fs e w. join-none c.args.pos c.args.end c.args.tag c.args.out.now (omega arith) _ c.if-k-eq0.true fs e

pub returns-then-k-eq1 : goal.returns-then-k-eq1
returns-then-k-eq1 c = λ fs e w. join_one _ _ _ c.args.out.now (omega arith) _ c.if-k-eq1.true _ _ c.move_down.ensures.wrote fs e w

pub returns : goal.returns
returns c = λ fs e w. join_more _ _ _ c.args.out.now (omega arith) _ c.if-k-eq0.false c.if-k-eq1.false fs e w
