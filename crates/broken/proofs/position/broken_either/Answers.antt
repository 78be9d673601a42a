use native.Mathlib.Omega.{arith}
use Rattle.form.specs.Break.{least}
use Rattle.broken.proofs.PositionLaws.{either-pred, either-expr}
use Rattle.broken.proofs.position.broken_either.Goals as goal

pub broken_kids-p-requires : goal.broken_kids-p-requires
unfolding least
broken_kids-p-requires c = omega arith

pub returns-then-p-gt0 : goal.returns-then-p-gt0
returns-then-p-gt0 c = either-pred _ _ _ c.broken_kids-p.ensures c.if-p-gt0.true

pub broken_kids-requires : goal.broken_kids-requires
unfolding least
broken_kids-requires c = omega arith

pub returns : goal.returns
returns c = either-expr _ _ _ c.broken_kids-p.ensures c.if-p-gt0.false _ c.broken_kids.ensures
