use Rattle.named.proofs.LevelLaws.{none-cell, some-cell}
use Rattle.named.proofs.scope.cell_of.Goals as goal

pub returns-then-first-eq0 : goal.returns-then-first-eq0
returns-then-first-eq0 c = none-cell _ _ _ _ c.first_of-first.ensures c.if-first-eq0.true _ c.slot_of.ensures.value

pub returns : goal.returns
returns c = some-cell _ _ _ _ c.first_of-first.ensures c.if-first-eq0.false
