use Rattle.line.proofs.LineLaws.{next_past, next-other, next-go}
use Rattle.line.proofs.line.read_next.Goals as goal

pub returns-then-line-at : goal.returns-then-line-at
returns-then-line-at c = next_past _ _ _ _ _ _ c.if-line-at.true

pub returns-then-line-at-ne32 : goal.returns-then-line-at-ne32
returns-then-line-at-ne32 c = next-other _ _ _ _ _ _ c.if-line-at.false c.if-line-at-ne32.true

pub returns : goal.returns
returns c = next-go _ _ _ _ _ _ c.if-line-at.false c.if-line-at-ne32.false _ _ c.read_form.ensures
