use borrow.Author.Tests.{eq-eqb, ne_eqb}
use Rattle.replace.proofs.instantiate_partial.inner_start.Goals as goal

pub returns-then-end-eq0 : goal.returns-then-end-eq0
returns-then-end-eq0 c = rw (eq-eqb _ _ c.if-end-eq0.true)

pub returns-else-end-eq0 : goal.returns-else-end-eq0
returns-else-end-eq0 c = rw (ne_eqb _ _ c.if-end-eq0.false)
