use borrow.Author.Tests.{le-leb, lt-leb}
use Rattle.broken.specs.Internal.Seeks.{next_due}
use Rattle.broken.proofs.position.entry_due.Goals as goal

pub returns-in-Pairs : goal.returns-in-Pairs
unfolding next_due
returns-in-Pairs c = rw c.in-Pairs.is

pub returns-then-w-le1 : goal.returns-then-w-le1
unfolding next_due
returns-then-w-le1 c = rw (c.in-Places.is, le-leb _ _ c.if-w-le1.true)

pub returns-else-w-le1 : goal.returns-else-w-le1
unfolding next_due
returns-else-w-le1 c = rw (c.in-Places.is, lt-leb _ _ c.if-w-le1.false)
