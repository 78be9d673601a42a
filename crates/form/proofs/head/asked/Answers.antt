use borrow.Author.Tests.{le-leb, lt-leb}
use Rattle.form.specs.Internal.Heads.{word_at}
use Rattle.form.proofs.HeadLaws.{gone, here}
use Rattle.form.proofs.head.asked.Goals as goal

pub returns-then-row-at : goal.returns-then-row-at
unfolding word_at
returns-then-row-at c = rw (gone _ _ c.if-row-at.true)

pub returns-then-w-lo : goal.returns-then-w-lo
unfolding word_at
returns-then-w-lo c = rw (here _ _ c.if-row-at.false, lt-leb _ _ c.if-w-lo.true)

pub returns-then-hi-w : goal.returns-then-hi-w
unfolding word_at
returns-then-hi-w c = rw (here _ _ c.if-row-at.false, le-leb _ _ c.if-w-lo.false, lt-leb _ _ c.if-hi-w.true)

pub returns : goal.returns
unfolding word_at
returns c = rw (here _ _ c.if-row-at.false, le-leb _ _ c.if-w-lo.false, le-leb _ _ c.if-hi-w.false)
