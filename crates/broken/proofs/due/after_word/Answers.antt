use Rattle.broken.specs.Internal.Seeks.{next_due, after_word}
use Rattle.broken.proofs.DueLaws.{no_name, wide-name, one_name, below-limit, above-limit, in-limits}
use Rattle.broken.proofs.due.after_word.Goals as goal

pub returns-then-names-eq0 : goal.returns-then-names-eq0
unfolding next_due
returns-then-names-eq0 c = rw c.in-Kids.is (no_name _ _ _ _ c.if-names-eq0.true)

pub returns-then-w-gt-NAME : goal.returns-then-w-gt-NAME
unfolding next_due
returns-then-w-gt-NAME c = rw c.in-Kids.is (wide-name _ _ _ _ c.if-names-eq0.false c.if-w-gt-NAME.true)

pub returns-then-w-lo : goal.returns-then-w-lo
unfolding next_due
returns-then-w-lo c = rw c.in-Ask.is (below-limit _ _ _ _ c.if-w-lo.true)

pub returns-then-hi-w : goal.returns-then-hi-w
unfolding next_due
returns-then-hi-w c = rw c.in-Ask.is (above-limit _ _ _ _ c.if-w-lo.false c.if-hi-w.true)

pub returns-else-w-gt-NAME : goal.returns-else-w-gt-NAME
unfolding next_due
returns-else-w-gt-NAME c = rw c.in-Kids.is (one_name _ _ _ _ c.if-names-eq0.false c.if-w-gt-NAME.false)

pub returns-else-hi-w : goal.returns-else-hi-w
unfolding next_due
returns-else-hi-w c = rw c.in-Ask.is (in-limits _ _ _ _ _ c.then_of.ensures c.if-w-lo.false c.if-hi-w.false)

pub returns-in-Note : goal.returns-in-Note
unfolding next_due after_word
returns-in-Note c = rw c.in-Note.is

pub returns-in-Wrong : goal.returns-in-Wrong
unfolding next_due after_word
returns-in-Wrong c = rw c.in-Wrong.is
