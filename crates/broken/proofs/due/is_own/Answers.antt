use Rattle.broken.specs.Internal.Seeks.{next_due, is_own}
use Rattle.broken.proofs.DueLaws.{own-kids}
use Rattle.broken.proofs.due.is_own.Goals as goal

pub returns-in-Kids : goal.returns-in-Kids
unfolding next_due
returns-in-Kids c = rw c.in-Kids.is (own-kids _ _ _)

pub returns-in-Ask : goal.returns-in-Ask
unfolding next_due is_own
returns-in-Ask c = rw c.in-Ask.is

pub returns-in-Note : goal.returns-in-Note
unfolding next_due is_own
returns-in-Note c = rw c.in-Note.is

pub returns-in-Wrong : goal.returns-in-Wrong
unfolding next_due is_own
returns-in-Wrong c = rw c.in-Wrong.is
