use Rattle.broken.specs.Internal.Seeks.{next_due}
use native.Mathlib.Omega.{arith}
use Rattle.form.specs.Break.{least}
use Rattle.broken.proofs.due.least_words.Goals as goal

pub returns-in-Kids : goal.returns-in-Kids
unfolding next_due
returns-in-Kids c = record { value = rw c.in-Kids.is c.least_kids.ensures.value; upper_bound = omega arith }

pub returns-in-Ask : goal.returns-in-Ask
unfolding next_due least
returns-in-Ask c = record { value = rw c.in-Ask.is (omega arith); upper_bound = omega arith }

pub returns-in-Note : goal.returns-in-Note
unfolding next_due
returns-in-Note c = record { value = rw c.in-Note.is c.least_note.ensures.value; upper_bound = omega arith }

pub returns-in-Wrong : goal.returns-in-Wrong
unfolding next_due least
returns-in-Wrong c = record { value = rw c.in-Wrong.is; upper_bound = omega arith }
