use Rattle.reader.proofs.CheckLaws.{row-long, check-long, check_done, check-broken}
use Rattle.reader.proofs.check.mark.Goals as goal

pub returns-then-row-gt-WORDS : goal.returns-then-row-gt-WORDS
returns-then-row-gt-WORDS c = record { value = check-long _ _ c.if-row-gt-WORDS.true; marked = (row-long _ _ _ _ c.if-row-gt-WORDS.true).1 }

pub returns-then-mark_form : goal.returns-then-mark_form
returns-then-mark_form c = record { value = check_done _ _ c.if-row-gt-WORDS.false _ c.mark_form.ensures.value c.if-mark_form.true; marked = c.mark_form.ensures.marked }

pub returns : goal.returns
returns c = record { value = check-broken _ _ c.if-row-gt-WORDS.false _ c.mark_form.ensures.value c.if-mark_form.false _ c.broken_at.ensures; marked = c.mark_form.ensures.marked }
