use Rattle.listed.proofs.ShallowLaws.{list-refused, list-long}
use Rattle.listed.proofs.marks.list_refusal.Goals as goal

pub returns-then-is_form : goal.returns-then-is_form
returns-then-is_form c = list-long _ _ _ c.is_form.ensures c.if-is_form.true

pub returns-else-is_form : goal.returns-else-is_form
returns-else-is_form c = list-refused _ _ _ c.is_form.ensures c.if-is_form.false _ c.broken_at.ensures
