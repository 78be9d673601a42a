use Rattle.line.proofs.LineLaws.{form-stop, form-go}
use Rattle.line.proofs.line.read_form.Goals as goal

pub returns-in_err-whole : goal.returns-in_err-whole
returns-in_err-whole c = rw c.from_residual.ensures (form-stop _ _ _ _ _ _ _ _ c.last_group.ensures c.in_err-whole.was)

pub returns : goal.returns
returns c = form-go _ _ _ _ _ _ _ _ c.last_group.ensures _ c.in_ok-whole.was
