use mathlib.Core.Path.{◌∙◌}
use Rattle.tree.proofs.Residual.{exit-with}
use Rattle.reply.proofs.LateLaws.{form-tests, test-no, test-yes}
use Rattle.reply.proofs.commands.check_parts.Goals as goal

pub returns-in_err-check_form_part : goal.returns-in_err-check_form_part
returns-in_err-check_form_part c = exit-with c.from_residual.ensures.1 ∙ test-no _ _ (form-tests _ _ _) _ (rw c.kind_of.ensures at c.check_form_part.ensures) _ c.in_err-check_form_part.was _

pub returns : goal.returns
returns c = test-yes _ _ (form-tests _ _ _) _ (rw c.kind_of.ensures at c.check_form_part.ensures) _ c.in_ok-check_form_part.was _ _ (rw c.args_of.ensures at c.check_list.ensures)
