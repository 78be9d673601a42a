use mathlib.Core.Path.{sym, ◌∙◌}
use native.Mathlib.Omega.{arith}
use Rattle.form.proofs.HeadLaws.{asked_in, ask-go, ask-stop}
use Rattle.form.proofs.head.compr_head.Goals as goal

pub returns-in_err-asked : goal.returns-in_err-asked
returns-in_err-asked c = rw c.from_residual.ensures (sym (ask-stop _ _ _ _ _ (sym c.asked.ensures ∙ c.in_err-asked.was)))

pub overflow_add-at : goal.overflow_add-at
overflow_add-at c = let h = asked_in _ _ c.args.row.now c.args.at _ (sym c.asked.ensures ∙ c.in_ok-asked.was) in omega arith

pub returns : goal.returns
returns c = c.bound_head.ensures ∙ sym (ask-go _ _ _ _ _ _ (sym c.asked.ensures ∙ c.in_ok-asked.was))
