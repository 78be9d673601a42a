use mathlib.Core.Path.{sym, ◌∙◌}
use native.Mathlib.Omega.{arith}
use Rattle.form.proofs.HeadLaws.{asked_in, ask-go, ask-stop, no-flags}
use Rattle.form.proofs.head.flags_head.Goals as goal

pub returns-in_err-n : goal.returns-in_err-n
returns-in_err-n c = rw c.from_residual.ensures (sym (ask-stop _ _ _ _ _ (sym c.asked.ensures ∙ c.in_err-n.was)))

pub overflow_add-result : goal.overflow_add-result
overflow_add-result c = let h = asked_in _ _ c.args.row.now c.args.at _ (sym c.asked.ensures ∙ c.in_ok-n.was) in omega arith

pub returns : goal.returns
returns c = sym (ask-go _ _ _ _ _ _ (sym c.asked.ensures ∙ c.in_ok-n.was) ∙ no-flags _ _ _ _ _)
