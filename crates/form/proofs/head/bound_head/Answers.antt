use mathlib.Core.Path.{sym, ◌∙◌}
use native.Mathlib.Omega.{arith}
use Rattle.form.proofs.HeadLaws.{asked_in, ask-go, ask-stop, names-go, names-no}
use Rattle.form.proofs.head.bound_head.Goals as goal

pub returns-in_err-n : goal.returns-in_err-n
returns-in_err-n c = rw c.from_residual.ensures (sym (ask-stop _ _ _ _ _ (sym c.asked.ensures ∙ c.in_err-n.was)))

pub overflow_add-at : goal.overflow_add-at
overflow_add-at c = let h = asked_in _ _ c.args.row.now c.args.at _ (sym c.asked.ensures ∙ c.in_ok-n.was) in omega arith

pub returns-in_err-p : goal.returns-in_err-p
returns-in_err-p c = rw c.from_residual-in_err-p.ensures (sym (ask-go _ _ _ _ _ _ (sym c.asked.ensures ∙ c.in_ok-n.was) ∙ names-no _ _ _ _ _ (sym c.names_end.ensures ∙ c.in_err-p.was)))

pub returns : goal.returns
returns c = sym (ask-go _ _ _ _ _ _ (sym c.asked.ensures ∙ c.in_ok-n.was) ∙ names-go _ _ _ _ _ _ (sym c.names_end.ensures ∙ c.in_ok-p.was))
