use native.Mathlib.Omega.{arith}
use Rattle.tree.proofs.Pairs.{both}
use Rattle.spell.proofs.AnswerLaws.{form-long}
use Rattle.spell.proofs.answer.print_form.Goals as goal

pub returns-in_default : goal.returns-in_default
returns-in_default c = both (λ v w. record { value = v; out_after = w }) (form-long _ _ (omega arith))
