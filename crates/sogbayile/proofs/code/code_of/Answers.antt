use mathlib.Core.Path.{sym, ap, ◌∙◌}
use Rattle.sogbayile.specs.Code.{code_of}
use Rattle.sogbayile.proofs.CodeLaws.{code-done, code-no}
use Rattle.sogbayile.proofs.code.code_of.Goals as goal

pub returns-in-Ok : goal.returns-in-Ok
returns-in-Ok c = sym (ap code_of c.in-Ok.is ∙ code-done _)

pub returns-in-Err : goal.returns-in-Err
returns-in-Err c = c.refusal_code.ensures ∙ sym (ap code_of c.in-Err.is ∙ code-no _)
