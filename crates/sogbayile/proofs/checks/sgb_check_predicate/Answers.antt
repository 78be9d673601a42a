use mathlib.Core.Path.{ap, ◌∙◌}
use Rattle.sogbayile.specs.Code.{code_of}
use Rattle.sogbayile.proofs.checks.sgb_check_predicate.Goals as goal

pub returns : goal.returns
returns c = c.code_of.ensures ∙ ap code_of c.check.ensures
