use mathlib.Core.Path.{ap, ◌∙◌}
use Rattle.sogbayile.specs.Code.{code_of}
use Rattle.sogbayile.proofs.indices.sgb_dangling.Goals as goal

pub returns : goal.returns
returns c = record { value = c.code_of.ensures ∙ ap code_of c.dangling_bound_indices.ensures.value; out_after = c.dangling_bound_indices.ensures.out_after }
