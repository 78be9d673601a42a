-- Made by crates/sogbayile/commands.py.
use mathlib.Core.Path.{ap, ◌∙◌}
use Rattle.sogbayile.specs.Code.{code_of}
use Rattle.sogbayile.proofs.commands.sgb_point.Goals as goal

pub returns : goal.returns
returns c = record { value = c.code_of.ensures ∙ ap code_of c.one_point_inference.ensures.value; out_after = c.one_point_inference.ensures.out_after }
