-- Made by crates/sogbayile/commands.py.
use mathlib.Core.Path.{ap, ◌∙◌}
use Rattle.sogbayile.specs.Code.{code_of}
use Rattle.sogbayile.proofs.commands.sgb_named.Goals as goal

pub returns : goal.returns
returns c = record { value = c.code_of.ensures ∙ ap code_of c.to_indices.ensures.value; out_after = c.to_indices.ensures.out_after }
