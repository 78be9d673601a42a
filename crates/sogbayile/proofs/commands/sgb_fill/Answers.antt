-- Made by crates/sogbayile/commands.py.
use mathlib.Core.Path.{ap, ◌∙◌}
use Rattle.sogbayile.specs.Code.{code_of}
use Rattle.sogbayile.proofs.commands.sgb_fill.Goals as goal

pub returns : goal.returns
returns c = record { value = c.code_of.ensures ∙ ap code_of c.instantiate.ensures.value; out_after = c.instantiate.ensures.out_after }
