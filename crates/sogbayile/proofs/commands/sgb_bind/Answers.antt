-- Made by crates/sogbayile/commands.py.
use mathlib.Core.Path.{ap, ◌∙◌}
use Rattle.sogbayile.specs.Code.{code_of}
use Rattle.sogbayile.proofs.commands.sgb_bind.Goals as goal

pub returns : goal.returns
returns c = record { value = c.code_of.ensures ∙ ap code_of c.bind_idents.ensures.value; out_after = c.bind_idents.ensures.out_after }
