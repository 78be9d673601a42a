-- Made by crates/sogbayile/commands.py.
use mathlib.Core.Path.{ap, ◌∙◌}
use Rattle.sogbayile.specs.Code.{code_of}
use Rattle.shift.proofs.SignedLaws.{back}
use Rattle.sogbayile.proofs.commands.sgb_shift.Goals as goal

pub returns : goal.returns
returns c = record { value = c.code_of.ensures ∙ ap code_of (rw (back c.args.offset c.ranges.offset) at c.shift_bound_identifiers.ensures.value); out_after = rw (back c.args.offset c.ranges.offset) at c.shift_bound_identifiers.ensures.out_after }
