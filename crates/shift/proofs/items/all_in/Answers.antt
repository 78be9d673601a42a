use Rattle.std.proofs.Common.{sym, ◌∙◌}
use Rattle.shift.proofs.ItemLaws.{below_in}
use Rattle.shift.proofs.items.all_in.Goals as goal

pub returns-then-all_below : goal.returns-then-all_below
returns-then-all_below c = sym (below_in _ _ _ _ c.if-lo-eq0.true (sym c.all_below.ensures ∙ c.if-all_below.true))
