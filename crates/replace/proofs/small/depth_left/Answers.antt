use mathlib.Core.Path.{sym, ◌∙◌}
use Rattle.replace.proofs.SmallLaws.{left-none, left_is, depth-most}
use Rattle.replace.proofs.small.depth_left.Goals as goal

pub returns-then-not-all_below : goal.returns-then-not-all_below
returns-then-not-all_below c = left-none _ (sym c.if-not-all_below.true ∙ c.all_below.ensures)

pub overflow_sub-result : goal.overflow_sub-result
overflow_sub-result c = depth-most _ _ _ c.depth_from.ensures

pub returns : goal.returns
returns c = left_is _ _ (sym c.if-not-all_below.false ∙ c.all_below.ensures) c.depth_from.ensures
