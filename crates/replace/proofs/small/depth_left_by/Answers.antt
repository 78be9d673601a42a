use mathlib.Core.Path.{sym, ◌∙◌}
use Rattle.replace.proofs.SmallLaws.{depth-most, left-many, left-high, left-parts}
use Rattle.replace.proofs.small.depth_left_by.Goals as goal

pub returns-then-table-gt-LIMIT : goal.returns-then-table-gt-LIMIT
returns-then-table-gt-LIMIT c = left-many _ _ c.if-table-gt-LIMIT.true

pub returns-then-not-all_below : goal.returns-then-not-all_below
returns-then-not-all_below c = left-high _ _ c.if-table-gt-LIMIT.false (sym c.if-not-all_below.true ∙ c.all_below.ensures)

pub overflow_sub-result : goal.overflow_sub-result
overflow_sub-result c = depth-most _ _ _ c.parts_depth.ensures

pub returns : goal.returns
returns c = left-parts _ _ c.if-table-gt-LIMIT.false _ (sym c.if-not-all_below.false ∙ c.all_below.ensures) c.parts_depth.ensures
