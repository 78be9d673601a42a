use mathlib.Core.Path.{◌∙◌}
use Rattle.replace.proofs.SmallLaws.{at_none, at-past, at_part}
use Rattle.replace.proofs.small.depth_at.Goals as goal

pub returns-then-end-start : goal.returns-then-end-start
returns-then-end-start c = at_none _ _ _ _ c.requires c.if-end-start.true

pub returns-then-list-end : goal.returns-then-list-end
returns-then-list-end c = at-past _ _ _ _ c.if-end-start.false c.if-list-end.true

pub returns : goal.returns
returns c = c.depth_from.ensures ∙ at_part _ _ _ _ c.if-end-start.false c.if-list-end.false
