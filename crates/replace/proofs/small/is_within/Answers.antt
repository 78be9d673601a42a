use Rattle.replace.proofs.SmallLaws.{deep-bad, deep-end}
use Rattle.replace.proofs.small.is_within.Goals as goal

pub returns-in_default : goal.returns-in_default
returns-in_default c = deep-bad _ c.requires _ _ _ _ c.expr_at.ensures c.in_default.is

pub returns : goal.returns
returns c = deep-end _ c.requires _ _ _ _ c.expr_at.ensures _ c.in-Some.is
