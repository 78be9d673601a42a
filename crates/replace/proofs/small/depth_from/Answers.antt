use mathlib.Core.Path.{sym, ◌∙◌}
use native.Mathlib.Omega.{arith}
use Rattle.replace.proofs.SmallLaws.{tried-none, tried_here, tried-more, tried-past, next-is}
use Rattle.replace.proofs.small.depth_from.Goals as goal

pub loop-d-init : goal.loop-d-init
loop-d-init c = tried-none _ _

pub returns-then-is_within : goal.returns-then-is_within
returns-then-is_within c = tried_here _ _ _ c.loop-d.invariant c.loop-d-test.true (sym c.is_within.ensures ∙ c.if-is_within.true)

pub overflow_add-d : goal.overflow_add-d
overflow_add-d c = omega arith

pub overflow_add-d-in-loop-d : goal.overflow_add-d-in-loop-d
overflow_add-d-in-loop-d c = omega arith

pub loop-d-smaller : goal.loop-d-smaller
loop-d-smaller c = omega arith

pub loop-d-preserved : goal.loop-d-preserved
loop-d-preserved c = rw (← (next-is c.loop-d.d c.saturating_sub.result c.saturating_sub.ensures).0) (tried-more _ _ _ c.loop-d.invariant c.loop-d-test.true (sym c.is_within.ensures ∙ c.if-is_within.false))

pub returns : goal.returns
returns c = tried-past _ _ _ c.loop-d.invariant c.loop-d-test.false
