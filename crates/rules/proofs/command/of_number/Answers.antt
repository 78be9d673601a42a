use native.Mathlib.Omega.{arith}
use Rattle.rules.proofs.CommandLaws.{number-none, number-over, number_at}
use Rattle.rules.proofs.command.of_number.Goals as goal

pub returns-then-at-eq0 : goal.returns-then-at-eq0
returns-then-at-eq0 c = number-none _ c.if-at-eq0.true

pub returns-then-at-gt8 : goal.returns-then-at-gt8
returns-then-at-gt8 c = number-over _ c.if-at-gt8.true

pub bounds-all-at : goal.bounds-all-at
bounds-all-at c = omega arith

pub returns : goal.returns
returns c = number_at _ _ c.if-at-eq0.false c.if-at-gt8.false
