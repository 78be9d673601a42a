use native.Mathlib.Omega.{arith}
use Rattle.named.proofs.LevelLaws.{none-level, some-low, some_level}
use Rattle.named.proofs.scope.level_of.Goals as goal

pub returns-then-first-eq0 : goal.returns-then-first-eq0
returns-then-first-eq0 c = none-level _ _ _ _ c.first_of-first.ensures c.if-first-eq0.true

pub bounds-scope-first : goal.bounds-scope-first
bounds-scope-first c = let l = some-low _ _ _ _ c.first_of-first.ensures c.if-first-eq0.false in omega arith

pub returns : goal.returns
returns c = some_level _ _ _ _ c.first_of-first.ensures c.requires.0 c.requires.1 c.if-first-eq0.false
