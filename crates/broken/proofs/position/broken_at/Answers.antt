use native.Mathlib.Omega.{arith}
use Rattle.form.specs.Break.{least, break_at}
use Rattle.broken.proofs.position.broken_at.Goals as goal

pub broken_kids-requires : goal.broken_kids-requires
unfolding least
broken_kids-requires c = omega arith

pub broken_kids-requires-in-Predicate : goal.broken_kids-requires-in-Predicate
unfolding least
broken_kids-requires-in-Predicate c = omega arith

pub returns-in-Expression : goal.returns-in-Expression
unfolding break_at
returns-in-Expression c = rw c.in-Expression.is c.broken_kids.ensures

pub returns-in-Predicate : goal.returns-in-Predicate
unfolding break_at
returns-in-Predicate c = rw c.in-Predicate.is c.broken_kids-in-Predicate.ensures

pub returns-in-Either : goal.returns-in-Either
unfolding break_at
returns-in-Either c = rw c.in-Either.is c.broken_either.ensures

pub returns-in-Named : goal.returns-in-Named
unfolding break_at
returns-in-Named c = rw c.in-Named.is c.broken_either-in-Named.ensures
