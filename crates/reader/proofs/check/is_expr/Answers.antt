use Rattle.reader.specs.Internal.Reads.{as_expr}
use Rattle.reader.proofs.CheckLaws.{either-sort}
use Rattle.reader.proofs.check.is_expr.Goals as goal

pub returns-in-Expression : goal.returns-in-Expression
unfolding as_expr
returns-in-Expression c = rw c.in-Expression.is

pub returns-in-Predicate : goal.returns-in-Predicate
unfolding as_expr
returns-in-Predicate c = rw c.in-Predicate.is

pub returns-in-Either : goal.returns-in-Either
returns-in-Either c = either-sort _ _ _ c.in-Either.in-Either-own.keys3 c.begins_expr.ensures
