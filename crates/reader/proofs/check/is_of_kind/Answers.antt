use Rattle.reader.specs.Internal.Reads.{of_kind}
use Rattle.reader.proofs.check.is_of_kind.Goals as goal

pub returns-in-Expression : goal.returns-in-Expression
unfolding of_kind
returns-in-Expression c = rw c.in-Expression.is

pub returns-in-Predicate : goal.returns-in-Predicate
unfolding of_kind
returns-in-Predicate c = rw c.in-Predicate.is

pub returns-in-Either : goal.returns-in-Either
unfolding of_kind
returns-in-Either c = rw c.in-Either.is

pub returns-in-Named : goal.returns-in-Named
unfolding of_kind
returns-in-Named c = rw c.in-Named.is (rw (c.broken_at.ensures, c.in-Named.is))
