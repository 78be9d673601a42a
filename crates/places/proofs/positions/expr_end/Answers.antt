use native.Mathlib.Omega.{arith}
use Rattle.places.specs.Internal.Positions.{part_words}
use Rattle.places.proofs.SidesLaws.{skip_is}
use Rattle.places.proofs.positions.expr_end.Goals as goal

pub returns : goal.returns
unfolding part_words
returns c = rw (← skip_is _ _ _ _ _ (omega arith) c.skip_expr.ensures) c.unwrap_or.ensures
