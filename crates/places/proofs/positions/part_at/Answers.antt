use Rattle.places.specs.Internal.Positions.{part_words}
use Rattle.places.proofs.positions.part_at.Goals as goal

pub returns : goal.returns
unfolding part_words
returns c = rw (c.expr_end.ensures, c.expr_end-2.ensures)
