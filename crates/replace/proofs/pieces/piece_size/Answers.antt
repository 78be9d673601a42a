use Rattle.replace.specs.Internal.Pieces.{piece_size}
use Rattle.replace.proofs.pieces.piece_size.Goals as goal

pub returns-in-Same : goal.returns-in-Same
unfolding piece_size
returns-in-Same c = rw c.in-Same.is c.size_of.ensures

pub returns-in-Index : goal.returns-in-Index
unfolding piece_size
returns-in-Index c = rw c.in-Index.is

pub returns-in-Part : goal.returns-in-Part
unfolding piece_size
returns-in-Part c = rw c.in-Part.is c.saturating_sub.ensures
