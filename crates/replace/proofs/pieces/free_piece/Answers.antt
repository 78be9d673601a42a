use mathlib.Core.Path.{sym}
use borrow.Author.Tests.{le-leb, lt-leb}
use Rattle.replace.specs.Internal.Pieces.{free_piece, plan_for}
use Rattle.replace.proofs.PieceLaws.{used-first}
use Rattle.replace.proofs.pieces.free_piece.Goals as goal

pub slice_bounds-index_of-end : goal.slice_bounds-index_of-end
slice_bounds-index_of-end c = sym (used-first (plan_for c.args.rule c.args.table.now) c.requires)

pub returns-then-n-i : goal.returns-then-n-i
unfolding free_piece
returns-then-n-i c = rw (← c.index_of-i.ensures, le-leb _ _ c.if-n-i.true)

pub returns : goal.returns
unfolding free_piece
returns c = rw (← c.index_of-i.ensures, lt-leb _ _ c.if-n-i.false)
