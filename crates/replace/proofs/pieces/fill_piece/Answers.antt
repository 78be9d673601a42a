use mathlib.Core.Path.{sym}
use borrow.Author.Tests.{lt-ltb, le-ltb, le-leb, lt-leb, eq-eqb}
use Rattle.replace.specs.Internal.Pieces.{place_piece, fill_piece, plan_for}
use Rattle.replace.proofs.PieceLaws.{used-first, used-few, part-is}
use Rattle.replace.proofs.pieces.fill_piece.Goals as goal

pub returns-then-v-b : goal.returns-then-v-b
unfolding fill_piece place_piece
returns-then-v-b c = rw (← c.saturating_sub-b.ensures, lt-ltb _ _ c.if-v-b.true)

pub returns-then-n-j : goal.returns-then-n-j
unfolding fill_piece place_piece
returns-then-n-j c = rw (← c.saturating_sub-b.ensures, le-ltb _ _ c.if-v-b.false, le-leb _ _ c.if-n-j.true, ← c.saturating_sub.ensures)

pub slice_bounds-filled_from-end : goal.slice_bounds-filled_from-end
slice_bounds-filled_from-end c = sym (used-first (plan_for c.args.rule c.args.table.now) c.requires)

pub filled_from-requires : goal.filled_from-requires
filled_from-requires c = used-few (plan_for c.args.rule c.args.table.now) c.requires

pub returns-then-table-i-eq0 : goal.returns-then-table-i-eq0
unfolding fill_piece place_piece
returns-then-table-i-eq0 c = rw (← c.saturating_sub-b.ensures, le-ltb _ _ c.if-v-b.false, lt-leb _ _ c.if-n-j.false, eq-eqb _ _ c.if-table-i-eq0.true, ← c.filled_from.ensures, ← c.saturating_sub-then-table-i-eq0.ensures)

pub returns : goal.returns
returns c = part-is _ _ _ _ _ c.saturating_sub-b.ensures c.if-v-b.false c.if-n-j.false c.if-table-i-eq0.false c.saturating_sub-2.ensures
