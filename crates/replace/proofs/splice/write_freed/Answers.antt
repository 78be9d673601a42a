use mathlib.Core.Path.{refl, sym}
use native.Mathlib.Omega.{arith}
use Rattle.replace.specs.Internal.Pieces.{piece_size, Fits}
use Rattle.replace.proofs.PieceLaws.{used-first}
use Rattle.replace.proofs.SpliceLaws.{storing, last-room, last_done}
use Rattle.replace.proofs.SpliceSlots.{free-room, free-next, entry-mark, entry-inside, entry-room, entry-next}
use Rattle.tree.proofs.Pairs.{both}
use Rattle.replace.proofs.splice.write_freed.Goals as goal

pub loop-i-init : goal.loop-i-init
loop-i-init c = storing c.requires.splices _ refl

pub overflow_add-i : goal.overflow_add-i
overflow_add-i c = omega arith

pub slice_bounds-name_spot-end : goal.slice_bounds-name_spot-end
slice_bounds-name_spot-end c = sym (used-first _ c.requires.splices.ready.tabled)

pub offset_bounds-marks-i : goal.offset_bounds-marks-i
offset_bounds-marks-i c = omega arith

pub bounds-marks-i : goal.bounds-marks-i
bounds-marks-i c = omega arith

pub offset_bounds-row-i : goal.offset_bounds-row-i
offset_bounds-row-i c = omega arith

pub bounds-row-i : goal.bounds-row-i
bounds-row-i c = omega arith

pub overflow_add-i-in-loop-i : goal.overflow_add-i-in-loop-i
overflow_add-i-in-loop-i c = omega arith

pub offset_bounds-row-i-in-loop-i : goal.offset_bounds-row-i-in-loop-i
offset_bounds-row-i-in-loop-i c = omega arith

pub bounds-row-i-in-loop-i : goal.bounds-row-i-in-loop-i
bounds-row-i-in-loop-i c = c.loop-i-test.true

pub name_spot-spot-requires : goal.name_spot-spot-requires
name_spot-spot-requires c = (c.requires.known, c.requires.keys-long)

pub offset_bounds-row-i-then-n-spot : goal.offset_bounds-row-i-then-n-spot
offset_bounds-row-i-then-n-spot c = omega arith

pub bounds-row-i-then-n-spot : goal.bounds-row-i-then-n-spot
bounds-row-i-then-n-spot c = omega arith

pub bounds-out-p : goal.bounds-out-p
bounds-out-p c = free-room c.requires c.loop-i.invariant c.loop-i-test.true c.name_spot-spot.ensures c.if-n-spot.true

pub overflow_add-p : goal.overflow_add-p
overflow_add-p c = let r = free-room c.requires c.loop-i.invariant c.loop-i-test.true c.name_spot-spot.ensures c.if-n-spot.true in
    omega arith

pub overflow_add-i-then-n-spot : goal.overflow_add-i-then-n-spot
overflow_add-i-then-n-spot c = omega arith

pub loop-i-smaller-then-n-spot : goal.loop-i-smaller-then-n-spot
loop-i-smaller-then-n-spot c = omega arith

pub loop-i-preserved-then-n-spot : goal.loop-i-preserved-then-n-spot
loop-i-preserved-then-n-spot c = free-next c.requires c.loop-i.invariant c.loop-i-test.true c.name_spot-spot.ensures c.if-n-spot.true

pub offset_bounds-table-spot : goal.offset_bounds-table-spot
offset_bounds-table-spot c = omega arith

pub bounds-table-spot : goal.bounds-table-spot
bounds-table-spot c = omega arith

pub offset_bounds-table-spot-in-loop-i : goal.offset_bounds-table-spot-in-loop-i
offset_bounds-table-spot-in-loop-i c = omega arith

pub bounds-table-spot-in-loop-i : goal.bounds-table-spot-in-loop-i
bounds-table-spot-in-loop-i c = omega arith

pub offset_bounds-marks-i-in-loop-i : goal.offset_bounds-marks-i-in-loop-i
offset_bounds-marks-i-in-loop-i c = omega arith

pub bounds-marks-i-in-loop-i : goal.bounds-marks-i-in-loop-i
bounds-marks-i-in-loop-i c = omega arith

pub overflow_sub-part : goal.overflow_sub-part
overflow_sub-part c = let h = entry-mark c.requires c.loop-i.invariant c.loop-i-test.true c.name_spot-spot.ensures c.if-n-spot.false in
    omega arith

pub write_piece-requires : goal.write_piece-requires
unfolding Fits piece_size
write_piece-requires c = record { fits = entry-inside c.requires c.loop-i.invariant c.loop-i-test.true c.name_spot-spot.ensures c.if-n-spot.false; list_in_bounds = c.requires.splices.ready.marked; it_in_bounds = entry-room c.requires c.loop-i.invariant c.loop-i-test.true c.name_spot-spot.ensures c.if-n-spot.false }

pub overflow_sub-p : goal.overflow_sub-p
overflow_sub-p c = (entry-inside c.requires c.loop-i.invariant c.loop-i-test.true c.name_spot-spot.ensures c.if-n-spot.false).0

pub overflow_add-p-in-loop-i : goal.overflow_add-p-in-loop-i
overflow_add-p-in-loop-i c = let r = entry-room c.requires c.loop-i.invariant c.loop-i-test.true c.name_spot-spot.ensures c.if-n-spot.false in
    omega arith

pub overflow_add-i-in-loop-i-2 : goal.overflow_add-i-in-loop-i-2
overflow_add-i-in-loop-i-2 c = omega arith

pub loop-i-smaller : goal.loop-i-smaller
loop-i-smaller c = omega arith

pub loop-i-preserved : goal.loop-i-preserved
loop-i-preserved c = entry-next c.requires c.loop-i.invariant c.loop-i-test.true c.name_spot-spot.ensures c.if-n-spot.false _ c.write_piece.ensures c.write_piece.auto.out

pub write_last-requires : goal.write_last-requires
write_last-requires c = (c.loop-i-test.false, last-room c.requires.splices c.loop-i.invariant c.loop-i-test.false)

pub returns : goal.returns
returns c = both (λ v w. record { value = v; out_after = w }) (last_done c.requires.splices c.loop-i.invariant c.loop-i-test.false _ _ c.write_last.ensures.value (rw c.word_at.ensures at c.write_last.ensures.out_after))

pub offset_bounds-out-p : goal.offset_bounds-out-p
offset_bounds-out-p c = let r = free-room c.requires c.loop-i.invariant c.loop-i-test.true c.name_spot-spot.ensures c.if-n-spot.true in
    omega (arith, c.well_formed.1.1.0.0, c.well_formed.1.1.0.1)
