use native.Mathlib.Omega.{arith}
use Rattle.replace.specs.Internal.Pieces.{piece_size, Fits}
use Rattle.replace.proofs.SpliceLaws.{storing, last-room, last_done}
use Rattle.replace.proofs.SpliceSlots.{slot-low, fill-room, fill-next, place-slot, place-mark, place_inside, place-room, place-next}
use Rattle.tree.proofs.Pairs.{both}
use Rattle.replace.proofs.splice.write_filled.Goals as goal

pub loop-i-init : goal.loop-i-init
loop-i-init c = storing c.requires.splices _ c.word_at-word.ensures

pub bounds-marks-i : goal.bounds-marks-i
bounds-marks-i c = omega arith

pub bounds-row-i : goal.bounds-row-i
bounds-row-i c = omega arith

pub bounds-row-i-in-loop-i : goal.bounds-row-i-in-loop-i
bounds-row-i-in-loop-i c = c.loop-i-test.true

pub overflow_add-n : goal.overflow_add-n
overflow_add-n c = omega arith

pub offset_bounds-cuts-slot : goal.offset_bounds-cuts-slot
offset_bounds-cuts-slot c = let s = slot-low c.requires c.loop-i.invariant c.loop-i-test.true c.slot_of-slot.ensures in
    omega arith

pub bounds-cuts-slot : goal.bounds-cuts-slot
bounds-cuts-slot c = let s = slot-low c.requires c.loop-i.invariant c.loop-i-test.true c.slot_of-slot.ensures in
    omega arith

pub bounds-out-p : goal.bounds-out-p
bounds-out-p c = fill-room c.requires c.loop-i.invariant c.loop-i-test.true c.slot_of-slot.ensures c.if-cuts-slot-eq0.true

pub overflow_add-i-then-cuts-slot-eq0 : goal.overflow_add-i-then-cuts-slot-eq0
overflow_add-i-then-cuts-slot-eq0 c = omega arith

pub bounds-row-i-then-cuts-slot-eq0 : goal.bounds-row-i-then-cuts-slot-eq0
bounds-row-i-then-cuts-slot-eq0 c = c.loop-i-test.true

pub offset_bounds-falls-slot : goal.offset_bounds-falls-slot
offset_bounds-falls-slot c = let s = slot-low c.requires c.loop-i.invariant c.loop-i-test.true c.slot_of-slot.ensures in
    omega arith

pub bounds-falls-slot : goal.bounds-falls-slot
bounds-falls-slot c = let s = slot-low c.requires c.loop-i.invariant c.loop-i-test.true c.slot_of-slot.ensures in
    omega arith

pub overflow_add-p : goal.overflow_add-p
overflow_add-p c = let r = fill-room c.requires c.loop-i.invariant c.loop-i-test.true c.slot_of-slot.ensures c.if-cuts-slot-eq0.true in
    omega arith

pub overflow_add-i-then-cuts-slot-eq0-2 : goal.overflow_add-i-then-cuts-slot-eq0-2
overflow_add-i-then-cuts-slot-eq0-2 c = omega arith

pub loop-i-smaller-then-cuts-slot-eq0 : goal.loop-i-smaller-then-cuts-slot-eq0
loop-i-smaller-then-cuts-slot-eq0 c = omega arith

pub loop-i-preserved-then-cuts-slot-eq0 : goal.loop-i-preserved-then-cuts-slot-eq0
loop-i-preserved-then-cuts-slot-eq0 c = fill-next c.requires c.loop-i.invariant c.loop-i-test.true c.slot_of-slot.ensures c.if-cuts-slot-eq0.true _ c.saturating_sub-word.ensures

pub overflow_sub-s : goal.overflow_sub-s
overflow_sub-s c = let p = place-slot c.requires c.loop-i.invariant c.loop-i-test.true c.slot_of-slot.ensures c.if-cuts-slot-eq0.false in
    let h = p.0 in
    omega arith

pub offset_bounds-table-slot : goal.offset_bounds-table-slot
offset_bounds-table-slot c = let p = place-slot c.requires c.loop-i.invariant c.loop-i-test.true c.slot_of-slot.ensures c.if-cuts-slot-eq0.false in
    let h = p.1 in
    omega arith

pub bounds-table-slot : goal.bounds-table-slot
bounds-table-slot c = (place-slot c.requires c.loop-i.invariant c.loop-i-test.true c.slot_of-slot.ensures c.if-cuts-slot-eq0.false).1

pub overflow_sub-e : goal.overflow_sub-e
overflow_sub-e c = let p = place-slot c.requires c.loop-i.invariant c.loop-i-test.true c.slot_of-slot.ensures c.if-cuts-slot-eq0.false in
    let h = p.0 in
    omega arith

pub offset_bounds-table-slot-in-loop-i : goal.offset_bounds-table-slot-in-loop-i
offset_bounds-table-slot-in-loop-i c = let p = place-slot c.requires c.loop-i.invariant c.loop-i-test.true c.slot_of-slot.ensures c.if-cuts-slot-eq0.false in
    let h = p.1 in
    omega arith

pub bounds-table-slot-in-loop-i : goal.bounds-table-slot-in-loop-i
bounds-table-slot-in-loop-i c = (place-slot c.requires c.loop-i.invariant c.loop-i-test.true c.slot_of-slot.ensures c.if-cuts-slot-eq0.false).1

pub bounds-marks-i-in-loop-i : goal.bounds-marks-i-in-loop-i
bounds-marks-i-in-loop-i c = omega arith

pub overflow_sub-marks : goal.overflow_sub-marks
overflow_sub-marks c = let h = place-mark c.requires c.loop-i.invariant c.loop-i-test.true c.slot_of-slot.ensures c.if-cuts-slot-eq0.false in
    omega arith

pub write_piece-requires : goal.write_piece-requires
unfolding Fits piece_size
write_piece-requires c = record { fits = place_inside c.requires c.loop-i.invariant c.loop-i-test.true c.slot_of-slot.ensures c.if-cuts-slot-eq0.false; list_in_bounds = c.requires.splices.ready.marked; it_in_bounds = place-room c.requires c.loop-i.invariant c.loop-i-test.true c.slot_of-slot.ensures c.if-cuts-slot-eq0.false }

pub overflow_sub-p : goal.overflow_sub-p
overflow_sub-p c = (place_inside c.requires c.loop-i.invariant c.loop-i-test.true c.slot_of-slot.ensures c.if-cuts-slot-eq0.false).0

pub overflow_add-p-in-loop-i : goal.overflow_add-p-in-loop-i
overflow_add-p-in-loop-i c = let r = place-room c.requires c.loop-i.invariant c.loop-i-test.true c.slot_of-slot.ensures c.if-cuts-slot-eq0.false in
    omega arith

pub overflow_add-i-in-loop-i-2 : goal.overflow_add-i-in-loop-i-2
overflow_add-i-in-loop-i-2 c = omega arith

pub loop-i-smaller : goal.loop-i-smaller
loop-i-smaller c = omega arith

pub loop-i-preserved : goal.loop-i-preserved
loop-i-preserved c = place-next c.requires c.loop-i.invariant c.loop-i-test.true c.slot_of-slot.ensures c.if-cuts-slot-eq0.false _ c.saturating_sub-up.ensures _ c.write_piece.ensures c.write_piece.auto.out _ c.word_at-word-in-loop-i.ensures

pub write_last-requires : goal.write_last-requires
write_last-requires c = (c.loop-i-test.false, last-room c.requires.splices c.loop-i.invariant c.loop-i-test.false)

pub returns : goal.returns
returns c = both (λ v w. record { value = v; out_after = w }) (last_done c.requires.splices c.loop-i.invariant c.loop-i-test.false _ _ c.write_last.ensures.value c.write_last.ensures.out_after)

pub offset_bounds-out-p : goal.offset_bounds-out-p
offset_bounds-out-p c = let r = fill-room c.requires c.loop-i.invariant c.loop-i-test.true c.slot_of-slot.ensures c.if-cuts-slot-eq0.true in
    omega (arith, c.well_formed.1.1.1.0.0, c.well_formed.1.1.1.0.1)
