use Rattle.shift.proofs.SlotLaws.{slot-in, slot-out}
use Rattle.shift.proofs.slots.slot_of.Goals as goal

pub returns-then-dangles : goal.returns-then-dangles
returns-then-dangles c = slot-in _ _ _ _ _ _ _ c.ranges.n.fits c.ranges.v.fits c.wrapping_sub_u64-base.type_inv c.wrapping_sub_u64-index.type_inv (c.wrapping_sub_u64-index.ensures.value) c.saturating_sub-slot.ensures _ c.ranges.m.fits (c.wrapping_sub_u64-base.ensures.value) c.if-dangles.true

pub returns : goal.returns
returns c = slot-out _ _ _ _ _ _ _ c.ranges.n.fits c.ranges.v.fits c.wrapping_sub_u64-base.type_inv c.wrapping_sub_u64-index.type_inv (c.wrapping_sub_u64-index.ensures.value) c.saturating_sub-slot.ensures _ c.ranges.m.fits (c.wrapping_sub_u64-base.ensures.value) c.if-dangles.false
