use mathlib.Core.Path.{◌≡◌, sym, ap, ◌∙◌}
use Prim.Native.Nat.{◌+◌}
use native.Mathlib.Omega.{arith}
use native.Mathlib.Nat.{le_refl}
use lib.ListN.{length, set, length-set}
use Rattle.shift.specs.Internal.Items.{store}
use Rattle.prune.specs.Internal.Dropped.{fall_at}
use Rattle.shift.proofs.SlotLaws.{slot-most}
use Rattle.shift.proofs.WordwiseLaws.{back_one, word_more, word_none}
use Rattle.prune.proofs.FallLaws.{slot-here, fallen, unfallen, fallen-items}
use Rattle.prune.proofs.prune.write_fallen.Goals as goal

pub offset_bounds-falls-slot : goal.offset_bounds-falls-slot
offset_bounds-falls-slot c = let w = length c.args.words.now in
    let s = slot-most w w w _ _ _ _ (le_refl w) (le_refl w) c.slot_of-slot.ensures in
    omega arith

pub bounds-falls-slot : goal.bounds-falls-slot
bounds-falls-slot c = let w = length c.args.words.now in
    let s = slot-most w w w _ _ _ _ (le_refl w) (le_refl w) c.slot_of-slot.ensures in
    omega arith

pub loop-i-preserved : goal.loop-i-preserved
loop-i-preserved c =
    let s = slot-here (length c.args.words.now) _ c.args.body.now c.args.marks.now c.loop-i.i _ c.requires.body_in_bounds.2 (omega arith) c.loop-i-test.true c.requires.body_in_bounds.0 c.slot_of-slot.ensures in
    let v = fallen c.args.words.now c.args.falls.now c.requires.words_len_bound.2 _ _ _ _ _ s c.less.ensures in
    let p : c.args.at + (c.loop-i.i + 1) ≡ c.args.at + c.loop-i.i + 1 = omega arith in (
      c.loop-i.invariant.0
          ∙ rw (← back_one c.loop-i.i, p)
          (word_more (fall_at c.args.words.now) c.args.body.now c.args.marks.now c.loop-i.i (c.args.at + c.loop-i.i) _ _ c.loop-i-test.true (omega arith) c.loop-i.out _ (ap (set c.loop-i.out (c.args.at + c.loop-i.i)) v)),
      length-set c.loop-i.out (c.args.at + c.loop-i.i) c.less.result ∙ c.loop-i.invariant.1,
    )

pub returns : goal.returns
returns c = sym (
    ap (store c.args.out.now c.args.at) (fallen-items c.args.words.now c.args.body.now c.args.marks.now c.requires.body_in_bounds.2)
    ∙ word_more (fall_at c.args.words.now) c.args.body.now c.args.marks.now 0 c.args.at 0 0 c.requires.body_in_bounds.1 (omega arith) c.args.out.now _ (ap (set c.args.out.now c.args.at) (sym (unfallen c.args.words.now 0 _)))
    ∙ c.loop-i.invariant.0
    ∙ word_none (fall_at c.args.words.now) c.args.body.now c.args.marks.now _ _ _ _ c.loop-i-test.false _)
