use mathlib.Core.Path.{refl, sym, ◌∙◌}
use native.Mathlib.Omega.{arith}
use Prim.Native.Nat.{◌+◌}
use native.Mathlib.Nat.{add-zero}
use Rattle.shift.specs.Internal.Items.{size_of, moved_words}
use Rattle.shift.proofs.ItemLaws.{size_in, size-pos}
use Rattle.shift.proofs.ShiftLaws.{keeps}
use Rattle.replace.proofs.PieceLaws.{store-next, store-stop}
use Rattle.replace.proofs.pieces.write_part.Goals as goal

pub loop-i-init : goal.loop-i-init
loop-i-init c = (rw add-zero, refl)

pub overflow_add-at : goal.overflow_add-at
overflow_add-at c = omega arith

pub put_item-requires : goal.put_item-requires
put_item-requires c = omega arith

pub overflow_add-i : goal.overflow_add-i
overflow_add-i c = let s = size_in _ c.args.marks.now _ c.loop-i-test.true c.item_at-it.ensures in omega arith

pub loop-i-smaller : goal.loop-i-smaller
loop-i-smaller c = let s = size_in _ c.args.marks.now _ c.loop-i-test.true c.item_at-it.ensures in let p = size-pos c.item_at-it.result in omega arith

pub loop-i-preserved : goal.loop-i-preserved
loop-i-preserved c = (
  c.loop-i.invariant.0 ∙ (store-next c.args.row.now c.args.marks.now _ c.loop-i-test.true c.item_at-it.ensures (moved_words c.args.up c.args.down) _ _ _ (c.args.at + (c.loop-i.i + size_of c.item_at-it.result)) (rw c.move_item.ensures at c.put_item.ensures) (let e = keeps c.args.up c.args.down c.item_at-it.result in omega arith) ∙ rw c.size_of-i.ensures),
  c.put_item.auto.out ∙ c.loop-i.invariant.1,
)

pub returns : goal.returns
returns c = sym (c.loop-i.invariant.0 ∙ store-stop _ _ _ c.loop-i-test.false _ _ _)
