use mathlib.Core.Path.{refl, sym, ◌∙◌}
use native.Mathlib.Omega.{arith}
use Rattle.shift.proofs.ItemLaws.{store-more, store-none, size_in, size-pos}
use Rattle.subst.proofs.BindLaws.{keeps}
use Rattle.subst.proofs.bind.write_bound.Goals as goal

pub loop-i-init : goal.loop-i-init
loop-i-init c = (refl, refl)

pub put_item-requires : goal.put_item-requires
put_item-requires c = omega arith

pub overflow_add-i : goal.overflow_add-i
overflow_add-i c = let s = size_in _ c.args.marks.now _ c.loop-i-test.true c.item_at-it.ensures in omega arith

pub loop-i-smaller : goal.loop-i-smaller
loop-i-smaller c = let s = size_in _ c.args.marks.now _ c.loop-i-test.true c.item_at-it.ensures in let p = size-pos c.item_at-it.result in omega arith

pub loop-i-preserved : goal.loop-i-preserved
loop-i-preserved c = (c.loop-i.invariant.0 ∙ (store-more _ (keeps _) _ _ _ c.loop-i-test.true c.item_at-it.ensures _ _ (rw c.bound_item.ensures at c.put_item.ensures) ∙ rw c.size_of-i.ensures), c.put_item.auto.out ∙ c.loop-i.invariant.1)

pub returns : goal.returns
returns c = sym (c.loop-i.invariant.0 ∙ store-none _ _ _ _ _ c.loop-i-test.false)
