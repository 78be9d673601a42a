use mathlib.Core.Path.{refl, sym, ◌∙◌}
use native.Mathlib.Omega.{arith}
use Rattle.shift.proofs.ItemLaws.{size_in, size-pos}
use Rattle.subst.proofs.DanglingLaws.{flags-more, flags-none}
use Rattle.subst.proofs.dangling.flag_items.Goals as goal

pub loop-i-init : goal.loop-i-init
loop-i-init c = (refl, refl)

pub overflow_add-i : goal.overflow_add-i
overflow_add-i c = let s = size_in _ c.args.marks.now _ c.loop-i-test.true c.item_at-it.ensures in omega arith

pub loop-i-smaller : goal.loop-i-smaller
loop-i-smaller c = let s = size_in _ c.args.marks.now _ c.loop-i-test.true c.item_at-it.ensures in let p = size-pos c.item_at-it.result in omega arith

pub loop-i-preserved : goal.loop-i-preserved
loop-i-preserved c = (c.loop-i.invariant.0 ∙ (flags-more _ _ _ c.loop-i-test.true c.item_at-it.ensures _ _ c.flag_item.ensures ∙ rw c.size_of-i.ensures), c.flag_item.auto.flags ∙ c.loop-i.invariant.1)

pub returns : goal.returns
returns c = sym (c.loop-i.invariant.0 ∙ flags-none _ _ _ _ c.loop-i-test.false)
