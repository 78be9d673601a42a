use Rattle.std.proofs.Common.{sym, ◌∙◌, arith}
use Rattle.shift.proofs.ItemLaws.{all_more, all-stop, all_none, size_in, size-pos, not_yes, not-no}
use Rattle.shift.proofs.items.each_in.Goals as goal

pub returns-then-not-item_in : goal.returns-then-not-item_in
returns-then-not-item_in c = sym (c.loop-i.invariant ∙ all-stop _ _ _ c.loop-i-test.true c.item_at-it.ensures _ (sym c.item_in.ensures ∙ not_yes _ c.if-not-item_in.true-raw))

pub overflow_add-i : goal.overflow_add-i
overflow_add-i c = let s = size_in _ c.args.marks.now _ c.loop-i-test.true c.item_at-it.ensures in omega arith

pub loop-i-smaller : goal.loop-i-smaller
loop-i-smaller c = let s = size_in _ c.args.marks.now _ c.loop-i-test.true c.item_at-it.ensures in let p = size-pos c.item_at-it.result in omega arith

pub loop-i-preserved : goal.loop-i-preserved
loop-i-preserved c = c.loop-i.invariant ∙ all_more _ _ _ c.loop-i-test.true c.item_at-it.ensures _ (sym c.item_in.ensures ∙ not-no _ c.if-not-item_in.false-raw) ∙ rw c.size_of-i.ensures

pub returns : goal.returns
returns c = sym (c.loop-i.invariant ∙ all_none _ _ _ _ c.loop-i-test.false)
