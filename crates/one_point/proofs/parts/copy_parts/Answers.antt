use mathlib.Core.Path.{refl, sym, ◌∙◌}
use native.Mathlib.Omega.{arith}
use Rattle.places.proofs.PartsLaws.{open-both, part_of, beside-in}
use Rattle.places.proofs.StepLaws.{parts_none, left_is, middle-is, right_is, end_is, part_in, next-is}
use Rattle.one_point.proofs.PartsStepLaws.{copied_none, wrote-length, copy-on}
use Rattle.one_point.proofs.parts.copy_parts.Goals as goal

pub loop-todo-init : goal.loop-todo-init
loop-todo-init c = (λ e m o t. t, c.requires.0, refl)

pub loop-todo-preserved-then-both_pairs : goal.loop-todo-preserved-then-both_pairs
loop-todo-preserved-then-both_pairs c = let h = open-both _ c.loop-todo.invariant.1 c.loop-todo-test.true (sym c.both_pairs.ensures ∙ c.if-both_pairs.true) in (λ e m o t. c.loop-todo.invariant.0 e m o (rw h.1 t), h.0, c.loop-todo.invariant.2)

pub loop-todo-preserved : goal.loop-todo-preserved
loop-todo-preserved c = let x = (part_of _ c.loop-todo.invariant.1 c.loop-todo-test.true (sym c.both_pairs.ensures ∙ c.if-both_pairs.false)) in let a = left_is x c.part_at-part.result c.part_at-part.ensures in let b = middle-is x c.part_at-part.result c.part_at-part.ensures in let d = right_is x c.part_at-part.result c.part_at-part.ensures in let e = end_is x c.part_at-part.result c.part_at-part.ensures in let u = wrote-length x c.part_at-part.result c.part_at-part.ensures _ _ _ c.write_equal-w.ensures in (λ e m o t. c.loop-todo.invariant.0 e m o (copy-on x c.part_at-part.result c.part_at-part.ensures _ _ _ c.write_equal-w.ensures e m o t), rw c.write_equal-w.auto.out (next-is x c.part_at-part.result c.part_at-part.ensures _ _ (omega arith) (omega arith)), c.write_equal-w.auto.out ∙ c.loop-todo.invariant.2)

pub returns : goal.returns
returns c = c.loop-todo.invariant.0 _ _ _ (copied_none _ _ _ _ (parts_none c.args.row.now _ _ _ c.loop-todo-test.false))

pub overflow_add-p : goal.overflow_add-p
overflow_add-p c = let h = beside-in c.loop-todo.invariant.1 c.loop-todo-test.true in omega arith

pub overflow_add-q : goal.overflow_add-q
overflow_add-q c = let h = beside-in c.loop-todo.invariant.1 c.loop-todo-test.true in omega arith

pub overflow_add-todo : goal.overflow_add-todo
overflow_add-todo c = let h = beside-in c.loop-todo.invariant.1 c.loop-todo-test.true in omega arith

pub loop-todo-smaller-then-both_pairs : goal.loop-todo-smaller-then-both_pairs
loop-todo-smaller-then-both_pairs c = let h = beside-in c.loop-todo.invariant.1 c.loop-todo-test.true in omega arith

pub write_equal-w-requires : goal.write_equal-w-requires
write_equal-w-requires c = let x = (part_of _ c.loop-todo.invariant.1 c.loop-todo-test.true (sym c.both_pairs.ensures ∙ c.if-both_pairs.false)) in let a = left_is x c.part_at-part.result c.part_at-part.ensures in let b = middle-is x c.part_at-part.result c.part_at-part.ensures in let d = right_is x c.part_at-part.result c.part_at-part.ensures in let e = end_is x c.part_at-part.result c.part_at-part.ensures in let r = x.room in let l = x.some-l in let m = x.some-r in (part_in x c.part_at-part.result c.part_at-part.ensures, omega arith)

pub loop-todo-smaller : goal.loop-todo-smaller
loop-todo-smaller c = let x = (part_of _ c.loop-todo.invariant.1 c.loop-todo-test.true (sym c.both_pairs.ensures ∙ c.if-both_pairs.false)) in let a = left_is x c.part_at-part.result c.part_at-part.ensures in let b = middle-is x c.part_at-part.result c.part_at-part.ensures in let d = right_is x c.part_at-part.result c.part_at-part.ensures in let e = end_is x c.part_at-part.result c.part_at-part.ensures in let l = x.some-l in let m = x.some-r in let h = beside-in c.loop-todo.invariant.1 c.loop-todo-test.true in omega arith
