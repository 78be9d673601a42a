use mathlib.Core.Path.{sym, ◌∙◌}
use native.Mathlib.Omega.{arith}
use native.Mathlib.Nat.{zero-add}
use Rattle.replace.specs.Internal.Job.{job_plan}
use Rattle.shift.proofs.ItemLaws.{size_in}
use Rattle.replace.proofs.PieceLaws.{ident-step, ident-size, plain_step, plain_size, plain-same, needed-next, needed-over, needed-end}
use Rattle.replace.proofs.pieces.words_needed.Goals as goal

pub loop-i-init : goal.loop-i-init
loop-i-init c = (rw zero-add, omega arith)

pub returns-then-n-ge8192 : goal.returns-then-n-ge8192
returns-then-n-ge8192 c = let plan = job_plan c.args.job in
    sym (c.loop-i.invariant.0 ∙ needed-over plan _ (plain-same c.in_default.is plan) (plain_size c.in_default.is) c.args.job.source.row.now c.args.job.source.marks.now _ c.loop-i-test.true c.item_at-it.ensures _ c.loop-i.invariant.1 (omega arith))

pub overflow_add-n : goal.overflow_add-n
overflow_add-n c = omega arith

pub overflow_add-i : goal.overflow_add-i
overflow_add-i c = let s = size_in _ c.args.job.source.marks.now _ c.loop-i-test.true c.item_at-it.ensures in let e = plain_step c.in_default.is in omega arith

pub loop-i-smaller-in_default : goal.loop-i-smaller-in_default
loop-i-smaller-in_default c = let s = size_in _ c.args.job.source.marks.now _ c.loop-i-test.true c.item_at-it.ensures in let e = plain_step c.in_default.is in omega arith

pub loop-i-preserved-in_default : goal.loop-i-preserved-in_default
loop-i-preserved-in_default c = (
  c.loop-i.invariant.0 ∙ (needed-next (job_plan c.args.job) _ (plain-same c.in_default.is (job_plan c.args.job)) (plain_size c.in_default.is) c.args.job.source.row.now c.args.job.source.marks.now _ c.loop-i-test.true c.item_at-it.ensures _ ∙ rw (plain_step c.in_default.is)),
  omega arith,
)

pub piece_of-requires : goal.piece_of-requires
piece_of-requires c = c.requires

pub overflow_sub-n : goal.overflow_sub-n
overflow_sub-n c = omega arith

pub returns-then-n-size : goal.returns-then-n-size
returns-then-n-size c = sym (c.loop-i.invariant.0 ∙ needed-over (job_plan c.args.job) _ c.piece_of.ensures c.piece_size-size.ensures c.args.job.source.row.now c.args.job.source.marks.now _ c.loop-i-test.true (sym c.in-Ident.is ∙ c.item_at-it.ensures) _ c.loop-i.invariant.1 c.if-n-size.true)

pub overflow_add-n-in-loop-i : goal.overflow_add-n-in-loop-i
overflow_add-n-in-loop-i c = omega arith

pub overflow_add-i-in-loop-i : goal.overflow_add-i-in-loop-i
overflow_add-i-in-loop-i c = let s = size_in _ c.args.job.source.marks.now _ c.loop-i-test.true c.item_at-it.ensures in let e = ident-step c.in-Ident.is in omega arith

pub loop-i-smaller : goal.loop-i-smaller
loop-i-smaller c = let s = size_in _ c.args.job.source.marks.now _ c.loop-i-test.true c.item_at-it.ensures in let e = ident-step c.in-Ident.is in omega arith

pub loop-i-preserved : goal.loop-i-preserved
loop-i-preserved c = (
  c.loop-i.invariant.0 ∙ (needed-next (job_plan c.args.job) _ c.piece_of.ensures c.piece_size-size.ensures c.args.job.source.row.now c.args.job.source.marks.now _ c.loop-i-test.true (sym c.in-Ident.is ∙ c.item_at-it.ensures) _ ∙ rw ident-size),
  omega arith,
)

pub returns : goal.returns
returns c = sym (c.loop-i.invariant.0 ∙ needed-end _ c.args.job.source.row.now c.args.job.source.marks.now _ _ c.loop-i-test.false c.loop-i.invariant.1)
