use mathlib.Core.Path.{refl, sym, ap, ◌∙◌}
use native.Mathlib.Omega.{arith}
use Prim.Native.Nat.{ℕ, ◌+◌}
use Rattle.replace.specs.Internal.Pieces.{planned}
use Rattle.replace.specs.Internal.Job.{job_plan}
use Rattle.shift.proofs.ItemLaws.{size_in}
use Rattle.replace.proofs.PieceLaws.{piece-fits, ident-step, ident-size, plain_step, plain_size, plain-same, plain-words, store-next, store-stop, planned-size, sizes_step, sizes-stop}
use Rattle.replace.proofs.pieces.write_pieces.Goals as goal

pub loop-i-init : goal.loop-i-init
loop-i-init c = (refl, c.requires.marks_in_bounds, refl, refl)

pub overflow_add-p : goal.overflow_add-p
overflow_add-p c = let z =
    (
    let plan = job_plan c.args.job in
    rw (plain_step c.in_default.is) at (sizes_step plan _ (plain-same c.in_default.is plan) (plain_size c.in_default.is) c.args.job.source.row.now c.args.job.source.marks.now _ c.loop-i-test.true c.item_at-it.ensures)
    ) in
    omega arith

pub overflow_add-i : goal.overflow_add-i
overflow_add-i c = let s =
    (
    size_in _ c.args.job.source.marks.now _ c.loop-i-test.true c.item_at-it.ensures
    ) in
    let e = plain_step c.in_default.is in
    omega arith

pub loop-i-smaller-in_default : goal.loop-i-smaller-in_default
loop-i-smaller-in_default c = let s = size_in _ c.args.job.source.marks.now _ c.loop-i-test.true c.item_at-it.ensures in let e = plain_step c.in_default.is in omega arith

pub loop-i-preserved-in_default : goal.loop-i-preserved-in_default
loop-i-preserved-in_default c = let plan = job_plan c.args.job in
    let z = rw (plain_step c.in_default.is) at (sizes_step plan _ (plain-same c.in_default.is plan) (plain_size c.in_default.is) c.args.job.source.row.now c.args.job.source.marks.now _ c.loop-i-test.true c.item_at-it.ensures) in (
      c.loop-i.invariant.0 ∙ (store-next c.args.job.source.row.now c.args.job.source.marks.now _ c.loop-i-test.true c.item_at-it.ensures (planned plan c.args.job.source.list.now c.args.job.source.list_marks.now) _ _ _ (c.loop-i.p + 1) (rw (plain-words c.in_default.is plan c.args.job.source.list.now c.args.job.source.list_marks.now) at c.put_item.ensures) (ap (λ (n : ℕ). c.loop-i.p + n) (planned-size plan _ (plain-same c.in_default.is plan) (plain_size c.in_default.is) _ _ c.requires.ready.in_row)) ∙ rw (plain_step c.in_default.is)),
      omega arith,
      c.put_item.auto.out ∙ c.loop-i.invariant.2,
      omega arith,
    )

pub piece_of-piece-requires : goal.piece_of-piece-requires
piece_of-piece-requires c = c.requires.ready.tabled

pub write_piece-requires : goal.write_piece-requires
write_piece-requires c = record { fits = rw c.piece_of-piece.ensures (piece-fits _ _ c.requires.ready.in_row _); list_in_bounds = c.requires.ready.marked; it_in_bounds = let z = sizes_step (job_plan c.args.job) _ c.piece_of-piece.ensures refl c.args.job.source.row.now c.args.job.source.marks.now _ c.loop-i-test.true (sym c.in-Ident.is ∙ c.item_at-it.ensures) in omega arith }

pub overflow_add-p-in-loop-i : goal.overflow_add-p-in-loop-i
overflow_add-p-in-loop-i c = let z = rw ident-size at (sizes_step (job_plan c.args.job) _ c.piece_of-piece.ensures c.piece_size-p.ensures c.args.job.source.row.now c.args.job.source.marks.now _ c.loop-i-test.true (sym c.in-Ident.is ∙ c.item_at-it.ensures)) in
    omega arith

pub overflow_add-i-in-loop-i : goal.overflow_add-i-in-loop-i
overflow_add-i-in-loop-i c = let s = size_in _ c.args.job.source.marks.now _ c.loop-i-test.true c.item_at-it.ensures in let e = ident-step c.in-Ident.is in omega arith

pub loop-i-smaller : goal.loop-i-smaller
loop-i-smaller c = let s = size_in _ c.args.job.source.marks.now _ c.loop-i-test.true c.item_at-it.ensures in let e = ident-step c.in-Ident.is in omega arith

pub loop-i-preserved : goal.loop-i-preserved
loop-i-preserved c = let plan = job_plan c.args.job in
    let z = rw ident-size at (sizes_step plan _ c.piece_of-piece.ensures c.piece_size-p.ensures c.args.job.source.row.now c.args.job.source.marks.now _ c.loop-i-test.true (sym c.in-Ident.is ∙ c.item_at-it.ensures)) in (
      c.loop-i.invariant.0 ∙ (store-next c.args.job.source.row.now c.args.job.source.marks.now _ c.loop-i-test.true (sym c.in-Ident.is ∙ c.item_at-it.ensures) (planned plan c.args.job.source.list.now c.args.job.source.list_marks.now) _ _ _ (c.loop-i.p + c.piece_size-p.result) (rw c.piece_of-piece.ensures at c.write_piece.ensures) (ap (λ (n : ℕ). c.loop-i.p + n) (planned-size plan _ c.piece_of-piece.ensures c.piece_size-p.ensures _ _ c.requires.ready.in_row)) ∙ rw ident-size),
      omega arith,
      c.write_piece.auto.out ∙ c.loop-i.invariant.2,
      omega arith,
    )

pub returns : goal.returns
returns c = record { value = sym (c.loop-i.invariant.3 ∙ sizes-stop _ _ _ c.loop-i-test.false _ _); out_after = sym (c.loop-i.invariant.0 ∙ store-stop _ _ _ c.loop-i-test.false _ _ _) }
