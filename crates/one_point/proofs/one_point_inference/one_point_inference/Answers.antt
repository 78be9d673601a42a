use mathlib.Core.Path.{refl, sym}
use native.Mathlib.Omega.{arith}
use lib.ListN.{length}
use lib.Seq.{length-take-le}
use Rattle.shift.proofs.CheckedLaws.{refused, refused-up}
use Rattle.places.proofs.PlacesLaws.{pred-row}
use Rattle.one_point.proofs.HeadLaws.{head_read}
use Rattle.one_point.proofs.QuantifierLaws.{point-small, point-long, point-refused, point-other, reducing, point-told, point-bad}
use Rattle.tree.proofs.Pairs.{both}
use Rattle.tree.proofs.Residual.{exit-with}
use Rattle.one_point.proofs.one_point_inference.one_point_inference.Goals as goal

pub returns-then-work-lt16384 : goal.returns-then-work-lt16384
returns-then-work-lt16384 c = both (λ v w. record { value = v; out_after = w }) (refused _ _ _ _ (point-small c.args.row.now (length c.args.work.now) (length c.args.out.now) c.if-work-lt16384.true) refl)

pub returns-then-row-gt-WORDS : goal.returns-then-row-gt-WORDS
returns-then-row-gt-WORDS c = both (λ v w. record { value = v; out_after = w }) (refused _ _ _ _ (point-long c.args.row.now (length c.args.work.now) (length c.args.out.now) c.if-work-lt16384.false c.if-row-gt-WORDS.true) refl)

pub returns-in_err-check : goal.returns-in_err-check
returns-in_err-check c = both (λ v w. record { value = v; out_after = w }) (refused-up _ _ _ _ (exit-with c.from_residual.ensures.1) (point-refused c.args.row.now (length c.args.work.now) (length c.args.out.now) c.if-work-lt16384.false c.if-row-gt-WORDS.false _ _ c.check.ensures c.in_err-check.was))

pub returns-in_default : goal.returns-in_default
returns-in_default c = both (λ v w. record { value = v; out_after = w }) (refused _ _ _ _ (point-other c.args.row.now (length c.args.work.now) (length c.args.out.now) c.if-work-lt16384.false c.if-row-gt-WORDS.false (pred-row c.args.row.now _ _ c.if-row-gt-WORDS.false c.check.ensures c.in_ok-check.was) _ c.quantifier_of.ensures c.in_default.is) refl)

pub returns-in_default-reduce : goal.returns-in_default-reduce
returns-in_default-reduce c = both (λ v w. record { value = v; out_after = w }) (point-bad c.args.row.now (length c.args.work.now) (length c.args.out.now) c.if-work-lt16384.false c.if-row-gt-WORDS.false _ (head_read c.args.row.now _ c.quantifier_of.ensures _ c.in-Some.is) _ _ _ (c.reduce.ensures.value, c.reduce.ensures.out_after) c.in_default-reduce.is _ c.broken_at.ensures)

pub returns : goal.returns
returns c = both (λ v w. record { value = v; out_after = w }) (point-told c.args.row.now (length c.args.work.now) (length c.args.out.now) c.if-work-lt16384.false c.if-row-gt-WORDS.false _ (head_read c.args.row.now _ c.quantifier_of.ensures _ c.in-Some.is) _ _ _ (c.reduce.ensures.value, c.reduce.ensures.out_after) _ c.in-Some-reduce.is)

pub slice_bounds-reduce-end : goal.slice_bounds-reduce-end
slice_bounds-reduce-end c = sym (length-take-le _ _ (head_read c.args.row.now _ c.quantifier_of.ensures _ c.in-Some.is).fits)

pub offset_bounds-row-start : goal.offset_bounds-row-start
offset_bounds-row-start c = let h = head_read c.args.row.now _ c.quantifier_of.ensures _ c.in-Some.is in let f = h.fits in omega arith

pub slice_bounds-reduce-count : goal.slice_bounds-reduce-count
slice_bounds-reduce-count c = let h = head_read c.args.row.now _ c.quantifier_of.ensures _ c.in-Some.is in let f = h.fits in omega arith

pub slice_bounds-reduce-start : goal.slice_bounds-reduce-start
slice_bounds-reduce-start c = let h = head_read c.args.row.now _ c.quantifier_of.ensures _ c.in-Some.is in let f = h.fits in omega arith

pub reduce-requires : goal.reduce-requires
reduce-requires c = reducing c.args.row.now (length c.args.work.now) (length c.args.out.now) c.if-work-lt16384.false c.if-row-gt-WORDS.false _ (head_read c.args.row.now _ c.quantifier_of.ensures _ c.in-Some.is)
