use mathlib.Core.Path.{refl, sym, ap}
use Prim.Native.Nat.{◌≤◌}
use native.Mathlib.Omega.{arith}
use lib.ListN.{length}
use lib.Seq.{length-take-le}
use Rattle.rules.specs.Point.{polarity}
use Rattle.one_point.proofs.HeadedLaws.{head-count}
use Rattle.one_point.proofs.PointLaws.{scan-there, marks-there, rest-there, answered, nothing-told, body-lost, body-longer, none-taken, took, part_in, stop-low, stop-fits, placing, part-cleared, rest-marking, shallow, placed-is}
use Rattle.tree.proofs.Pairs.{both}
use Rattle.one_point.proofs.reduce.reduce_in.Goals as goal

pub returns-in_err-s : goal.returns-in_err-s
returns-in_err-s c = let z = scan-there c.args.head.now c.args.body.now c.args.depth _ _ (head-count c.args.head.now c.requires.0.heading) (ap polarity c.operator_of-tag.ensures) c.args.work.now _ _ c.in_err-s.ensures.scan_told in both (λ v w. record { value = v; out_after = w }) (nothing-told _ _ _ (body-lost c.args.depth c.requires.1.some c.requires.1.most c.args.head.now c.args.body.now _ c.requires.0 c.args.work.now _ z _) c.from_residual.ensures)

pub returns-then-s-body : goal.returns-then-s-body
returns-then-s-body c = let z = scan-there c.args.head.now c.args.body.now c.args.depth _ _ (head-count c.args.head.now c.requires.0.heading) (ap polarity c.operator_of-tag.ensures) c.args.work.now _ _ c.in_ok-s.ensures.scan_told in both (λ v w. record { value = v; out_after = w }) (nothing-told _ _ _ (body-longer c.args.depth c.requires.1.some c.requires.1.most c.args.head.now c.args.body.now _ c.requires.0 c.args.work.now _ _ z c.if-s-body.true _) refl)

pub returns-in_default : goal.returns-in_default
returns-in_default c = let z = scan-there c.args.head.now c.args.body.now c.args.depth _ _ (head-count c.args.head.now c.requires.0.heading) (ap polarity c.operator_of-tag.ensures) c.args.work.now _ _ c.in_ok-s.ensures.scan_told in both (λ v w. record { value = v; out_after = w }) (answered _ _ _ _ _ (none-taken c.args.depth c.requires.1.some c.requires.1.most c.args.head.now c.args.body.now _ c.requires.0 c.args.work.now _ _ z c.if-s-body.false c.in_default.is _) (refl, refl))

pub returns : goal.returns
returns c = let z = scan-there c.args.head.now c.args.body.now c.args.depth _ _ (head-count c.args.head.now c.requires.0.heading) (ap polarity c.operator_of-tag.ensures) c.args.work.now _ _ c.in_ok-s.ensures.scan_told in let k = took c.args.depth c.requires.1.some c.requires.1.most c.args.head.now c.args.body.now _ c.requires.0 c.args.work.now _ _ z c.if-s-body.false _ c.in-Some.is in both (λ v w. record { value = v; out_after = w }) (answered _ _ _ _ _ (placed-is c.args.depth c.requires.1.some c.requires.1.most c.args.head.now c.args.body.now _ c.requires.0 c.args.work.now _ _ z c.if-s-body.false _ _ _ k _ _ c.rest_end-stop.ensures.value (rest-there c.args.head.now _ c.in_ok-s.s.end _ c.scan_pred.new.out c.operator_of-tag.ensures c.rest_end-stop.ensures.work_after) _) (c.place.ensures.value, c.place.ensures.out_after))

pub offset_bounds-body-part : goal.offset_bounds-body-part
offset_bounds-body-part c = let z = scan-there c.args.head.now c.args.body.now c.args.depth _ _ (head-count c.args.head.now c.requires.0.heading) (ap polarity c.operator_of-tag.ensures) c.args.work.now _ _ c.in_ok-s.ensures.scan_told in let k = took c.args.depth c.requires.1.some c.requires.1.most c.args.head.now c.args.body.now _ c.requires.0 c.args.work.now _ _ z c.if-s-body.false _ c.in-Some.is in let x = part_in c.args.depth c.requires.1.some c.requires.1.most c.args.head.now c.args.body.now _ c.requires.0 c.args.work.now _ _ z c.if-s-body.false _ _ _ k in let y = x.0 in let w = x.1 in omega arith

pub slice_bounds-place-count : goal.slice_bounds-place-count
slice_bounds-place-count c = let z = scan-there c.args.head.now c.args.body.now c.args.depth _ _ (head-count c.args.head.now c.requires.0.heading) (ap polarity c.operator_of-tag.ensures) c.args.work.now _ _ c.in_ok-s.ensures.scan_told in let k = took c.args.depth c.requires.1.some c.requires.1.most c.args.head.now c.args.body.now _ c.requires.0 c.args.work.now _ _ z c.if-s-body.false _ c.in-Some.is in let x = part_in c.args.depth c.requires.1.some c.requires.1.most c.args.head.now c.args.body.now _ c.requires.0 c.args.work.now _ _ z c.if-s-body.false _ _ _ k in let y = x.0 in let w = x.1 in omega arith

pub slice_bounds-place-start : goal.slice_bounds-place-start
slice_bounds-place-start c = let z = scan-there c.args.head.now c.args.body.now c.args.depth _ _ (head-count c.args.head.now c.requires.0.heading) (ap polarity c.operator_of-tag.ensures) c.args.work.now _ _ c.in_ok-s.ensures.scan_told in let k = took c.args.depth c.requires.1.some c.requires.1.most c.args.head.now c.args.body.now _ c.requires.0 c.args.work.now _ _ z c.if-s-body.false _ c.in-Some.is in let x = part_in c.args.depth c.requires.1.some c.requires.1.most c.args.head.now c.args.body.now _ c.requires.0 c.args.work.now _ _ z c.if-s-body.false _ _ _ k in let y = x.0 in let w = x.1 in omega arith

pub slice_bounds-place-end : goal.slice_bounds-place-end
slice_bounds-place-end c = let z = scan-there c.args.head.now c.args.body.now c.args.depth _ _ (head-count c.args.head.now c.requires.0.heading) (ap polarity c.operator_of-tag.ensures) c.args.work.now _ _ c.in_ok-s.ensures.scan_told in let k = took c.args.depth c.requires.1.some c.requires.1.most c.args.head.now c.args.body.now _ c.requires.0 c.args.work.now _ _ z c.if-s-body.false _ c.in-Some.is in let x = part_in c.args.depth c.requires.1.some c.requires.1.most c.args.head.now c.args.body.now _ c.requires.0 c.args.work.now _ _ z c.if-s-body.false _ _ _ k in let y = x.0 in let w = x.1 in omega arith

pub slice_bounds-place-end-2 : goal.slice_bounds-place-end-2
slice_bounds-place-end-2 c = let z = scan-there c.args.head.now c.args.body.now c.args.depth _ _ (head-count c.args.head.now c.requires.0.heading) (ap polarity c.operator_of-tag.ensures) c.args.work.now _ _ c.in_ok-s.ensures.scan_told in let k = took c.args.depth c.requires.1.some c.requires.1.most c.args.head.now c.args.body.now _ c.requires.0 c.args.work.now _ _ z c.if-s-body.false _ c.in-Some.is in let s = stop-low c.args.depth c.requires.1.some c.requires.1.most c.args.head.now c.args.body.now _ c.requires.0 c.args.work.now _ _ z c.if-s-body.false _ _ _ k _ _ c.rest_end-stop.ensures.value (rest-there c.args.head.now _ c.in_ok-s.s.end _ c.scan_pred.new.out c.operator_of-tag.ensures c.rest_end-stop.ensures.work_after) in omega arith

pub slice_bounds-place-end-3 : goal.slice_bounds-place-end-3
slice_bounds-place-end-3 c = sym (length-take-le _ _ (let z = scan-there c.args.head.now c.args.body.now c.args.depth _ _ (head-count c.args.head.now c.requires.0.heading) (ap polarity c.operator_of-tag.ensures) c.args.work.now _ _ c.in_ok-s.ensures.scan_told in let k = took c.args.depth c.requires.1.some c.requires.1.most c.args.head.now c.args.body.now _ c.requires.0 c.args.work.now _ _ z c.if-s-body.false _ c.in-Some.is in let s = stop-low c.args.depth c.requires.1.some c.requires.1.most c.args.head.now c.args.body.now _ c.requires.0 c.args.work.now _ _ z c.if-s-body.false _ _ _ k _ _ c.rest_end-stop.ensures.value (rest-there c.args.head.now _ c.in_ok-s.s.end _ c.scan_pred.new.out c.operator_of-tag.ensures c.rest_end-stop.ensures.work_after) in let h : c.rest_end-stop.result ≤ length c.rest_end-stop.new.work = omega arith in h))

pub slice_bounds-place-end-4 : goal.slice_bounds-place-end-4
slice_bounds-place-end-4 c = let z = scan-there c.args.head.now c.args.body.now c.args.depth _ _ (head-count c.args.head.now c.requires.0.heading) (ap polarity c.operator_of-tag.ensures) c.args.work.now _ _ c.in_ok-s.ensures.scan_told in let k = took c.args.depth c.requires.1.some c.requires.1.most c.args.head.now c.args.body.now _ c.requires.0 c.args.work.now _ _ z c.if-s-body.false _ c.in-Some.is in let s = stop-fits c.args.depth c.requires.1.some c.requires.1.most c.args.head.now c.args.body.now _ c.requires.0 c.args.work.now _ _ z c.if-s-body.false _ _ _ k _ _ c.rest_end-stop.ensures.value (rest-there c.args.head.now _ c.in_ok-s.s.end _ c.scan_pred.new.out c.operator_of-tag.ensures c.rest_end-stop.ensures.work_after) c.args.marks.now _ c.requires.1 (marks-there c.args.head.now c.args.body.now c.args.depth _ _ (head-count c.args.head.now c.requires.0.heading) (ap polarity c.operator_of-tag.ensures) c.args.marks.now _ c.in_ok-s.ensures.scan_marks) in omega arith

pub slice_bounds-place-end-5 : goal.slice_bounds-place-end-5
slice_bounds-place-end-5 c = sym (length-take-le _ _ (let z = scan-there c.args.head.now c.args.body.now c.args.depth _ _ (head-count c.args.head.now c.requires.0.heading) (ap polarity c.operator_of-tag.ensures) c.args.work.now _ _ c.in_ok-s.ensures.scan_told in let k = took c.args.depth c.requires.1.some c.requires.1.most c.args.head.now c.args.body.now _ c.requires.0 c.args.work.now _ _ z c.if-s-body.false _ c.in-Some.is in let s = stop-fits c.args.depth c.requires.1.some c.requires.1.most c.args.head.now c.args.body.now _ c.requires.0 c.args.work.now _ _ z c.if-s-body.false _ _ _ k _ _ c.rest_end-stop.ensures.value (rest-there c.args.head.now _ c.in_ok-s.s.end _ c.scan_pred.new.out c.operator_of-tag.ensures c.rest_end-stop.ensures.work_after) c.args.marks.now _ c.requires.1 (marks-there c.args.head.now c.args.body.now c.args.depth _ _ (head-count c.args.head.now c.requires.0.heading) (ap polarity c.operator_of-tag.ensures) c.args.marks.now _ c.in_ok-s.ensures.scan_marks) in let h : c.rest_end-stop.result ≤ length c.scan_pred.new.marks = omega arith in h))

pub place-requires : goal.place-requires
place-requires c = let z = scan-there c.args.head.now c.args.body.now c.args.depth _ _ (head-count c.args.head.now c.requires.0.heading) (ap polarity c.operator_of-tag.ensures) c.args.work.now _ _ c.in_ok-s.ensures.scan_told in let k = took c.args.depth c.requires.1.some c.requires.1.most c.args.head.now c.args.body.now _ c.requires.0 c.args.work.now _ _ z c.if-s-body.false _ c.in-Some.is in let x = part_in c.args.depth c.requires.1.some c.requires.1.most c.args.head.now c.args.body.now _ c.requires.0 c.args.work.now _ _ z c.if-s-body.false _ _ _ k in (placing c.args.depth c.requires.1.some c.requires.1.most c.args.head.now c.args.body.now _ c.requires.0 c.args.work.now _ _ z c.if-s-body.false _ _ _ k _ _ c.rest_end-stop.ensures.value (rest-there c.args.head.now _ c.in_ok-s.s.end _ c.scan_pred.new.out c.operator_of-tag.ensures c.rest_end-stop.ensures.work_after), part-cleared c.args.body.now _ _ c.args.part_marks.now c.requires.2 x.1, rest-marking c.args.depth c.requires.1.some c.requires.1.most c.args.head.now c.args.body.now _ c.requires.0 c.args.work.now _ _ z c.if-s-body.false _ _ _ k _ _ c.rest_end-stop.ensures.value (rest-there c.args.head.now _ c.in_ok-s.s.end _ c.scan_pred.new.out c.operator_of-tag.ensures c.rest_end-stop.ensures.work_after) c.args.marks.now _ c.requires.1 (marks-there c.args.head.now c.args.body.now c.args.depth _ _ (head-count c.args.head.now c.requires.0.heading) (ap polarity c.operator_of-tag.ensures) c.args.marks.now _ c.in_ok-s.ensures.scan_marks), shallow c.args.depth c.requires.1.some c.requires.1.most c.args.head.now c.args.body.now _ c.requires.0 c.args.work.now _ _ z c.if-s-body.false _ _ _ k _ _ c.rest_end-stop.ensures.value (rest-there c.args.head.now _ c.in_ok-s.s.end _ c.scan_pred.new.out c.operator_of-tag.ensures c.rest_end-stop.ensures.work_after))
