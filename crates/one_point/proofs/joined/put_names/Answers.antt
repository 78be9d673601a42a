use mathlib.Core.Path.{refl, sym}
use native.Mathlib.Omega.{arith}
use lib.Seq.{length-take-le}
use Rattle.shift.proofs.CheckedLaws.{passed}
use Rattle.one_point.proofs.HeadedLaws.{head-most}
use Rattle.one_point.proofs.NotedRows.{names_in, names-most, names-required, end_fits, names-under}
use Rattle.tree.proofs.Pairs.{both}
use Rattle.one_point.proofs.joined.put_names.Goals as goal

pub returns : goal.returns
returns c = both (λ v w. record { value = v; out_after = w }) (passed _ _ _ _ _ (names-under c.args.head.now c.args.row.now c.args.part.now c.args.part_marks.now c.args.body.now c.args.marks.now c.requires.0 c.requires.1 _ c.operator_of.ensures _ _ c.write_noted-h.auto.head c.write_noted-h.ensures.upper_bound c.write_noted-h.ensures.head_after _ _ c.add_names-end.ensures.value c.add_names-end.ensures.head_after _ refl _) (c.put_under.ensures.value, c.put_under.ensures.out_after))

pub bounds-body-1 : goal.bounds-body-1
bounds-body-1 c = let h = names_in c.args.head.now c.args.row.now c.args.part.now c.args.part_marks.now c.args.body.now c.args.marks.now c.requires.0 c.requires.1 in let k = names-most c.args.head.now c.args.row.now c.args.part.now c.args.part_marks.now c.args.body.now c.args.marks.now c.requires.0 c.requires.1 in let m = head-most c.args.head.now c.requires.0.putting.placing.heading in omega arith

pub slice_bounds-add_names-end : goal.slice_bounds-add_names-end
slice_bounds-add_names-end c = let h = names_in c.args.head.now c.args.row.now c.args.part.now c.args.part_marks.now c.args.body.now c.args.marks.now c.requires.0 c.requires.1 in let k = names-most c.args.head.now c.args.row.now c.args.part.now c.args.part_marks.now c.args.body.now c.args.marks.now c.requires.0 c.requires.1 in let m = head-most c.args.head.now c.requires.0.putting.placing.heading in omega arith

pub add_names-end-requires : goal.add_names-end-requires
add_names-end-requires c = names-required c.args.head.now c.args.row.now c.args.part.now c.args.part_marks.now c.args.body.now c.args.marks.now c.requires.0 c.requires.1 _ c.operator_of.ensures _ _ c.write_noted-h.auto.head c.write_noted-h.ensures.upper_bound c.write_noted-h.ensures.head_after

pub bounds-body-1-2 : goal.bounds-body-1-2
bounds-body-1-2 c = let h = names_in c.args.head.now c.args.row.now c.args.part.now c.args.part_marks.now c.args.body.now c.args.marks.now c.requires.0 c.requires.1 in let k = names-most c.args.head.now c.args.row.now c.args.part.now c.args.part_marks.now c.args.body.now c.args.marks.now c.requires.0 c.requires.1 in let m = head-most c.args.head.now c.requires.0.putting.placing.heading in omega arith

pub slice_bounds-joined-end : goal.slice_bounds-joined-end
slice_bounds-joined-end c = end_fits c.args.head.now c.args.row.now c.args.part.now c.args.part_marks.now c.args.body.now c.args.marks.now c.requires.0 c.requires.1 _ c.operator_of.ensures _ _ c.write_noted-h.auto.head c.write_noted-h.ensures.upper_bound c.write_noted-h.ensures.head_after _ _ c.add_names-end.ensures.value c.add_names-end.ensures.head_after _

pub slice_bounds-put_under-end : goal.slice_bounds-put_under-end
slice_bounds-put_under-end c = sym (length-take-le _ _ (end_fits c.args.head.now c.args.row.now c.args.part.now c.args.part_marks.now c.args.body.now c.args.marks.now c.requires.0 c.requires.1 _ c.operator_of.ensures _ _ c.write_noted-h.auto.head c.write_noted-h.ensures.upper_bound c.write_noted-h.ensures.head_after _ _ c.add_names-end.ensures.value c.add_names-end.ensures.head_after _))
