use mathlib.Core.Path.{sym}
use native.Mathlib.Omega.{arith}
use lib.Seq.{length-take-le}
use Rattle.one_point.proofs.JoinedRows.{inner-two, inner_start, inner-short}
use Rattle.one_point.proofs.joined.put_inner.Goals as goal

pub bounds-body-1 : goal.bounds-body-1
bounds-body-1 c = let h = inner-two c.args.head.now c.args.row.now c.args.part.now c.args.part_marks.now c.args.body.now c.args.marks.now c.requires.0 c.requires.1 in omega arith

pub slice_bounds-raised-count : goal.slice_bounds-raised-count
slice_bounds-raised-count c = let s = inner_start c.args.head.now c.args.row.now c.args.part.now c.args.part_marks.now c.args.body.now c.args.marks.now c.requires.0 c.requires.1 _ c.body_start-from.ensures in omega arith

pub slice_bounds-raised-end : goal.slice_bounds-raised-end
slice_bounds-raised-end c = inner-short c.args.head.now c.args.row.now c.args.part.now c.args.part_marks.now c.args.body.now c.args.marks.now c.requires.0 c.requires.1 _ c.body_start-from.ensures

pub slice_bounds-put_raised-length : goal.slice_bounds-put_raised-length
slice_bounds-put_raised-length c = sym (length-take-le _ _ (inner-short c.args.head.now c.args.row.now c.args.part.now c.args.part_marks.now c.args.body.now c.args.marks.now c.requires.0 c.requires.1 _ c.body_start-from.ensures))

pub put_raised-requires : goal.put_raised-requires
put_raised-requires c = (c.requires.0, c.requires.1, c.body_start-from.ensures, length-take-le _ _ (inner-short c.args.head.now c.args.row.now c.args.part.now c.args.part_marks.now c.args.body.now c.args.marks.now c.requires.0 c.requires.1 _ c.body_start-from.ensures))
