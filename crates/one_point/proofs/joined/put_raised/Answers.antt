use native.Mathlib.Omega.{arith}
use Rattle.shift.proofs.CheckedLaws.{passed}
use Rattle.one_point.proofs.HeadedLaws.{ones-ready}
use Rattle.one_point.proofs.JoinedRows.{inner_start, inner-low, inner-marked, inner-few, marks-can, how-apart, how-unused, how-used}
use Rattle.tree.proofs.Pairs.{both}
use Rattle.one_point.proofs.joined.put_raised.Goals as goal

pub returns-in-Apart : goal.returns-in-Apart
returns-in-Apart c = both (λ v w. record { value = v; out_after = w }) (passed _ _ _ _ _ (how-apart c.args.head.now c.args.row.now c.args.part.now c.args.part_marks.now c.args.body.now c.args.marks.now c.requires.0 c.requires.1 c.args.from c.requires.2 c.args.raised.now _ c.requires.3 c.put_words.ensures _ c.raise.ensures _ c.how_joined-how.ensures c.in-Apart.is _) (c.put_kept.ensures.value, c.put_kept.ensures.out_after))

pub returns-in-Unused : goal.returns-in-Unused
returns-in-Unused c = both (λ v w. record { value = v; out_after = w }) (passed _ _ _ _ _ (how-unused c.args.head.now c.args.row.now c.args.part.now c.args.part_marks.now c.args.body.now c.args.marks.now c.requires.0 c.requires.1 c.args.from c.requires.2 c.args.raised.now _ c.requires.3 c.put_words.ensures _ c.raise.ensures _ c.how_joined-how.ensures c.in-Unused.is _) (c.put_free.ensures.value, c.put_free.ensures.out_after))

pub returns-in-Used : goal.returns-in-Used
returns-in-Used c = both (λ v w. record { value = v; out_after = w }) (passed _ _ _ _ _ (how-used c.args.head.now c.args.row.now c.args.part.now c.args.part_marks.now c.args.body.now c.args.marks.now c.requires.0 c.requires.1 c.args.from c.requires.2 c.args.raised.now _ c.requires.3 c.put_words.ensures _ c.raise.ensures _ c.how_joined-how.ensures c.in-Used.is _) (c.put_joined.ensures.value, c.put_joined.ensures.out_after))

pub slice_bounds-put_words-count : goal.slice_bounds-put_words-count
slice_bounds-put_words-count c = let s = inner_start c.args.head.now c.args.row.now c.args.part.now c.args.part_marks.now c.args.body.now c.args.marks.now c.requires.0 c.requires.1 c.args.from c.requires.2 in let l = inner-low c.args.head.now c.args.row.now c.args.part.now c.args.part_marks.now c.args.body.now c.args.marks.now c.requires.0 c.requires.1 c.args.from c.requires.2 in let m = inner-marked c.args.head.now c.args.row.now c.args.part.now c.args.part_marks.now c.args.body.now c.args.marks.now c.requires.0 c.requires.1 c.args.from c.requires.2 in omega arith

pub slice_bounds-put_words-start : goal.slice_bounds-put_words-start
slice_bounds-put_words-start c = let s = inner_start c.args.head.now c.args.row.now c.args.part.now c.args.part_marks.now c.args.body.now c.args.marks.now c.requires.0 c.requires.1 c.args.from c.requires.2 in let l = inner-low c.args.head.now c.args.row.now c.args.part.now c.args.part_marks.now c.args.body.now c.args.marks.now c.requires.0 c.requires.1 c.args.from c.requires.2 in let m = inner-marked c.args.head.now c.args.row.now c.args.part.now c.args.part_marks.now c.args.body.now c.args.marks.now c.requires.0 c.requires.1 c.args.from c.requires.2 in omega arith

pub slice_bounds-put_words-end : goal.slice_bounds-put_words-end
slice_bounds-put_words-end c = let s = inner_start c.args.head.now c.args.row.now c.args.part.now c.args.part_marks.now c.args.body.now c.args.marks.now c.requires.0 c.requires.1 c.args.from c.requires.2 in let l = inner-low c.args.head.now c.args.row.now c.args.part.now c.args.part_marks.now c.args.body.now c.args.marks.now c.requires.0 c.requires.1 c.args.from c.requires.2 in let m = inner-marked c.args.head.now c.args.row.now c.args.part.now c.args.part_marks.now c.args.body.now c.args.marks.now c.requires.0 c.requires.1 c.args.from c.requires.2 in omega arith

pub raise-requires : goal.raise-requires
raise-requires c = marks-can c.args.head.now c.args.row.now c.args.part.now c.args.part_marks.now c.args.body.now c.args.marks.now c.requires.0 c.requires.1 c.args.from c.requires.2 c.args.raised.now _ c.requires.3 c.put_words.ensures

pub slice_bounds-how_joined-count : goal.slice_bounds-how_joined-count
slice_bounds-how_joined-count c = let s = inner_start c.args.head.now c.args.row.now c.args.part.now c.args.part_marks.now c.args.body.now c.args.marks.now c.requires.0 c.requires.1 c.args.from c.requires.2 in let l = inner-low c.args.head.now c.args.row.now c.args.part.now c.args.part_marks.now c.args.body.now c.args.marks.now c.requires.0 c.requires.1 c.args.from c.requires.2 in let m = inner-marked c.args.head.now c.args.row.now c.args.part.now c.args.part_marks.now c.args.body.now c.args.marks.now c.requires.0 c.requires.1 c.args.from c.requires.2 in omega arith

pub slice_bounds-how_joined-start : goal.slice_bounds-how_joined-start
slice_bounds-how_joined-start c = let s = inner_start c.args.head.now c.args.row.now c.args.part.now c.args.part_marks.now c.args.body.now c.args.marks.now c.requires.0 c.requires.1 c.args.from c.requires.2 in let l = inner-low c.args.head.now c.args.row.now c.args.part.now c.args.part_marks.now c.args.body.now c.args.marks.now c.requires.0 c.requires.1 c.args.from c.requires.2 in let m = inner-marked c.args.head.now c.args.row.now c.args.part.now c.args.part_marks.now c.args.body.now c.args.marks.now c.requires.0 c.requires.1 c.args.from c.requires.2 in omega arith

pub slice_bounds-how_joined-end : goal.slice_bounds-how_joined-end
slice_bounds-how_joined-end c = let s = inner_start c.args.head.now c.args.row.now c.args.part.now c.args.part_marks.now c.args.body.now c.args.marks.now c.requires.0 c.requires.1 c.args.from c.requires.2 in let l = inner-low c.args.head.now c.args.row.now c.args.part.now c.args.part_marks.now c.args.body.now c.args.marks.now c.requires.0 c.requires.1 c.args.from c.requires.2 in let m = inner-marked c.args.head.now c.args.row.now c.args.part.now c.args.part_marks.now c.args.body.now c.args.marks.now c.requires.0 c.requires.1 c.args.from c.requires.2 in omega arith

pub how_joined-how-requires : goal.how_joined-how-requires
how_joined-how-requires c = ones-ready c.args.head.now c.requires.0.putting.placing.heading

pub put_free-requires : goal.put_free-requires
put_free-requires c = let s = inner_start c.args.head.now c.args.row.now c.args.part.now c.args.part_marks.now c.args.body.now c.args.marks.now c.requires.0 c.requires.1 c.args.from c.requires.2 in let l = inner-low c.args.head.now c.args.row.now c.args.part.now c.args.part_marks.now c.args.body.now c.args.marks.now c.requires.0 c.requires.1 c.args.from c.requires.2 in let m = inner-marked c.args.head.now c.args.row.now c.args.part.now c.args.part_marks.now c.args.body.now c.args.marks.now c.requires.0 c.requires.1 c.args.from c.requires.2 in (c.requires.0.putting.placing.heading, c.requires.0.flags, inner-few c.args.head.now c.args.row.now c.args.part.now c.args.part_marks.now c.args.body.now c.args.marks.now c.requires.0 c.requires.1, omega arith, l)

pub put_joined-requires : goal.put_joined-requires
put_joined-requires c = let s = inner_start c.args.head.now c.args.row.now c.args.part.now c.args.part_marks.now c.args.body.now c.args.marks.now c.requires.0 c.requires.1 c.args.from c.requires.2 in let l = inner-low c.args.head.now c.args.row.now c.args.part.now c.args.part_marks.now c.args.body.now c.args.marks.now c.requires.0 c.requires.1 c.args.from c.requires.2 in let m = inner-marked c.args.head.now c.args.row.now c.args.part.now c.args.part_marks.now c.args.body.now c.args.marks.now c.requires.0 c.requires.1 c.args.from c.requires.2 in (c.requires.0.putting.placing.heading, c.requires.0.flags, inner-few c.args.head.now c.args.row.now c.args.part.now c.args.part_marks.now c.args.body.now c.args.marks.now c.requires.0 c.requires.1, omega arith, l, c.requires.0.putting.marking.enough)
