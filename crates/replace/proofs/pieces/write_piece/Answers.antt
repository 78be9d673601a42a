use native.Mathlib.Omega.{arith}
use lib.ListN.{length, length-set}
use Rattle.shift.specs.Internal.Items.{store}
use Rattle.replace.specs.Internal.Pieces.{part, piece_words}
use Rattle.replace.proofs.PieceLaws.{same_size, index-size, part-size, part-fits, part_length}
use Rattle.replace.proofs.pieces.write_piece.Goals as goal

pub put_item-requires : goal.put_item-requires
put_item-requires c = let z = same_size c.args.it c.in-Same.is in omega arith

pub bounds-out-at : goal.bounds-out-at
bounds-out-at c = let z = index-size c.args.it c.in-Index.is in omega arith

pub bounds-out-at-in-Index : goal.bounds-out-at-in-Index
bounds-out-at-in-Index c = let l = length-set c.args.out.now c.args.at 2 in let z = index-size c.args.it c.in-Index.is in omega arith

pub offset_bounds-list-s : goal.offset_bounds-list-s
offset_bounds-list-s c = let h = part-fits (length c.args.list.now) c.requires.fits c.in-Part.is in let a = h.0 in let b = h.1 in omega arith

pub slice_bounds-write_part-count : goal.slice_bounds-write_part-count
slice_bounds-write_part-count c = let h = part-fits (length c.args.list.now) c.requires.fits c.in-Part.is in let a = h.0 in let b = h.1 in omega arith

pub slice_bounds-write_part-start : goal.slice_bounds-write_part-start
slice_bounds-write_part-start c = let h = part-fits (length c.args.list.now) c.requires.fits c.in-Part.is in let a = h.0 in let b = h.1 in omega arith

pub slice_bounds-write_part-end : goal.slice_bounds-write_part-end
slice_bounds-write_part-end c = let h = part-fits (length c.args.list.now) c.requires.fits c.in-Part.is in let a = h.0 in let b = h.1 in omega arith

pub offset_bounds-list_marks-s : goal.offset_bounds-list_marks-s
offset_bounds-list_marks-s c = let h = part-fits (length c.args.list.now) c.requires.fits c.in-Part.is in let a = h.0 in let b = h.1 in omega arith

pub slice_bounds-write_part-count-in-Part : goal.slice_bounds-write_part-count-in-Part
slice_bounds-write_part-count-in-Part c = let h = part-fits (length c.args.list.now) c.requires.fits c.in-Part.is in let a = h.0 in let b = h.1 in omega arith

pub slice_bounds-write_part-start-in-Part : goal.slice_bounds-write_part-start-in-Part
slice_bounds-write_part-start-in-Part c = let h = part-fits (length c.args.list.now) c.requires.fits c.in-Part.is in let a = h.0 in let b = h.1 in omega arith

pub slice_bounds-write_part-end-in-Part : goal.slice_bounds-write_part-end-in-Part
slice_bounds-write_part-end-in-Part c = let h = part-fits (length c.args.list.now) c.requires.fits c.in-Part.is in let a = h.0 in let b = h.1 in omega arith

pub write_part-requires : goal.write_part-requires
unfolding part
write_part-requires c = let h = part-fits (length c.args.list.now) c.requires.fits c.in-Part.is in let a = h.0 in let b = h.1 in let l = part_length _ _ c.args.list.now a b in let z = part-size c.args.it c.in-Part.is in omega arith

pub returns-in-Same : goal.returns-in-Same
unfolding piece_words
returns-in-Same c = rw c.in-Same.is c.put_item.ensures

pub returns-in-Index : goal.returns-in-Index
unfolding piece_words store
returns-in-Index c = rw c.in-Index.is

pub returns-in-Part : goal.returns-in-Part
unfolding piece_words part
returns-in-Part c = rw c.in-Part.is c.write_part.ensures
