use Rattle.std.proofs.Common.{length, refl, le-leb}
use borrow.Author.Tests.{lt-leb}
use Rattle.shift.specs.Internal.Items.{shift_words}
use Rattle.shift.proofs.ItemLaws.{not_yes, not-no}
use Rattle.shift.proofs.CheckedLaws.{refused}
use Rattle.shift.proofs.SameLengthLaws.{fails, no_room, answers}
use Rattle.shift.proofs.WordwiseLaws.{wordwise-length}
use Rattle.tree.proofs.Pairs.{both}
use Rattle.shift.proofs.shift.shift_marked.Goals as goal

pub returns-then-marks-row : goal.returns-then-marks-row
unfolding shift_words
returns-then-marks-row c = rw (lt-leb (length c.args.row.now) (length c.args.marks.now) c.if-marks-row.true) (record { value = refl; out_after = refl })

pub returns-then-not-all_in : goal.returns-then-not-all_in
unfolding shift_words
returns-then-not-all_in c = both (λ v w. record { value = v; out_after = w }) (rw (le-leb (length c.args.row.now) (length c.args.marks.now) c.if-marks-row.false) (refused _ _ _ _ (fails _ _ _ _ _ c.args.out.now _ (rw c.top_of.ensures at c.all_in.ensures) (not_yes _ c.if-not-all_in.true-raw)) c.low_or_high.ensures))

pub returns-then-out-row : goal.returns-then-out-row
unfolding shift_words
returns-then-out-row c = both (λ v w. record { value = v; out_after = w }) (rw (le-leb (length c.args.row.now) (length c.args.marks.now) c.if-marks-row.false) (refused _ _ _ _ (no_room _ _ _ _ _ c.args.out.now _ (rw c.top_of.ensures at c.all_in.ensures) (not-no _ c.if-not-all_in.false-raw) c.if-out-row.true) refl))

pub write_moved-requires : goal.write_moved-requires
write_moved-requires c = record { row_in_bounds = c.if-marks-row.false; row_in_bounds_2 = c.if-out-row.false }

pub returns : goal.returns
unfolding shift_words
returns c = both (λ v w. record { value = v; out_after = w }) (rw (le-leb (length c.args.row.now) (length c.args.marks.now) c.if-marks-row.false) (answers _ _ _ _ _ c.args.out.now _ (rw c.top_of.ensures at c.all_in.ensures) (not-no _ c.if-not-all_in.false-raw) (wordwise-length _ _ _ c.args.row.now c.args.marks.now) c.if-out-row.false _ c.write_moved.ensures))
