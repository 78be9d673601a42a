use Rattle.replace.specs.Internal.Pieces.{has_form}
use Rattle.form.specs.Break.{break_at}
use Rattle.form.specs.Decode.{form_of}
use mathlib.Core.Path.{refl}
use Prim.Native.Nat.{◌≤◌}
use native.Mathlib.Omega.{arith}
use lib.ListN.{length}
use Rattle.reader.specs.Internal.Reads.{empty_table}
use Rattle.reader.proofs.TableLaws.{listing-no}
use Rattle.shift.proofs.CheckedLaws.{refused, passed}
use Rattle.listed.proofs.CallLaws.{refused-by, refused-at}
use Rattle.replace.proofs.MarkLaws.{listing-kept}
use Rattle.listed.proofs.ShallowLaws.{reading-missing, reading-checked, reading-shallow}
use Rattle.replace.proofs.SmallLaws.{leaves_by}
use Rattle.form.specs.declared.answer.Kind.TheVariants.{Either}
use Rattle.form.specs.declared.answer.ListKind.TheVariants.{Pairs}
use Rattle.listed.proofs.FreeLaws.{free-small, free-long, free-missing, free-list-long, free-no-list, free-bad, pairing, pairs-ready, free-row}
use Rattle.tree.proofs.Pairs.{both}
use Rattle.listed.proofs.free.substitute_free_idents.Goals as goal

pub returns-then-work-lt16384 : goal.returns-then-work-lt16384
returns-then-work-lt16384 c = both (λ v w. record { value = v; out_after = w }) (refused _ _ _ _ (free-small c.args.list.now c.args.row.now _ _ c.if-work-lt16384.true) refl)

pub returns-then-row-gt-WORDS : goal.returns-then-row-gt-WORDS
returns-then-row-gt-WORDS c = both (λ v w. record { value = v; out_after = w }) (refused _ _ _ _ (free-long c.args.list.now c.args.row.now _ _ c.if-work-lt16384.false c.if-row-gt-WORDS.true) refl)

pub returns-then-list-gt-WORDS : goal.returns-then-list-gt-WORDS
returns-then-list-gt-WORDS c = both (λ v w. record { value = v; out_after = w }) (refused-by _ (has_form (form_of Either c.args.row.now)) (break_at Either c.args.row.now) _ _ (free-list-long c.args.list.now c.args.row.now _ _ c.if-work-lt16384.false c.if-row-gt-WORDS.false c.if-list-gt-WORDS.true) c.list_refusal.ensures)

pub mark_row-requires : goal.mark_row-requires
mark_row-requires c = let left = leaves_by _ _ _ c.depth_left_by-depth.ensures in let h : 8192 ≤ length c.mark_entries-is_list.new.work = omega arith in record { depth_bound = left.most; in_bounds = h; row_len_bound = c.if-row-gt-WORDS.false }

pub returns-in_default : goal.returns-in_default
returns-in_default c = let left = leaves_by _ _ _ c.depth_left_by-depth.ensures in both (λ v w. record { value = v; out_after = w }) (refused-at _ _ _ _ (free-missing c.args.list.now c.args.row.now _ _ c.if-work-lt16384.false c.if-row-gt-WORDS.false (reading-missing _ left.most _ _ _ c.mark_row.ensures.value c.in_default.is)) c.broken_at.ensures)

pub returns-then-not-is_list : goal.returns-then-not-is_list
returns-then-not-is_list c = let left = leaves_by _ _ _ c.depth_left_by-depth.ensures in
    let x = reading-checked _ left.most Either c.args.row.now _ (length c.args.row.now) _ refl _ _ c.if-row-gt-WORDS.false c.mark_row.ensures.value c.in-Some.is c.mark_row.ensures.marked in
    both (λ v w. record { value = v; out_after = w }) (refused-at _ _ _ _ (free-no-list c.args.list.now c.args.row.now _ _ c.if-work-lt16384.false _ x c.if-list-gt-WORDS.false (listing-no _ _ _ _ _ _ (rw c.new-table.ensures at c.mark_entries-is_list.ensures) c.if-not-is_list.true)) c.broken_list.ensures)

pub returns-then-not-good_table : goal.returns-then-not-good_table
unfolding empty_table
returns-then-not-good_table c = let left = leaves_by _ _ _ c.depth_left_by-depth.ensures in
    let x = reading-checked _ left.most Either c.args.row.now _ (length c.args.row.now) _ refl _ _ c.if-row-gt-WORDS.false c.mark_row.ensures.value c.in-Some.is c.mark_row.ensures.marked in
    both (λ v w. record { value = v; out_after = w }) (refused _ _ _ _ (free-bad c.args.list.now c.args.row.now _ _ c.if-work-lt16384.false _ x c.if-list-gt-WORDS.false _ _ _ _ (rw c.new-table.ensures at c.mark_entries-is_list.ensures) c.if-not-is_list.false _ c.good_table.ensures c.if-not-good_table.true) refl)

pub substitute_marked-requires : goal.substitute_marked-requires
unfolding empty_table
substitute_marked-requires c = let y = pairing c.args.list.now c.mark_row.new.work _ _ (listing-kept Pairs c.args.list.now c.mark_entries-is_list.new.work c.mark_row.new.work _ _ _ c.mark_row.ensures.work_unchanged (rw c.new-table.ensures at c.mark_entries-is_list.ensures)) c.if-not-is_list.false _ c.good_table.ensures c.if-not-good_table.false in
    let h : 8192 ≤ length c.mark_row.new.work = omega arith in
    record { in_bounds = h; ready = pairs-ready c.args.list.now _ c.mark_row.new.work y (omega arith) }

pub returns : goal.returns
unfolding empty_table
returns c = let left = leaves_by _ _ _ c.depth_left_by-depth.ensures in
    let x = reading-checked _ left.most Either c.args.row.now _ (length c.args.row.now) _ refl _ _ c.if-row-gt-WORDS.false c.mark_row.ensures.value c.in-Some.is c.mark_row.ensures.marked in
    let y = pairing c.args.list.now c.mark_row.new.work _ _ (listing-kept Pairs c.args.list.now c.mark_entries-is_list.new.work c.mark_row.new.work _ _ _ c.mark_row.ensures.work_unchanged (rw c.new-table.ensures at c.mark_entries-is_list.ensures)) c.if-not-is_list.false _ c.good_table.ensures c.if-not-good_table.false in
    both (λ v w. record { value = v; out_after = w }) (passed _ _ _ _ _ (free-row c.args.list.now _ c.mark_row.new.work y c.args.row.now _ _ c.if-work-lt16384.false c.if-list-gt-WORDS.false x _ left _ (reading-shallow _ left.most _ _ _ _ x _ _ c.mark_row.ensures.value c.in-Some.is)) (c.substitute_marked.ensures.value, c.substitute_marked.ensures.out_after))
