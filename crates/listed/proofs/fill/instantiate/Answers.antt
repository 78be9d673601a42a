-- the places that the answers speak of, each from one after it
-- where the row was read: both limits hold, and it is a form
-- behind all refusals there are at most 32 declarations
use Rattle.replace.specs.Internal.Pieces.{has_form}
use Rattle.form.specs.Break.{break_at}
use Rattle.form.specs.Decode.{form_of}
use mathlib.Core.Path.{refl}
use Prim.Native.Nat.{◌≤◌}
use native.Mathlib.Omega.{arith}
use lib.ListN.{length, take}
use Rattle.reader.specs.Internal.Reads.{empty_table}
use Rattle.reader.proofs.TableLaws.{listing-no}
use Rattle.shift.proofs.CheckedLaws.{Checked, refused, passed}
use Rattle.listed.proofs.CallLaws.{refused-by, refused-at}
use Rattle.replace.proofs.MarkLaws.{listing-kept}
use Rattle.listed.proofs.ShallowLaws.{reading-missing, reading-checked, reading-shallow}
use Rattle.replace.proofs.SmallLaws.{leaves_by}
use Rattle.form.specs.declared.answer.Kind.TheVariants.{Predicate}
use Rattle.form.specs.declared.answer.ListKind.TheVariants.{Places}
use Rattle.listed.proofs.FillLaws.{fill-small, fill-long, fill-missing, fill-list-long, fill-no-list, fill-other, fill_more, placing, places-ready, fill-row}
use Rattle.decls.proofs.RowHeads.{the-quant, the-count, the-length}
use Rattle.tree.proofs.Pairs.{both}
use Rattle.listed.proofs.fill.instantiate.Goals as goal

pub returns-then-work-lt16384 : goal.returns-then-work-lt16384
returns-then-work-lt16384 c = both (λ v w. record { value = v; out_after = w }) (refused _ _ _ _ (fill-small c.args.list.now c.args.row.now _ _ c.if-work-lt16384.true) refl)

pub returns-then-row-gt-WORDS : goal.returns-then-row-gt-WORDS
returns-then-row-gt-WORDS c = both (λ v w. record { value = v; out_after = w }) (refused _ _ _ _ (fill-long c.args.list.now c.args.row.now _ _ c.if-work-lt16384.false c.if-row-gt-WORDS.true) refl)

pub returns-then-list-gt-WORDS : goal.returns-then-list-gt-WORDS
returns-then-list-gt-WORDS c = both (λ v w. record { value = v; out_after = w }) (refused-by _ (has_form (form_of Predicate c.args.row.now)) (break_at Predicate c.args.row.now) _ _
    (fill-list-long c.args.list.now c.args.row.now _ _ c.if-work-lt16384.false c.if-row-gt-WORDS.false c.if-list-gt-WORDS.true) c.list_refusal.ensures)

pub mark_row-requires : goal.mark_row-requires
mark_row-requires c = let left = leaves_by _ _ _ c.depth_left_by-depth.ensures in
    let h : 8192 ≤ length c.mark_entries-is_list.new.work = omega arith in
    record { depth_bound = left.most; in_bounds = h; row_len_bound = c.if-row-gt-WORDS.false }

pub returns-in_default : goal.returns-in_default
returns-in_default c = let left = leaves_by _ _ _ c.depth_left_by-depth.ensures in
    both (λ v w. record { value = v; out_after = w }) (refused-at _ _ _ _ (fill-missing c.args.list.now c.args.row.now _ _ c.if-work-lt16384.false c.if-row-gt-WORDS.false (reading-missing _ left.most _ _ _ c.mark_row.ensures.value c.in_default.is)) c.broken_at.ensures)

pub returns-then-not-is_list : goal.returns-then-not-is_list
returns-then-not-is_list c = let checked : Checked Predicate c.args.row.now (take (length c.args.row.now) c.mark_row.new.work) (length c.args.row.now) =
    let left = leaves_by _ _ _ c.depth_left_by-depth.ensures in
    reading-checked _ left.most Predicate c.args.row.now _ (length c.args.row.now) _ refl _ _ c.if-row-gt-WORDS.false c.mark_row.ensures.value c.in-Some.is c.mark_row.ensures.marked in
    both (λ v w. record { value = v; out_after = w }) (refused-at _ _ _ _ (fill-no-list c.args.list.now c.args.row.now _ _ c.if-work-lt16384.false _ checked c.if-list-gt-WORDS.false (listing-no _ _ _ _ _ _ (rw c.new-table.ensures at c.mark_entries-is_list.ensures) c.if-not-is_list.true)) c.broken_list.ensures)

pub returns-then-names-eq0 : goal.returns-then-names-eq0
unfolding empty_table
returns-then-names-eq0 c = let checked : Checked Predicate c.args.row.now (take (length c.args.row.now) c.mark_row.new.work) (length c.args.row.now) =
    let left = leaves_by _ _ _ c.depth_left_by-depth.ensures in
    reading-checked _ left.most Predicate c.args.row.now _ (length c.args.row.now) _ refl _ _ c.if-row-gt-WORDS.false c.mark_row.ensures.value c.in-Some.is c.mark_row.ensures.marked in
    both (λ v w. record { value = v; out_after = w }) (refused _ _ _ _ (fill-other c.args.list.now c.args.row.now _ _ c.if-work-lt16384.false _ checked c.if-list-gt-WORDS.false _ _ _ _ (rw c.new-table.ensures at c.mark_entries-is_list.ensures) c.if-not-is_list.false _ c.declared-names.ensures c.if-names-eq0.true) refl)

pub returns-then-n-table : goal.returns-then-n-table
unfolding empty_table
returns-then-n-table c = let checked : Checked Predicate c.args.row.now (take (length c.args.row.now) c.mark_row.new.work) (length c.args.row.now) =
    let left = leaves_by _ _ _ c.depth_left_by-depth.ensures in
    reading-checked _ left.most Predicate c.args.row.now _ (length c.args.row.now) _ refl _ _ c.if-row-gt-WORDS.false c.mark_row.ensures.value c.in-Some.is c.mark_row.ensures.marked in
    both (λ v w. record { value = v; out_after = w }) (refused _ _ _ _ (fill_more c.args.list.now c.args.row.now _ _ c.if-work-lt16384.false _ checked c.if-list-gt-WORDS.false _ _ _ _ (rw c.new-table.ensures at c.mark_entries-is_list.ensures) c.if-not-is_list.false _ c.declared-names.ensures c.if-names-eq0.false c.if-n-table.true) refl)

pub fill_marked-requires : goal.fill_marked-requires
unfolding empty_table
fill_marked-requires c = let checked : Checked Predicate c.args.row.now (take (length c.args.row.now) c.mark_row.new.work) (length c.args.row.now) =
    let left = leaves_by _ _ _ c.depth_left_by-depth.ensures in
    reading-checked _ left.most Predicate c.args.row.now _ (length c.args.row.now) _ refl _ _ c.if-row-gt-WORDS.false c.mark_row.ensures.value c.in-Some.is c.mark_row.ensures.marked in
    let few : c.declared-names.result ≤ 32 =
    let q = the-quant _ _ _ checked _ c.declared-names.ensures c.if-names-eq0.false in
    let m = q.most in
    let n = the-count _ _ _ checked _ c.declared-names.ensures q in
    omega arith in
    let work = c.mark_row.new.work in
    let y = placing c.args.list.now work _ _ _ (listing-kept Places c.args.list.now c.mark_entries-is_list.new.work work _ _ _ c.mark_row.ensures.work_unchanged (rw c.new-table.ensures at c.mark_entries-is_list.ensures)) c.if-not-is_list.false c.if-n-table.false in
    let q = the-quant _ _ _ checked _ c.declared-names.ensures c.if-names-eq0.false in
    let n = the-count _ _ _ checked _ c.declared-names.ensures q in
    let g = the-length _ _ _ checked q in
    let r = checked.short in
    let u = c.mark_row.auto.work in
    let v = c.mark_entries-is_list.auto.work in
    let w = c.if-work-lt16384.false in
    let z = c.if-list-gt-WORDS.false in
    let h : 8192 ≤ length work = omega arith in
    record { in_bounds = h; ready = places-ready c.args.list.now _ work _ y few (omega arith); n_in_bounds = omega arith }

pub returns : goal.returns
unfolding empty_table
returns c = let checked : Checked Predicate c.args.row.now (take (length c.args.row.now) c.mark_row.new.work) (length c.args.row.now) =
    let left = leaves_by _ _ _ c.depth_left_by-depth.ensures in
    reading-checked _ left.most Predicate c.args.row.now _ (length c.args.row.now) _ refl _ _ c.if-row-gt-WORDS.false c.mark_row.ensures.value c.in-Some.is c.mark_row.ensures.marked in
    let few : c.declared-names.result ≤ 32 =
    let q = the-quant _ _ _ checked _ c.declared-names.ensures c.if-names-eq0.false in
    let m = q.most in
    let n = the-count _ _ _ checked _ c.declared-names.ensures q in
    omega arith in
    let work = c.mark_row.new.work in
    let y = placing c.args.list.now work _ _ _ (listing-kept Places c.args.list.now c.mark_entries-is_list.new.work work _ _ _ c.mark_row.ensures.work_unchanged (rw c.new-table.ensures at c.mark_entries-is_list.ensures)) c.if-not-is_list.false c.if-n-table.false in
    let left = leaves_by _ _ _ c.depth_left_by-depth.ensures in
    both (λ v w. record { value = v; out_after = w }) (passed _ _ _ _ _
    (fill-row c.args.list.now _ work _ y few c.args.row.now _ _ c.if-work-lt16384.false c.if-list-gt-WORDS.false c.if-row-gt-WORDS.false checked c.declared-names.ensures c.if-names-eq0.false _ left _
    (reading-shallow _ left.most _ _ _ _ checked _ _ c.mark_row.ensures.value c.in-Some.is)) (c.fill_marked.ensures.value, c.fill_marked.ensures.out_after))
