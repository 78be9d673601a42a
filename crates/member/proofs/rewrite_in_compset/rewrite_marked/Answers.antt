use mathlib.Core.Path.{◌≡◌, sym}
use native.Mathlib.Omega.{arith}
use lib.ListN.{length}
use lib.Seq.{length-take-le}
use Rattle.std.specs.Prelude.{Some, None}
use Rattle.form.specs.declared.answer.Refusal.TheVariants.{NothingToRewrite}
use Rattle.shift.proofs.CheckedLaws.{refused-up, passed-on, passed}
use Rattle.places.proofs.PlacesLaws.{pred-row}
use Rattle.member.proofs.MemberLaws.{member-refused, row_read, member-other, set-of, member_is, membering}
use Rattle.tree.proofs.Pairs.{both}
use Rattle.member.proofs.rewrite_in_compset.rewrite_marked.Goals as goal

pub returns-in_err-mark : goal.returns-in_err-mark
returns-in_err-mark c = both (λ v w. record { value = v; out_after = w }) (refused-up _ _ _ _ (passed-on _ _ c.from_residual.ensures) (member-refused c.args.row.now (length c.args.work.now) (length c.args.out.now) c.requires.1 c.requires.0.short _ _ c.mark.ensures.value c.in_err-mark.was))

pub returns-in_err-set : goal.returns-in_err-set
returns-in_err-set c =
    let x = pred-row c.args.row.now _ _ c.requires.0.short c.mark.ensures.value c.in_ok-mark.was in
    let none : c.membership_of.result ≡ None = grind (arith, c.ok_or.ensures.value, c.in_err-set.was) in
    let e : c.in_err-set.field-0.0 ≡ NothingToRewrite = grind (arith, c.ok_or.ensures.value, c.in_err-set.was) in
    both (λ v w. record { value = v; out_after = w }) (refused-up _ _ _ _ (rw e at (passed-on _ _ c.from_residual-in_err-set.ensures)) (member-other c.args.row.now (length c.args.work.now) (length c.args.out.now) c.requires.1 c.requires.0.short x _ c.membership_of.ensures none))

pub returns : goal.returns
returns c =
    let x = pred-row c.args.row.now _ _ c.requires.0.short c.mark.ensures.value c.in_ok-mark.was in
    let some : c.membership_of.result ≡ Some c.in_ok-set.set = grind (arith, c.ok_or.ensures.value, c.in_ok-set.was) in
    let s = set-of c.args.row.now (length c.args.work.now) (length c.args.out.now) c.requires.1 c.requires.0.short x _ c.membership_of.ensures _ some in
    both (λ v w. record { value = v; out_after = w }) (passed _ _ _ _ _ (sym (member_is c.args.row.now (length c.args.work.now) (length c.args.out.now) c.requires.1 c.requires.0.short x _ c.membership_of.ensures _ some)) (c.rewrite_set.ensures.value s, c.rewrite_set.ensures.out_after s))

pub rewrite_set-requires : goal.rewrite_set-requires
rewrite_set-requires c =
    let x = pred-row c.args.row.now _ _ c.requires.0.short c.mark.ensures.value c.in_ok-mark.was in
    let some : c.membership_of.result ≡ Some c.in_ok-set.set = grind (arith, c.ok_or.ensures.value, c.in_ok-set.was) in
    membering c.args.row.now (length c.args.work.now) (length c.args.out.now) c.requires.1 c.requires.0.short x _ c.membership_of.ensures _ some c.args.marks.now _ c.requires.0.zeros c.requires.0.enough c.mark.ensures.marked c.mark.auto.marks _ (length-take-le 16384 c.args.work.now c.requires.1)

pub membership_of-requires : goal.membership_of-requires
membership_of-requires c =
    let x = pred-row c.args.row.now _ _ c.requires.0.short c.mark.ensures.value c.in_ok-mark.was in
    (x.form, row_read c.args.row.now (length c.args.work.now) (length c.args.out.now) c.requires.1 c.requires.0.short x)
