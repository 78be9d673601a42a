use Rattle.std.proofs.Common.{rules, ◌≡◌, length, refl}
use Rattle.form.specs.Answer.{told, written}
use Rattle.rules.specs.Member.{member_outcome}
use Rattle.shift.proofs.MarksLaws.{lent}
use Rattle.shift.proofs.CheckedLaws.{refused}
use Rattle.member.proofs.MemberLaws.{member-small, member-long}
use Rattle.tree.proofs.Pairs.{both}
use Rattle.member.proofs.rewrite_in_compset.rewrite_in_compset.Goals as goal

pub returns-then-work-lt16384 : goal.returns-then-work-lt16384
returns-then-work-lt16384 c = both (λ v w. record { value = v; out_after = w }) (refused _ _ _ _ (member-small c.args.row.now (length c.args.work.now) (length c.args.out.now) c.if-work-lt16384.true) refl)

pub returns : goal.returns
returns c =
    let o = member_outcome c.args.row.now (length c.args.work.now) (length c.args.out.now) in
    rw c.unwrap_or.ensures (both (λ v w. record { value = v; out_after = w }) (lent (λ r l. (r ≡ told o) × (l ≡ written o c.args.out.now)) _ c.with_marks.ensures (λ h. refused _ _ _ _ (member-long c.args.row.now (length c.args.work.now) (length c.args.out.now) c.if-work-lt16384.false h) refl) (λ x m o n p fresh e ran. search rules)))
