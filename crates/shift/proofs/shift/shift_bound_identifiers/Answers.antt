use Rattle.std.proofs.Common.{rules, ◌≡◌, length, refl}
use Rattle.form.specs.Answer.{told, written}
use Rattle.rules.specs.Shift.{shift_outcome}
use Rattle.shift.proofs.SignedLaws.{back}
use Rattle.shift.proofs.MarksLaws.{lent}
use Rattle.shift.proofs.CheckedLaws.{refused}
use Rattle.shift.proofs.ShiftLaws.{shift-long}
use Rattle.tree.proofs.Pairs.{both}
use Rattle.shift.proofs.shift.shift_bound_identifiers.Goals as goal

pub returns : goal.returns
returns c = rw c.unwrap_or.ensures (both (λ v w. record { value = v; out_after = w }) (lent (λ r l. (r ≡ told (shift_outcome c.args.row.now c.args.offset (length c.args.out.now))) × (l ≡ written (shift_outcome c.args.row.now c.args.offset (length c.args.out.now)) c.args.out.now)) _ c.with_marks.ensures (λ h. refused _ _ _ _ (shift-long _ _ _ h) refl) (λ x m o n p fresh e ran. let z = back c.args.offset c.ranges.offset in search rules)))
