use Rattle.std.proofs.Common.{rules, ◌≡◌, length, refl}
use Rattle.form.specs.Answer.{told, written}
use Rattle.rules.specs.Bind.{bind_outcome}
use Rattle.shift.proofs.MarksLaws.{lent}
use Rattle.shift.proofs.CheckedLaws.{refused}
use Rattle.subst.proofs.BindLaws.{bind-too-long}
use Rattle.tree.proofs.Pairs.{both}
use Rattle.subst.proofs.bind.bind_idents.Goals as goal

pub returns : goal.returns
returns c = let o = bind_outcome c.args.names.now c.args.row.now (length c.args.out.now) in
    rw c.unwrap_or.ensures (both (λ v w. record { value = v; out_after = w }) (lent (λ r l. (r ≡ told o) × (l ≡ written o c.args.out.now)) _ c.with_marks.ensures (λ h. refused _ _ _ _ (bind-too-long _ _ _ h) refl) (λ x m o n p fresh e ran. search rules)))
