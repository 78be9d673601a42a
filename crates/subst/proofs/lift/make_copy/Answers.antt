use Rattle.std.proofs.Common.{rules, length}
use Rattle.rules.specs.Lift.{lift_part}
use Rattle.shift.proofs.MarksLaws.{lent}
use Rattle.subst.proofs.LiftLaws.{Makes, flat, lift-long}
use Rattle.tree.proofs.Pairs.{both}
use Rattle.subst.proofs.lift.make_copy.Goals as goal

pub returns : goal.returns
returns c = let p = lift_part c.args.base.now c.args.depth (length c.args.work.now) in
    rw (c.flatten.ensures, flat c.with_marks.result) (both (λ v w. record { value = v; work_after = w }) (lent (λ r l. Makes r p c.args.work.now l) _ c.with_marks.ensures (λ h. lift-long _ _ _ h) (λ x m o n q fresh e ran. search rules)))
