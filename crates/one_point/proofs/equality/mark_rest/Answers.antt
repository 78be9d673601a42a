use mathlib.Core.Path.{refl, sym, ◌∙◌}
use native.Mathlib.Omega.{arith}
use Rattle.one_point.proofs.EndLaws.{is_one, not_some}
use Rattle.one_point.proofs.MarkLaws.{plain-marks}
use Rattle.one_point.proofs.equality.mark_rest.Goals as goal

pub returns-then-is_some : goal.returns-then-is_some
returns-then-is_some c =
    let (e, q) = is_one c.args.left (sym c.is_some.ensures ∙ c.if-is_some.true) in
    rw q (plain-marks _ _ _ _ 65 _ (omega arith) c.mark_pred.ensures.marks_told)

pub returns-else-is_some : goal.returns-else-is_some
returns-else-is_some c = rw (not_some c.args.left (sym c.is_some.ensures ∙ c.if-is_some.false)) refl
