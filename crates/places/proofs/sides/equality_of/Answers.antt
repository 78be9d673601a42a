use mathlib.Core.Path.{ap, sym, ◌∙◌}
use native.Mathlib.Omega.{arith}
use Rattle.places.specs.Internal.Sides.{sides_from}
use Rattle.places.proofs.SidesLaws.{skip_is, equality-empty, equality-other, equality-is}
use Rattle.places.proofs.sides.equality_of.Goals as goal

pub returns-then-row-eq0 : goal.returns-then-row-eq0
returns-then-row-eq0 c = equality-empty _ c.if-row-eq0.true

pub returns-then-row-ne-EQUAL : goal.returns-then-row-ne-EQUAL
returns-then-row-ne-EQUAL c = equality-other _ c.if-row-eq0.false c.if-row-ne-EQUAL.true

pub returns-in_err-middle : goal.returns-in_err-middle
returns-in_err-middle c = c.from_residual.ensures ∙ ap (sides_from _) (sym c.in_err-middle.was) ∙ equality-is c.args.row.now c.if-row-eq0.false _ c.if-row-ne-EQUAL.false (skip_is _ _ _ _ _ (omega arith) c.skip_expr.ensures)

pub returns : goal.returns
returns c = ap (sides_from _) (sym c.in_ok-middle.was) ∙ equality-is c.args.row.now c.if-row-eq0.false _ c.if-row-ne-EQUAL.false (skip_is _ _ _ _ _ (omega arith) c.skip_expr.ensures)
