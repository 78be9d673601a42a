use mathlib.Core.Path.{◌∙◌}
use borrow.Author.Tests.{ne_eqb}
use Rattle.listed.proofs.ShallowLaws.{shallow-bad, shallow-part, shallow-whole}
use Rattle.tree.proofs.Pairs.{both}
use Rattle.listed.proofs.marks.mark_shallow.Goals as goal

pub returns-in_default : goal.returns-in_default
returns-in_default c = both (λ v w. record { value = v; marked = w }) (shallow-bad _ c.requires _ _ _ _ _ c.is_expr.ensures _ c.shallow_form.ensures c.in_default.is)

pub returns-then-p-row : goal.returns-then-p-row
returns-then-p-row c = both (λ v w. record { value = v; marked = w }) (shallow-whole _ c.requires _ _ _ _ _ c.is_expr.ensures _ c.shallow_form.ensures _ c.in-Some.is c.if-p-row.true _ c.is_of_kind.ensures)

pub returns-else-p-row : goal.returns-else-p-row
returns-else-p-row c = both (λ v w. record { value = ne_eqb _ _ c.if-p-row.false ∙ v; marked = w }) (shallow-part _ c.requires _ _ _ _ _ c.is_expr.ensures _ c.shallow_form.ensures _ c.in-Some.is c.if-p-row.false)
