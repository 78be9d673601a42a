use mathlib.Core.Path.{sym, ◌∙◌}
use mathlib.Core.Bool.{true, false}
use Rattle.reply.proofs.LateLaws.{late-row, late-fits}
use Rattle.reply.proofs.late.check_text.Goals as goal

pub returns-then-not-fits_form : goal.returns-then-not-fits_form
returns-then-not-fits_form c = c.check_row.ensures ∙ late-row _ _ _ false (sym c.if-not-fits_form.true ∙ c.fits_form.ensures)

pub returns-then-expression-first : goal.returns-then-expression-first
returns-then-expression-first c = c.check_row-then-expression-first.ensures ∙ late-row _ _ _ true (sym c.if-not-fits_form.false ∙ c.fits_form.ensures)

pub returns : goal.returns
returns c = late-fits _ _ _ (sym c.if-not-fits_form.false ∙ c.fits_form.ensures) _ _ c.is_expr-expression.ensures c.is_expr-first.ensures c.if-expression-first.false (sym c.is_of_kind.ensures ∙ c.if-not-is_of_kind.false)
