use mathlib.Core.Path.{sym, ◌∙◌}
use mathlib.Core.Bool.{true, false}
use Rattle.tree.proofs.Residual.{exit-with}
use Rattle.reply.proofs.LateLaws.{late-refused, late-told}
use Rattle.reply.proofs.late.check_row.Goals as goal

pub returns-in_err-check : goal.returns-in_err-check
returns-in_err-check c = exit-with c.from_residual.ensures.1 ∙ late-refused _ _ c.args.fits _ c.check.ensures _ c.in_err-check.was

pub returns-then-not-fits : goal.returns-then-not-fits
returns-then-not-fits c = late-told _ _ c.args.fits _ c.check.ensures _ c.in_ok-check.was false (sym c.if-not-fits.true)

pub returns : goal.returns
returns c = late-told _ _ c.args.fits _ c.check.ensures _ c.in_ok-check.was true (sym c.if-not-fits.false)
