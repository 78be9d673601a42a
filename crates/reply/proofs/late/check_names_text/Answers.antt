use mathlib.Core.Path.{sym, ◌∙◌}
use mathlib.Core.Bool.{true, false}
use Rattle.reply.proofs.LateLaws.{told-long, names-tests, names-told}
use Rattle.reply.proofs.late.check_names_text.Goals as goal

pub returns-then-row-gt-WORDS : goal.returns-then-row-gt-WORDS
returns-then-row-gt-WORDS c = told-long _ _ (names-tests _ _) c.if-row-gt-WORDS.true _

pub returns-then-not-fits_names : goal.returns-then-not-fits_names
returns-then-not-fits_names c = names-told _ _ c.if-row-gt-WORDS.false false (sym c.if-not-fits_names.true ∙ c.fits_names.ensures)

pub returns : goal.returns
returns c = names-told _ _ c.if-row-gt-WORDS.false true (sym c.if-not-fits_names.false ∙ c.fits_names.ensures)
