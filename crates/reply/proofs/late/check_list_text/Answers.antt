use mathlib.Core.Path.{sym, ◌∙◌}
use mathlib.Core.Bool.{true, false}
use Rattle.reply.proofs.LateLaws.{told-long, list-tests, list-none, list-told}
use Rattle.reply.proofs.late.check_list_text.Goals as goal

pub returns-then-row-gt-WORDS : goal.returns-then-row-gt-WORDS
returns-then-row-gt-WORDS c = told-long _ _ (list-tests _ _ _) c.if-row-gt-WORDS.true _

pub returns-then-not-mark_list : goal.returns-then-not-mark_list
returns-then-not-mark_list c = list-none _ _ _ c.if-row-gt-WORDS.false _ _ _ _ _ c.mark_list.ensures c.if-not-mark_list.true _ c.broken_list.ensures

pub returns-then-not-fits_list : goal.returns-then-not-fits_list
returns-then-not-fits_list c = list-told _ _ _ c.if-row-gt-WORDS.false _ _ _ _ _ c.mark_list.ensures c.if-not-mark_list.false false (sym c.if-not-fits_list.true ∙ c.fits_list.ensures)

pub returns : goal.returns
returns c = list-told _ _ _ c.if-row-gt-WORDS.false _ _ _ _ _ c.mark_list.ensures c.if-not-mark_list.false true (sym c.if-not-fits_list.false ∙ c.fits_list.ensures)
