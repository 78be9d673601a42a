use mathlib.Core.Path.{◌∙◌}
use native.Mathlib.Omega.{arith}
use borrow.Author.Tests.{ne_eqb}
use Rattle.spell.proofs.AnswerLaws.{zeros}
use Rattle.spell.proofs.FitLaws.{row-long, not-printed, other-length, same-length}
use Rattle.spell.proofs.fits.fits_within.Goals as goal

pub returns-then-row-gt-WORDS : goal.returns-then-row-gt-WORDS
returns-then-row-gt-WORDS g c = row-long _ _ _ (omega arith) c.if-row-gt-WORDS.true

pub returns-in_default : goal.returns-in_default
returns-in_default g c = not-printed _ _ (omega arith) c.if-row-gt-WORDS.false _ _ _ _ c.print_as.ensures c.in_default.is

pub returns-else-n-text : goal.returns-else-n-text
returns-else-n-text g c = ne_eqb c.in-Some.n _ c.if-n-text.false ∙ other-length _ _ (omega arith) c.if-row-gt-WORDS.false _ _ _ _ c.print_as.ensures _ c.in-Some.is c.if-n-text.false

pub returns-then-n-text : goal.returns-then-n-text
returns-then-n-text g c =
    let z = zeros g.row.BYTES in
    c.eq.ensures ∙ same-length _ _ (omega arith) c.if-row-gt-WORDS.false _ _ _ _ c.print_as.ensures _ c.in-Some.is c.if-n-text.true (omega arith)
