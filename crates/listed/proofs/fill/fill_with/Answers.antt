use Rattle.shift.proofs.CheckedLaws.{passed}
use Rattle.listed.proofs.FillLaws.{filled-plain, filled-noted}
use Rattle.tree.proofs.Pairs.{both}
use Rattle.listed.proofs.fill.fill_with.Goals as goal

pub returns-then-source-lt860 : goal.returns-then-source-lt860
returns-then-source-lt860 c = both (λ v w. record { value = v; out_after = w }) (passed _ _ _ _ _ (filled-plain _ _ _ _ _ _ _ c.if-source-lt860.true) (c.fill_plain.ensures.value, c.fill_plain.ensures.out_after))

pub returns-then-source-le256 : goal.returns-then-source-le256
returns-then-source-le256 c = both (λ v w. record { value = v; out_after = w }) (passed _ _ _ _ _ (filled-noted _ _ _ _ _ _ _ c.if-source-lt860.false) (c.fill_noted.ensures.value, c.fill_noted.ensures.out_after))

pub returns : goal.returns
returns c = both (λ v w. record { value = v; out_after = w }) (passed _ _ _ _ _ (filled-noted _ _ _ _ _ _ _ c.if-source-lt860.false) (c.fill_noted-2.ensures.value, c.fill_noted-2.ensures.out_after))
