use mathlib.Core.Path.{refl}
use Rattle.shift.proofs.CheckedLaws.{passed}
use Rattle.prune.proofs.PruneLaws.{left-plain, left-noted}
use Rattle.tree.proofs.Pairs.{both}
use Rattle.prune.proofs.prune.drop_unused.Goals as goal

pub returns-then-row-lt860 : goal.returns-then-row-lt860
returns-then-row-lt860 c = both (λ v w. record { value = v; out_after = w }) (passed _ _ _ _ _ (left-plain c.args.row.now c.args.marks.now c.args.n c.args.from c.requires c.clear_used.new.words c.clear_used.auto.words c.clear_used.ensures _ c.if-row-lt860.true) (c.drop_plain.ensures.value, c.drop_plain.ensures.out_after))

pub returns-then-row-le256 : goal.returns-then-row-le256
returns-then-row-le256 c = both (λ v w. record { value = v; out_after = w }) (passed _ _ _ _ _ (left-noted c.args.row.now c.args.marks.now c.args.n c.args.from c.requires c.clear_used.new.words c.clear_used.auto.words c.clear_used.ensures _ _ c.if-row-lt860.false refl) (c.drop_noted.ensures.value, c.drop_noted.ensures.out_after))

pub returns-else-row-le256 : goal.returns-else-row-le256
returns-else-row-le256 c = both (λ v w. record { value = v; out_after = w }) (passed _ _ _ _ _ (left-noted c.args.row.now c.args.marks.now c.args.n c.args.from c.requires c.clear_used.new.words c.clear_used.auto.words c.clear_used.ensures _ _ c.if-row-lt860.false refl) (c.drop_noted-else-row-le256.ensures.value, c.drop_noted-else-row-le256.ensures.out_after))
