use mathlib.Core.Path.{refl}
use lib.ListN.{length}
use Rattle.form.specs.declared.answer.Kind.TheVariants.{Predicate}
use Rattle.shift.proofs.CheckedLaws.{refused, refused-up, checked}
use Rattle.decls.proofs.RowHeads.{no-quant}
use Rattle.prune.proofs.FallLaws.{same-fits}
use Rattle.prune.proofs.PruneLaws.{prune-refused, prune-other, pruning}
use Rattle.tree.proofs.Pairs.{both}
use Rattle.tree.proofs.Residual.{exit-with}
use Rattle.replace.proofs.MarkLaws.{marked-fresh}
use Rattle.prune.proofs.prune.prune_in.Goals as goal

pub returns-in_err-mark : goal.returns-in_err-mark
returns-in_err-mark c = both (λ v w. record { value = v; out_after = w }) (refused-up _ _ _ _ (exit-with c.from_residual.ensures.1) (prune-refused _ _ _ _ c.mark.ensures.value c.in_err-mark.was))

pub returns-then-n-eq0 : goal.returns-then-n-eq0
returns-then-n-eq0 c = let x = checked Predicate c.args.row.now _ (length c.args.row.now) _ refl _ _ c.requires.short c.mark.ensures.value c.in_ok-mark.was (marked-fresh _ _ _ _ c.requires c.mark.ensures.marked) in both (λ v w. record { value = v; out_after = w }) (refused _ _ _ _ (prune-other _ _ _ x (no-quant _ _ _ x _ c.declared-n.ensures c.if-n-eq0.true)) refl)

pub drop_unused-requires : goal.drop_unused-requires
drop_unused-requires c = let x = checked Predicate c.args.row.now _ (length c.args.row.now) _ refl _ _ c.requires.short c.mark.ensures.value c.in_ok-mark.was (marked-fresh _ _ _ _ c.requires c.mark.ensures.marked) in pruning c.args.row.now c.mark.new.marks x _ _ c.declared-n.ensures c.if-n-eq0.false c.body_start-from.ensures (same-fits c.requires.enough c.mark.auto.marks)

pub returns : goal.returns
returns c = record { value = c.drop_unused.ensures.value; out_after = c.drop_unused.ensures.out_after }
