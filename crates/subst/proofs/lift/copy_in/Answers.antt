use Rattle.std.proofs.Common.{sym, ◌∙◌}
use Rattle.shift.proofs.CheckedLaws.{not_found, marked-fresh}
use Rattle.subst.proofs.LiftLaws.{lift-missing, lift-zero, lift-closed, lift-refused, lift-copied}
use Rattle.tree.proofs.Pairs.{both}
use Rattle.subst.proofs.lift.copy_in.Goals as goal
use Rattle.subst.proofs.lift.copy_in.Goals.{then-depth-eq0-via-then-depth-eq0, then-depth-eq0-via-else-depth-eq0+then-all_in}

pub returns-then-not-mark_form : goal.returns-then-not-mark_form
returns-then-not-mark_form c = both (λ v w. record { value = v; work_after = w }) (lift-missing _ c.args.work.now c.args.depth c.requires.short (not_found _ _ c.mark_form.ensures.value c.if-not-mark_form.true))

pub returns-then-depth-eq0 : goal.returns-then-depth-eq0
returns-then-depth-eq0 c =
    let x = marked-fresh _ _ _ _ c.requires _ c.mark_form.ensures.value c.if-not-mark_form.false c.mark_form.ensures.marked in
    both (λ v w. record { value = v; work_after = w }) (elim c.then-depth-eq0.branch [
      | then-depth-eq0-via-then-depth-eq0 w ↦ lift-zero _ c.args.work.now c.args.depth _ _ c.requires.enough x w.if-depth-eq0.true
      | then-depth-eq0-via-else-depth-eq0+then-all_in w ↦ lift-closed _ c.args.work.now c.args.depth _ _ c.requires.enough x _ w.if-depth-eq0.false w.all_in.ensures w.if-all_in.true
    ])

pub returns-in_err-m : goal.returns-in_err-m
returns-in_err-m c = both (λ v w. record { value = c.from_residual.ensures ∙ v; work_after = w }) (lift-refused _ c.args.work.now c.args.depth _ _ c.requires.enough (marked-fresh _ _ _ _ c.requires _ c.mark_form.ensures.value c.if-not-mark_form.false c.mark_form.ensures.marked) _ c.if-depth-eq0.false c.all_in.ensures c.if-all_in.false _ _ (c.shift_marked.ensures.value, c.shift_marked.ensures.out_after) (sym c.ok.ensures.value ∙ c.in_err-m.was))

pub returns : goal.returns
returns c = both (λ v w. record { value = v; work_after = w }) (lift-copied _ c.args.work.now c.args.depth _ _ c.requires.enough (marked-fresh _ _ _ _ c.requires _ c.mark_form.ensures.value c.if-not-mark_form.false c.mark_form.ensures.marked) _ c.if-depth-eq0.false c.all_in.ensures c.if-all_in.false _ _ (c.shift_marked.ensures.value, c.shift_marked.ensures.out_after) _ (sym c.ok.ensures.value ∙ c.in_ok-m.was))
