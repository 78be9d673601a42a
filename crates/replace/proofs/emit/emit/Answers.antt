use mathlib.Core.Path.{refl}
use Rattle.shift.proofs.CheckedLaws.{refused, passed}
use Rattle.replace.proofs.BuildLaws.{emit-no, emit-fits}
use Rattle.tree.proofs.Pairs.{both}
use Rattle.replace.proofs.emit.emit.Goals as goal

pub returns-then-not-is_form : goal.returns-then-not-is_form
returns-then-not-is_form c = both (λ v w. record { value = v; out_after = w }) (refused _ _ _ _ (emit-no _ _ _ _ c.is_form.ensures c.if-not-is_form.true) refl)

pub returns : goal.returns
returns c = both (λ v w. record { value = v; out_after = w }) (passed _ _ _ _ _ (emit-fits _ _ _ c.is_form.ensures c.if-not-is_form.false _) (c.emit_fitted.ensures.value, c.emit_fitted.ensures.out_after))
