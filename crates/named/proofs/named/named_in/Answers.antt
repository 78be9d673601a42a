use mathlib.Core.Path.{refl, sym, ◌∙◌}
use native.Mathlib.Omega.{arith}
use lib.ListN.{length}
use mathlib.Core.Path.{ap}
use Rattle.form.specs.Answer.{stop}
use Rattle.shift.proofs.CheckedLaws.{refused, refused-up}
use Rattle.named.proofs.CallLaws.{blank-ready, nothing-open, named-bad, named-part, named-short, named-done}
use Rattle.named.proofs.WordLaws.{copied}
use Rattle.tree.proofs.Pairs.{both}
use Rattle.named.proofs.named.named_in.Goals as goal
use Rattle.form.specs.declared.answer.Refusal.TheVariants.{Broken}

pub name_form-requires : goal.name_form-requires
name_form-requires c = blank-ready _ _ _ c.requires

pub returns-in_default : goal.returns-in_default
returns-in_default c = both (λ v w. record { value = v; out_after = w }) (refused-up _ _ _ _ refl (named-bad c.args.row.now (length c.args.out.now) c.requires.short _ c.is_expr-expression.ensures c.args.made.now _ _ (rw (nothing-open c.args.scope.now) at c.name_form.ensures.wrote) c.in_default.is ∙ ap (λ p. stop (Broken p)) (sym c.broken_at.ensures)))

pub returns-then-end-row : goal.returns-then-end-row
returns-then-end-row c = both (λ v w. record { value = v; out_after = w }) (refused-up _ _ _ _ refl (named-part c.args.row.now (length c.args.out.now) c.requires.short _ c.is_expr-expression.ensures c.args.made.now _ _ (rw (nothing-open c.args.scope.now) at c.name_form.ensures.wrote) _ c.in-Some.is c.if-end-row.true ∙ ap (λ p. stop (Broken p)) (sym c.broken_at-then-end-row.ensures)))

pub returns-then-out-end : goal.returns-then-out-end
returns-then-out-end c = both (λ v w. record { value = v; out_after = w }) (refused _ _ _ _ (named-short c.args.row.now (length c.args.out.now) c.requires.short _ c.is_expr-expression.ensures c.args.made.now _ _ (rw (nothing-open c.args.scope.now) at c.name_form.ensures.wrote) _ c.in-Some.is c.if-end-row.false c.if-out-end.true) refl)

pub returns : goal.returns
returns c = let d = named-done c.args.row.now (length c.args.out.now) c.requires.short _ c.is_expr-expression.ensures c.args.made.now _ _ (rw (nothing-open c.args.scope.now) at c.name_form.ensures.wrote) _ c.in-Some.is c.if-end-row.false c.if-out-end.false c.requires.fits c.args.out.now refl in record { value = d.0; out_after = rw c.copy_from_slice.ensures.after (copied _ _ _ (omega arith) c.if-out-end.false ∙ d.1) }
