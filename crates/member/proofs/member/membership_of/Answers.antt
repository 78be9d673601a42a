use native.Mathlib.Omega.{arith}
use mathlib.Core.Path.{refl, sym, ◌∙◌}
use Rattle.member.specs.Internal.Member.{SetTold}
use Rattle.places.proofs.SidesLaws.{skip_is}
use Rattle.shift.proofs.ItemLaws.{not_yes, not-no}
use Rattle.member.proofs.InLaws.{row-some, not_in, at_in, not_set, count-in, count_low, guard-ends, set-in}
use Rattle.member.proofs.member.membership_of.Goals as goal

pub returns-then-row-ne-IN : goal.returns-then-row-ne-IN
unfolding SetTold
returns-then-row-ne-IN c = not_in c.args.row.now c.requires.0 c.requires.1 c.if-row-ne-IN.true

pub returns-then-not-is_set : goal.returns-then-not-is_set
unfolding SetTold
returns-then-not-is_set c = not_set c.args.row.now c.requires.0 c.requires.1 c.if-row-ne-IN.false _ c.expr_end-at.ensures (sym c.is_set.ensures ∙ not_yes _ c.if-not-is_set.true-raw)

pub returns-in_err-value : goal.returns-in_err-value
returns-in_err-value c = absurd (guard-ends c.args.row.now c.requires.0 c.requires.1 c.if-row-ne-IN.false _ c.expr_end-at.ensures (sym c.is_set.ensures ∙ not-no _ c.if-not-is_set.false-raw) _ refl _ c.guard_at-guard.ensures _ (skip_is _ _ _ _ _ (omega arith) c.skip_pred.ensures) c.in_err-value.was)

pub returns : goal.returns
unfolding SetTold
returns c = set-in c.args.row.now c.requires.0 c.requires.1 c.if-row-ne-IN.false _ c.expr_end-at.ensures (sym c.is_set.ensures ∙ not-no _ c.if-not-is_set.false-raw) _ refl _ c.guard_at-guard.ensures _ (skip_is _ _ _ _ _ (omega arith) c.skip_pred.ensures) _ c.in_ok-value.was

pub bounds-row-at-2 : goal.bounds-row-at-2
bounds-row-at-2 c = let h = count-in c.args.row.now c.requires.0 c.requires.1 c.if-row-ne-IN.false _ c.expr_end-at.ensures (sym c.is_set.ensures ∙ not-no _ c.if-not-is_set.false-raw) in omega arith

pub bounds-row-0 : goal.bounds-row-0
bounds-row-0 c = let h = row-some c.args.row.now c.requires.0 c.requires.1 in omega arith

pub bounds-row-at : goal.bounds-row-at
bounds-row-at c = let h = at_in c.args.row.now c.requires.0 c.requires.1 c.if-row-ne-IN.false _ c.expr_end-at.ensures in omega arith

pub guard_at-guard-requires : goal.guard_at-guard-requires
guard_at-guard-requires c = (count-in c.args.row.now c.requires.0 c.requires.1 c.if-row-ne-IN.false _ c.expr_end-at.ensures (sym c.is_set.ensures ∙ not-no _ c.if-not-is_set.false-raw), count_low c.args.row.now c.requires.0 c.requires.1 c.if-row-ne-IN.false _ c.expr_end-at.ensures (sym c.is_set.ensures ∙ not-no _ c.if-not-is_set.false-raw) _ refl)

pub offset_bounds-row-at : goal.offset_bounds-row-at
offset_bounds-row-at c = let h = at_in c.args.row.now c.requires.0 c.requires.1 c.if-row-ne-IN.false _ c.expr_end-at.ensures in omega arith
