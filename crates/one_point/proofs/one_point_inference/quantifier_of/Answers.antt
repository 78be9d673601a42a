use native.Mathlib.Omega.{arith}
use mathlib.Core.Path.{ap, ◌∙◌}
use Rattle.std.specs.Prelude.{Some}
use Rattle.one_point.proofs.HeadLaws.{head-none, head-word, head-of, head-noted, head-bad}
use Rattle.one_point.proofs.one_point_inference.quantifier_of.Goals as goal

pub returns-then-declared-eq0 : goal.returns-then-declared-eq0
returns-then-declared-eq0 c = head-none _ _ c.declared.ensures c.if-declared-eq0.true

pub returns-in_err-head : goal.returns-in_err-head
returns-in_err-head c = c.from_residual.ensures ∙ head-bad _ _ c.declared.ensures c.if-declared-eq0.false _ c.pred_head.ensures c.in_err-head.was

pub returns-in-Kids : goal.returns-in-Kids
returns-in-Kids c = head-of _ _ c.declared.ensures c.if-declared-eq0.false _ c.pred_head.ensures _ _ _ _ (c.in_ok-head.was ∙ ap Some c.in-Kids.is)

pub returns-in-Noted : goal.returns-in-Noted
returns-in-Noted c = head-noted _ _ c.declared.ensures c.if-declared-eq0.false _ c.pred_head.ensures _ _ _ _ (c.in_ok-head.was ∙ ap Some c.in-Noted.is) _ c.skip_decls.ensures

pub bounds-row-0 : goal.bounds-row-0
bounds-row-0 c = let h = head-word c.args.row.now _ c.declared.ensures c.if-declared-eq0.false in omega arith
