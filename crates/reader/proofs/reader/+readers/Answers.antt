-- The measure of the cycle is eight times the words that are left, and a little more for a
-- function that calls another at the same place.
use mathlib.Core.Path.{◌≡◌, refl, ap, sym, ◌∙◌}
use native.Mathlib.Nat.{le_refl, le_trans}
use Prim.Native.Nat.{◌+◌, ◌-◌}
use native.Mathlib.Omega.{arith}
use lib.ListN.{replicate}
use Rattle.tree.specs.Tag.{expr, pred}
use Rattle.form.proofs.HeadLaws.{few, few-flags, asked_in}
use Rattle.reader.proofs.ReaderLaws.{leaf-else, leaf-taken, too-deep, past_end, no_own, a-noted, flags-after, a-form, kids-after, all-stop, all_more, all_none, rises, rises-all, both_go, both-stop}
use Rattle.reader.proofs.DeclReads.{decl-no-name, decl-no-flag, decl-bare, decl-typed, decls-more, decls-stop, decls-none, decl-rises, decls-rise, noted-stop, noted-bare, noted_go}
use Rattle.std.specs.Prelude.{Some}
use Rattle.reader.proofs.reader.+readers.Goals as goal

pub mark_child-mark_leaf-requires : goal.mark_child-mark_leaf-requires
mark_child-mark_leaf-requires t c = omega arith

pub mark_child-mark_expr-requires : goal.mark_child-mark_expr-requires
mark_child-mark_expr-requires t c = omega arith

pub mark_child-returns-in-None : goal.mark_child-returns-in-None
mark_child-returns-in-None t c = leaf-else _ _ _ _ _ _ _ _ _ c.mark_leaf.ensures.value c.mark_leaf.ensures.marks_after c.in-None.is c.mark_expr.ensures

pub mark_child-returns-in-Some : goal.mark_child-returns-in-Some
mark_child-returns-in-Some t c = leaf-taken _ _ _ _ _ _ _ _ c.mark_leaf.ensures.value c.mark_leaf.ensures.marks_after c.in-Some.is

pub mark_decl-returns-in_err-w : goal.mark_decl-returns-in_err-w
mark_decl-returns-in_err-w t c = rw c.from_residual.ensures (decl-no-name _ _ _ _ _ _ (sym c.asked.ensures ∙ c.in_err-w.was))

pub mark_decl-overflow_add-at : goal.mark_decl-overflow_add-at
mark_decl-overflow_add-at t c = let h = asked_in _ _ c.args.row.now c.args.at _ (sym c.asked.ensures ∙ c.in_ok-w.was) in omega arith

pub mark_decl-returns-in_err-flag : goal.mark_decl-returns-in_err-flag
mark_decl-returns-in_err-flag t c = rw c.from_residual-in_err-flag.ensures (decl-no-flag _ _ _ _ _ _ _ (sym c.asked.ensures ∙ c.in_ok-w.was) (sym c.asked-2.ensures ∙ c.in_err-flag.was))

pub mark_decl-overflow_add-result : goal.mark_decl-overflow_add-result
mark_decl-overflow_add-result t c = let h = asked_in _ _ c.args.row.now c.args.at _ (sym c.asked.ensures ∙ c.in_ok-w.was) in omega arith

pub mark_decl-returns-then-flag-eq0 : goal.mark_decl-returns-then-flag-eq0
mark_decl-returns-then-flag-eq0 t c = decl-bare _ _ _ _ _ _ _ (sym c.asked.ensures ∙ c.in_ok-w.was) (sym c.asked-2.ensures ∙ c.in_ok-flag.was) c.if-flag-eq0.true

pub mark_decl-overflow_add-at-2 : goal.mark_decl-overflow_add-at-2
mark_decl-overflow_add-at-2 t c = let h = asked_in _ _ c.args.row.now c.args.at _ (sym c.asked.ensures ∙ c.in_ok-w.was) in omega arith

pub mark_decl-mark_child-requires : goal.mark_decl-mark_child-requires
mark_decl-mark_child-requires t c = let h = asked_in _ _ c.args.row.now c.args.at _ (sym c.asked.ensures ∙ c.in_ok-w.was) in omega arith

pub mark_decl-returns : goal.mark_decl-returns
mark_decl-returns t c = decl-typed _ _ _ _ _ _ _ _ _ (sym c.asked.ensures ∙ c.in_ok-w.was) (sym c.asked-2.ensures ∙ c.in_ok-flag.was) c.if-flag-eq0.false c.mark_child.ensures

pub mark_decls-loop-init : goal.mark_decls-loop-init
mark_decls-loop-init t c = (λ b r t. let all : c.args.n - 0 ≡ c.args.n = omega arith in rw all at t, le_refl _, refl)

pub mark_decls-mark_decl-requires : goal.mark_decls-mark_decl-requires
mark_decls-mark_decl-requires t c = omega arith

pub mark_decls-returns-in_err-p : goal.mark_decls-returns-in_err-p
mark_decls-returns-in_err-p t c = rw c.from_residual.ensures (c.loop.invariant.0 _ _ (decls-stop _ _ _ _ _ _ _ _ _ (let h = c.loop-test.true in omega arith) c.mark_decl.ensures c.in_err-p.was))

pub mark_decls-loop-preserved : goal.mark_decls-loop-preserved
mark_decls-loop-preserved t c = (λ b r t. let left : c.args.n - (c.loop.counter + 1) ≡ c.args.n - c.loop.counter - 1 = omega arith in c.loop.invariant.0 b r (decls-more _ _ _ _ _ _ _ _ _ (let h = c.loop-test.true in omega arith) c.mark_decl.ensures c.in_ok-p.was b r (rw left at t)), le_trans c.loop.invariant.1 (decl-rises 0 c.args.row.now _ _ _ _ _ _ _ c.mark_decl.ensures c.in_ok-p.was), c.mark_decl.auto.marks ∙ c.loop.invariant.2)

pub mark_decls-returns : goal.mark_decls-returns
mark_decls-returns t c = c.loop.invariant.0 _ _ (decls-none _ _ _ _ _ _ (let h = c.loop-test.false in omega arith))

pub mark_expr-returns-then-depth-eq0 : goal.mark_expr-returns-then-depth-eq0
mark_expr-returns-then-depth-eq0 t c = too-deep expr _ _ _ _ _ _ c.if-depth-eq0.true

pub mark_expr-returns-then-row-at : goal.mark_expr-returns-then-row-at
mark_expr-returns-then-row-at t c = past_end expr _ _ _ _ _ _ c.if-row-at.true

pub mark_expr-returns-in_err-head : goal.mark_expr-returns-in_err-head
mark_expr-returns-in_err-head t c = rw c.from_residual.ensures (no_own expr c.args.row.now c.args.at c.args.under c.if-row-at.false c.expr_head.ensures _ _ _ c.if-depth-eq0.false c.in_err-head.was)

pub mark_expr-mark_noted-requires : goal.mark_expr-mark_noted-requires
mark_expr-mark_noted-requires t c = let head = c.in_ok-head.was ∙ ap Some c.in-Noted.is in let few = few-flags _ _ _ _ _ expr _ _ c.expr_head.ensures head in let after = flags-after expr c.args.row.now c.args.at c.args.under c.if-row-at.false c.expr_head.ensures _ _ _ _ head in (omega arith, omega arith)

pub mark_expr-returns-in-Noted : goal.mark_expr-returns-in-Noted
mark_expr-returns-in-Noted t c = a-noted expr c.args.row.now c.args.at c.args.under c.if-row-at.false c.expr_head.ensures _ _ _ _ _ _ _ _ c.if-depth-eq0.false (c.in_ok-head.was ∙ ap Some c.in-Noted.is) c.mark_noted.ensures

pub mark_expr-mark_tag-requires : goal.mark_expr-mark_tag-requires
mark_expr-mark_tag-requires t c = omega arith

pub mark_expr-overflow_add-under : goal.mark_expr-overflow_add-under
mark_expr-overflow_add-under t c = let w = few _ _ _ _ _ expr _ _ c.expr_head.ensures (c.in_ok-head.was ∙ ap Some c.in-Kids.is) in omega arith

pub mark_expr-mark_kids-requires : goal.mark_expr-mark_kids-requires
mark_expr-mark_kids-requires t c = let w = few _ _ _ _ _ expr _ _ c.expr_head.ensures (c.in_ok-head.was ∙ ap Some c.in-Kids.is) in let h = kids-after expr c.args.row.now c.args.at c.args.under c.if-row-at.false c.expr_head.ensures _ _ _ _ (c.in_ok-head.was ∙ ap Some c.in-Kids.is) in omega arith

pub mark_expr-returns-in-Kids : goal.mark_expr-returns-in-Kids
mark_expr-returns-in-Kids t c = a-form expr _ _ _ c.if-row-at.false c.expr_head.ensures _ _ _ _ _ _ _ _ _ c.if-depth-eq0.false (c.in_ok-head.was ∙ ap Some c.in-Kids.is) c.mark_tag.ensures c.mark_kids.ensures

pub mark_exprs-loop-init : goal.mark_exprs-loop-init
mark_exprs-loop-init t c = (λ b r t. let all : c.args.n - 0 ≡ c.args.n = omega arith in rw all at t, le_refl _, refl)

pub mark_exprs-mark_child-requires : goal.mark_exprs-mark_child-requires
mark_exprs-mark_child-requires t c = omega arith

pub mark_exprs-returns-in_err-p : goal.mark_exprs-returns-in_err-p
mark_exprs-returns-in_err-p t c = rw c.from_residual.ensures (c.loop.invariant.0 _ _ (all-stop _ _ _ expr _ _ _ _ _ _ (let h = c.loop-test.true in omega arith) c.mark_child.ensures c.in_err-p.was))

pub mark_exprs-loop-preserved : goal.mark_exprs-loop-preserved
mark_exprs-loop-preserved t c = (λ b r t. let left : c.args.n - (c.loop.counter + 1) ≡ c.args.n - c.loop.counter - 1 = omega arith in c.loop.invariant.0 b r (all_more _ _ _ expr _ _ _ _ _ _ (let h = c.loop-test.true in omega arith) c.mark_child.ensures c.in_ok-p.was b r (rw left at t)), le_trans c.loop.invariant.1 (rises _ _ _ _ _ _ _ c.mark_child.ensures c.in_ok-p.was), c.mark_child.auto.marks ∙ c.loop.invariant.2)

pub mark_exprs-returns : goal.mark_exprs-returns
mark_exprs-returns t c = c.loop.invariant.0 _ _ (all_none _ _ _ expr _ _ _ (let h = c.loop-test.false in omega arith))

pub mark_kids-mark_preds-requires : goal.mark_kids-mark_preds-requires
mark_kids-mark_preds-requires t c = omega arith

pub mark_kids-returns-in_err-p : goal.mark_kids-returns-in_err-p
mark_kids-returns-in_err-p t c = rw c.from_residual.ensures (both-stop _ _ _ (replicate c.args.preds pred) (replicate c.args.exprs expr) _ _ _ _ _ c.mark_preds.ensures c.in_err-p.was)

pub mark_kids-mark_exprs-requires : goal.mark_kids-mark_exprs-requires
mark_kids-mark_exprs-requires t c = let h = rises-all _ _ _ _ _ _ _ c.mark_preds.ensures c.in_ok-p.was in omega arith

pub mark_kids-returns : goal.mark_kids-returns
mark_kids-returns t c = both_go _ _ _ (replicate c.args.preds pred) (replicate c.args.exprs expr) _ _ _ _ _ _ _ c.mark_preds.ensures c.in_ok-p.was c.mark_exprs.ensures

pub mark_noted-mark_decls-requires : goal.mark_noted-mark_decls-requires
mark_noted-mark_decls-requires t c = omega arith

pub mark_noted-returns-in_err-p : goal.mark_noted-returns-in_err-p
mark_noted-returns-in_err-p t c = rw c.from_residual.ensures (noted-stop _ _ _ _ _ _ _ _ _ _ c.mark_decls.ensures c.in_err-p.was)

pub mark_noted-overflow_sub-p : goal.mark_noted-overflow_sub-p
mark_noted-overflow_sub-p t c = let h = decls-rise 0 c.args.row.now _ _ _ _ _ _ _ c.mark_decls.ensures c.in_ok-p.was in omega arith

pub mark_noted-overflow_mul-binds : goal.mark_noted-overflow_mul-binds
mark_noted-overflow_mul-binds t c = omega arith

pub mark_noted-returns-then-p-at : goal.mark_noted-returns-then-p-at
mark_noted-returns-then-p-at t c = noted-bare _ _ _ _ _ _ _ _ _ _ c.mark_decls.ensures _ c.in_ok-p.was c.if-p-at.true

pub mark_noted-overflow_add-under : goal.mark_noted-overflow_add-under
mark_noted-overflow_add-under t c = omega arith

pub mark_noted-mark_preds-requires : goal.mark_noted-mark_preds-requires
mark_noted-mark_preds-requires t c = let h = decls-rise 0 c.args.row.now _ _ _ _ _ _ _ c.mark_decls.ensures c.in_ok-p.was in omega arith

pub mark_noted-returns-in_err-q : goal.mark_noted-returns-in_err-q
mark_noted-returns-in_err-q t c = rw c.from_residual-in_err-q.ensures (noted_go _ _ _ _ _ _ _ _ _ _ c.mark_decls.ensures _ _ c.in_ok-p.was c.if-p-at.false (both-stop _ _ _ (replicate c.args.preds pred) (replicate c.args.exprs expr) _ _ _ _ _ c.mark_preds.ensures c.in_err-q.was))

pub mark_noted-overflow_add-under-2 : goal.mark_noted-overflow_add-under-2
mark_noted-overflow_add-under-2 t c = omega arith

pub mark_noted-mark_exprs-requires : goal.mark_noted-mark_exprs-requires
mark_noted-mark_exprs-requires t c = let h = decls-rise 0 c.args.row.now _ _ _ _ _ _ _ c.mark_decls.ensures c.in_ok-p.was in let g = rises-all _ _ _ _ _ _ _ c.mark_preds.ensures c.in_ok-q.was in omega arith

pub mark_noted-returns : goal.mark_noted-returns
mark_noted-returns t c = noted_go _ _ _ _ _ _ _ _ _ _ c.mark_decls.ensures _ _ c.in_ok-p.was c.if-p-at.false (both_go _ _ _ (replicate c.args.preds pred) (replicate c.args.exprs expr) _ _ _ _ _ _ _ c.mark_preds.ensures c.in_ok-q.was c.mark_exprs.ensures)

pub mark_pred-returns-then-depth-eq0 : goal.mark_pred-returns-then-depth-eq0
mark_pred-returns-then-depth-eq0 t c = too-deep pred _ _ _ _ _ _ c.if-depth-eq0.true

pub mark_pred-returns-then-row-at : goal.mark_pred-returns-then-row-at
mark_pred-returns-then-row-at t c = past_end pred _ _ _ _ _ _ c.if-row-at.true

pub mark_pred-returns-in_err-head : goal.mark_pred-returns-in_err-head
mark_pred-returns-in_err-head t c = rw c.from_residual.ensures (no_own pred c.args.row.now c.args.at c.args.under c.if-row-at.false c.pred_head.ensures _ _ _ c.if-depth-eq0.false c.in_err-head.was)

pub mark_pred-mark_noted-requires : goal.mark_pred-mark_noted-requires
mark_pred-mark_noted-requires t c = let head = c.in_ok-head.was ∙ ap Some c.in-Noted.is in let few = few-flags _ _ _ _ _ pred _ _ c.pred_head.ensures head in let after = flags-after pred c.args.row.now c.args.at c.args.under c.if-row-at.false c.pred_head.ensures _ _ _ _ head in (omega arith, omega arith)

pub mark_pred-returns-in-Noted : goal.mark_pred-returns-in-Noted
mark_pred-returns-in-Noted t c = a-noted pred c.args.row.now c.args.at c.args.under c.if-row-at.false c.pred_head.ensures _ _ _ _ _ _ _ _ c.if-depth-eq0.false (c.in_ok-head.was ∙ ap Some c.in-Noted.is) c.mark_noted.ensures

pub mark_pred-mark_tag-requires : goal.mark_pred-mark_tag-requires
mark_pred-mark_tag-requires t c = omega arith

pub mark_pred-overflow_add-under : goal.mark_pred-overflow_add-under
mark_pred-overflow_add-under t c = let w = few _ _ _ _ _ pred _ _ c.pred_head.ensures (c.in_ok-head.was ∙ ap Some c.in-Kids.is) in omega arith

pub mark_pred-mark_kids-requires : goal.mark_pred-mark_kids-requires
mark_pred-mark_kids-requires t c = let w = few _ _ _ _ _ pred _ _ c.pred_head.ensures (c.in_ok-head.was ∙ ap Some c.in-Kids.is) in let h = kids-after pred c.args.row.now c.args.at c.args.under c.if-row-at.false c.pred_head.ensures _ _ _ _ (c.in_ok-head.was ∙ ap Some c.in-Kids.is) in omega arith

pub mark_pred-returns-in-Kids : goal.mark_pred-returns-in-Kids
mark_pred-returns-in-Kids t c = a-form pred _ _ _ c.if-row-at.false c.pred_head.ensures _ _ _ _ _ _ _ _ _ c.if-depth-eq0.false (c.in_ok-head.was ∙ ap Some c.in-Kids.is) c.mark_tag.ensures c.mark_kids.ensures

pub mark_preds-loop-init : goal.mark_preds-loop-init
mark_preds-loop-init t c = (λ b r t. let all : c.args.n - 0 ≡ c.args.n = omega arith in rw all at t, le_refl _, refl)

pub mark_preds-mark_pred-requires : goal.mark_preds-mark_pred-requires
mark_preds-mark_pred-requires t c = omega arith

pub mark_preds-returns-in_err-p : goal.mark_preds-returns-in_err-p
mark_preds-returns-in_err-p t c = rw c.from_residual.ensures (c.loop.invariant.0 _ _ (all-stop _ _ _ pred _ _ _ _ _ _ (let h = c.loop-test.true in omega arith) c.mark_pred.ensures c.in_err-p.was))

pub mark_preds-loop-preserved : goal.mark_preds-loop-preserved
mark_preds-loop-preserved t c = (λ b r t. let left : c.args.n - (c.loop.counter + 1) ≡ c.args.n - c.loop.counter - 1 = omega arith in c.loop.invariant.0 b r (all_more _ _ _ pred _ _ _ _ _ _ (let h = c.loop-test.true in omega arith) c.mark_pred.ensures c.in_ok-p.was b r (rw left at t)), le_trans c.loop.invariant.1 (rises _ _ _ _ _ _ _ c.mark_pred.ensures c.in_ok-p.was), c.mark_pred.auto.marks ∙ c.loop.invariant.2)

pub mark_preds-returns : goal.mark_preds-returns
mark_preds-returns t c = c.loop.invariant.0 _ _ (all_none _ _ _ pred _ _ _ (let h = c.loop-test.false in omega arith))
