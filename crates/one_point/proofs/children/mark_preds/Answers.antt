use mathlib.Core.Path.{◌≡◌, refl, ap, sym, ◌∙◌}
use Prim.Native.Nat.{ℕ, ◌+◌, ◌-◌, ◌<◌}
use native.Mathlib.Omega.{arith}
use Rattle.tree.specs.Tag.{pred}
use Rattle.one_point.specs.Internal.Scans.{are_kids}
use Rattle.one_point.proofs.ScanLaws.{ends_at, ends-not, fits}
use Rattle.one_point.proofs.ChildrenLaws.{end-next, end-bad, end_none, kids-no, kids-lost-all, kids-same, kids-next, marks-none}
use Rattle.one_point.proofs.MarkLaws.{marks-told, plain-marks}
use Rattle.one_point.proofs.children.mark_preds.Goals as goal

pub loop-init : goal.loop-init
loop-init c = let z : c.args.pos + (c.args.at - c.args.at) ≡ c.args.pos = omega arith in
    let n : c.args.n - 0 ≡ c.args.n = omega arith in
    rw (n, z) (refl, refl, λ e. refl, omega arith, omega arith, refl)

pub returns-in_err-q : goal.returns-in_err-q
returns-in_err-q c = rw c.from_residual.ensures (record { value = end-bad c.args.row.now _ _ (ends-not c.args.row.now _ pred _ c.requires.0 _ c.mark_pred.ensures.value c.in_err-q.was) _ (omega arith) ∙ c.loop.invariant.0; kids_marked = λ e. absurd (kids-lost-all c.args.row.now c.args.depth _ _ _ _ c.loop.invariant.1 (kids-no c.args.row.now _ _ (ends-not c.args.row.now _ pred _ c.requires.0 _ c.mark_pred.ensures.value c.in_err-q.was) _ (omega arith)) e) })

pub loop-preserved : goal.loop-preserved
loop-preserved c =
    let x = ends_at c.args.row.now _ pred _ c.requires.0 _ c.mark_pred.ensures.value _ c.in_ok-q.was in
    let f = fits c.args.row.now _ _ x.form x.is in
    let e = x.end in
    let some : 0 < c.args.n - c.loop.counter = omega arith in
    let left : c.args.n - (c.loop.counter + 1) ≡ c.args.n - c.loop.counter - 1 = omega arith in
    rw left
    (end-next c.args.row.now _ _ x.form x.is _ some _ x.end ∙ c.loop.invariant.0, c.loop.invariant.1 ∙ (kids-same c.args.row.now _ _ x.form x.is _ some ∙ ap (λ (z : ℕ). are_kids c.args.row.now c.args.depth z (c.args.n - c.loop.counter - 1)) (sym x.end)), kids-next c.args.row.now _ _ x.form x.is _ some _ _ _ _ _ _ x.end (omega arith) (marks-told _ _ _ _ _ x.form _ x.is (plain-marks _ _ _ _ c.args.depth _ (omega arith) c.mark_pred.ensures.marks_told)) c.loop.invariant.2, omega arith, omega arith, c.mark_pred.auto.marks ∙ c.loop.invariant.5)

pub returns : goal.returns
returns c = record { value = end_none c.args.row.now _ _ _ (omega arith) ∙ c.loop.invariant.0; kids_marked = λ e. sym (marks-none c.args.row.now _ _ _ _ _ (omega arith)) ∙ c.loop.invariant.2 (sym c.loop.invariant.1 ∙ e) }
