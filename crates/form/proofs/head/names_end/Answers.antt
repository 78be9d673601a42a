use mathlib.Core.Path.{◌≡◌, refl, sym, ◌∙◌}
use Prim.Native.Nat.{◌+◌, ◌-◌}
use native.Mathlib.Numerals.{unary_clauses}
use native.Mathlib.Omega.{arith}
use Rattle.form.proofs.HeadLaws.{asked_in, names_more, names-stop, names-none}
use Rattle.form.proofs.head.names_end.Goals as goal

pub loop-init : goal.loop-init
loop-init c = simp unary_clauses refl

pub returns-in_err-asked : goal.returns-in_err-asked
returns-in_err-asked c =
    rw c.from_residual.ensures (sym (c.loop.invariant ∙ names-stop c.args.row.now (c.args.n - c.loop.counter) c.loop.p (let h = c.loop-test.true in omega arith) (sym c.asked.ensures ∙ c.in_err-asked.was)))

pub overflow_add-p : goal.overflow_add-p
overflow_add-p c = let h = asked_in _ _ c.args.row.now c.loop.p _ (sym c.asked.ensures ∙ c.in_ok-asked.was) in omega arith

pub loop-preserved : goal.loop-preserved
loop-preserved c =
    let step = names_more c.args.row.now (c.args.n - c.loop.counter) c.loop.p _ (let h = c.loop-test.true in omega arith) (sym c.asked.ensures ∙ c.in_ok-asked.was) in
    let left : c.args.n - (c.loop.counter + 1) ≡ c.args.n - c.loop.counter - 1 = omega arith in
    c.loop.invariant ∙ rw left step

pub returns : goal.returns
returns c = sym (c.loop.invariant ∙ names-none (c.args.n - c.loop.counter) c.loop.p _ (let h = c.loop-test.false in omega arith))
