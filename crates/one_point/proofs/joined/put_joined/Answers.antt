use mathlib.Core.Path.{◌≡◌}
use native.Mathlib.Omega.{arith}
use Rattle.std.specs.Prelude.{Some, None}
use Rattle.form.specs.declared.answer.Refusal.TheVariants.{OutOfLimits}
use Rattle.shift.proofs.CheckedLaws.{refused-up, passed}
use Rattle.one_point.proofs.JoinedHead.{row-none, row-some}
use Rattle.tree.proofs.Pairs.{both}
use Rattle.tree.proofs.Residual.{exit-with}
use Rattle.one_point.proofs.joined.put_joined.Goals as goal

pub returns-in_err-end : goal.returns-in_err-end
returns-in_err-end c =
    let n : c.write_joined.result ≡ None = grind (arith, c.ok_or.ensures.value, c.in_err-end.was) in
    let e : c.in_err-end.field-0.0 ≡ OutOfLimits = grind (arith, c.ok_or.ensures.value, c.in_err-end.was) in
    both (λ v w. record { value = v; out_after = w }) (refused-up _ _ _ _ (exit-with c.from_residual.ensures.1) (rw e (row-none c.args.head.now _ _ c.args.part.now c.args.part_marks.now c.args.body.now c.args.marks.now c.args.from _ (rw n at c.write_joined.ensures))))

pub returns : goal.returns
returns c =
    let s : c.write_joined.result ≡ Some c.in_ok-end.end = grind (arith, c.ok_or.ensures.value, c.in_ok-end.was) in
    both (λ v w. record { value = v; out_after = w }) (passed _ _ _ _ _ (row-some c.args.head.now _ _ c.args.part.now c.args.part_marks.now c.args.body.now c.args.marks.now c.args.from _ _ _ (rw s at c.write_joined.ensures) c.write_joined.auto.joined) (c.put_under.ensures.value, c.put_under.ensures.out_after))
