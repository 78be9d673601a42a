use mathlib.Core.Path.{◌≡◌}
use native.Mathlib.Omega.{arith}
use Rattle.std.specs.Prelude.{Some, None}
use Rattle.form.specs.declared.answer.Refusal.TheVariants.{OutOfLimits}
use Rattle.shift.proofs.CheckedLaws.{refused-up, passed-on, passed}
use Rattle.member.proofs.NotedSteps.{round-no, round-yes, round_same}
use Rattle.tree.proofs.Pairs.{both}
use Rattle.member.proofs.noted.fill_round.Goals as goal

pub returns-then-decls-le256 : goal.returns-then-decls-le256
returns-then-decls-le256 c = both (λ v w. record { value = v; out_after = w }) (passed _ _ _ _ _ (round_same _ _ _ _ _ _ _ _ _ _ c.if-not-joins.true) (c.fill_apart.ensures.value, c.fill_apart.ensures.out_after))

pub returns-in_err-round : goal.returns-in_err-round
returns-in_err-round c =
    let none : c.round_head.result ≡ None = grind (arith, c.ok_or.ensures.value, c.in_err-round.was) in
    let e : c.in_err-round.field-0.0 ≡ OutOfLimits = grind (arith, c.ok_or.ensures.value, c.in_err-round.was) in
    both (λ v w. record { value = v; out_after = w }) (refused-up _ _ _ _ (rw e at (passed-on _ _ c.from_residual.ensures)) (round-no _ _ _ _ _ _ _ _ _ _ (rw none at c.round_head.ensures)))

pub returns : goal.returns
returns c =
    let some : c.round_head.result ≡ Some c.in_ok-round.round = grind (arith, c.ok_or.ensures.value, c.in_ok-round.was) in
    let made = rw some at c.round_head.ensures in
    both (λ v w. record { value = v; out_after = w }) (passed _ _ _ _ _ (round-yes _ _ _ _ _ _ _ _ _ _ made.0 _ _ made.1) (c.fill_places.ensures.value, c.fill_places.ensures.out_after))
