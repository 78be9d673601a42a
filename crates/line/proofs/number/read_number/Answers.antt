use mathlib.Core.Path.{◌≡◌, ap, sym, ◌∙◌}
use native.Mathlib.Omega.{arith}
use lib.ListN.{length, get_or}
use Rattle.line.specs.declared.turn.State.TheVariants.{Spaced}
use Rattle.line.specs.Scan.{finished}
use Rattle.line.specs.Internal.Places.{number_at}
use Rattle.line.proofs.ScanLaws.{number_past, number-other, number-bad, number_more, digit-is, a-digit}
use Rattle.line.proofs.number.read_number.Goals as goal

pub returns-then-line-at : goal.returns-then-line-at
unfolding number_at finished
returns-then-line-at c = sym (number_past c.args.line.now c.args.at Spaced (let h = c.if-line-at.true in omega arith))

pub returns-then-not-is_ascii_digit : goal.returns-then-not-is_ascii_digit
returns-then-not-is_ascii_digit c = c.ended.ensures ∙ sym (number-other _ _ _ c.loop-p-test.true (digit-is (get_or c.args.line.now c.loop-p.p 0) c.is_ascii_digit.ensures.value _ c.if-not-is_ascii_digit.true)) ∙ c.loop-p.invariant

pub returns-in_err-state : goal.returns-in_err-state
returns-in_err-state c =
    let (l, g) = a-digit (get_or c.args.line.now c.loop-p.p 0) c.is_ascii_digit.ensures.value c.if-not-is_ascii_digit.false in
    rw c.from_residual.ensures (sym (number-bad _ _ _ c.loop-p-test.true l g (rw c.from.ensures at c.after_digit.ensures) c.in_err-state.was) ∙ c.loop-p.invariant)

pub loop-p-preserved : goal.loop-p-preserved
loop-p-preserved c =
    let (l, g) = a-digit (get_or c.args.line.now c.loop-p.p 0) c.is_ascii_digit.ensures.value c.if-not-is_ascii_digit.false in
    sym (number_more _ _ _ c.loop-p-test.true l g (rw c.from.ensures at c.after_digit.ensures) _ c.in_ok-state.was) ∙ c.loop-p.invariant

pub returns : goal.returns
returns c =
    let e : length c.args.line.now ≡ c.loop-p.p = omega arith in
    c.ended-2.ensures ∙ ap (λ n. number_at n (finished c.loop-p.state)) e ∙ sym (number_past _ _ _ c.loop-p-test.false) ∙ c.loop-p.invariant
