use mathlib.Core.Path.{ap}
use Prim.Native.Nat.{◌+◌, ◌*◌}
use native.Mathlib.Omega.{arith}
use borrow.Author.Tests.{le-leb, lt-leb}
use Rattle.std.specs.Prelude.{Some}
use Rattle.line.specs.Scan.{on_digit}
use Rattle.line.specs.declared.turn.State.TheVariants.{Digits}
use Rattle.line.proofs.turn.longer.Goals as goal

pub returns-then-v-eq0 : goal.returns-then-v-eq0
unfolding on_digit
returns-then-v-eq0 c = rw c.if-v-eq0.true

pub returns-in_err-checked_mul : goal.returns-in_err-checked_mul
unfolding on_digit
returns-in_err-checked_mul c =
    let h = rw c.in_err-checked_mul.was at c.checked_mul.ensures in
    rw (c.from_residual.ensures, le-leb 1 c.args.v (omega arith), lt-leb (c.args.v * 10 + c.args.digit) 4294967295 (omega arith))

pub returns-in_err-w : goal.returns-in_err-w
unfolding on_digit
returns-in_err-w c =
    let k = rw c.in_ok-checked_mul.was at c.checked_mul.ensures in
    let h = rw c.in_err-w.was at c.checked_add.ensures in
    rw (c.from_residual-in_err-w.ensures, le-leb 1 c.args.v (omega arith), lt-leb (c.args.v * 10 + c.args.digit) 4294967295 (omega arith))

pub returns : goal.returns
unfolding on_digit
returns c =
    let k = rw c.in_ok-checked_mul.was at c.checked_mul.ensures in
    let h = rw c.in_ok-w.was at c.checked_add.ensures in
    rw (le-leb 1 c.args.v (omega arith), le-leb (c.args.v * 10 + c.args.digit) 4294967295 (omega arith)) (ap (λ n. Some (Digits n)) (omega arith))
