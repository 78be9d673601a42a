use native.Mathlib.Omega.{arith}
use borrow.Author.Tests.{le-leb, lt-leb, eq-eqb, ne_eqb}
use Rattle.line.specs.Scan.{turn}
use Rattle.line.proofs.turn.next.Goals as goal

pub returns-in-32 : goal.returns-in-32
unfolding turn
returns-in-32 c = rw (ne_eqb c.args.byte 91 (λ e. omega arith), ne_eqb c.args.byte 93 (λ e. omega arith), eq-eqb c.args.byte 32 (omega arith)) c.after_space.ensures

pub returns-in-91 : goal.returns-in-91
unfolding turn
returns-in-91 c = rw (eq-eqb c.args.byte 91 (omega arith)) c.after_open.ensures

pub returns-in-93 : goal.returns-in-93
unfolding turn
returns-in-93 c = rw (ne_eqb c.args.byte 91 (λ e. omega arith), eq-eqb c.args.byte 93 (omega arith)) c.after_close.ensures

pub returns-in-48-to-57 : goal.returns-in-48-to-57
unfolding turn
returns-in-48-to-57 c =
    rw (ne_eqb c.args.byte 91 (λ e. omega arith), ne_eqb c.args.byte 93 (λ e. omega arith), ne_eqb c.args.byte 32 (λ e. omega arith), le-leb 48 c.args.byte (omega arith), le-leb c.args.byte 57 (omega arith))
    (rw c.from.ensures at c.after_digit.ensures)

pub returns-in_default : goal.returns-in_default
unfolding turn
returns-in_default c = rw (ne_eqb c.args.byte 91 (λ e. omega arith), ne_eqb c.args.byte 93 (λ e. omega arith), ne_eqb c.args.byte 32 (λ e. omega arith), lt-leb 48 c.args.byte (omega arith))

pub returns-in_default-2 : goal.returns-in_default-2
unfolding turn
returns-in_default-2 c =
    rw (ne_eqb c.args.byte 91 (λ e. omega arith), ne_eqb c.args.byte 93 (λ e. omega arith), ne_eqb c.args.byte 32 (λ e. omega arith), le-leb 48 c.args.byte (omega arith), lt-leb c.args.byte 57 (omega arith))
