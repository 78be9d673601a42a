use native.Mathlib.Omega.{arith}
use borrow.Author.Tests.{eq-eqb, ne_eqb}
use Rattle.line.specs.Scan.{depth_after}
use Rattle.line.proofs.turn.depth_after.Goals as goal

pub returns-in-91 : goal.returns-in-91
unfolding depth_after
returns-in-91 c = rw (eq-eqb c.args.byte 91 (omega arith))

pub returns-in-93 : goal.returns-in-93
unfolding depth_after
returns-in-93 c = rw (ne_eqb c.args.byte 91 (λ e. omega arith), eq-eqb c.args.byte 93 (omega arith))

pub returns-in_default : goal.returns-in_default
unfolding depth_after
returns-in_default c = rw (ne_eqb c.args.byte 91 (λ e. omega arith), ne_eqb c.args.byte 93 (λ e. omega arith))
