use borrow.Author.Tests.{eq-eqb, ne_eqb}
use Rattle.turns.proofs.turn.wait.Goals as goal

pub returns-then-st-eq0 : goal.returns-then-st-eq0
returns-then-st-eq0 c = rw (eq-eqb c.args.st.used 0 c.if-st-eq0.true)

pub returns : goal.returns
returns c = rw (ne_eqb c.args.st.used 0 c.if-st-eq0.false)
