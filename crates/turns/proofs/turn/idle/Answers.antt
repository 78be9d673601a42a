use Rattle.turns.proofs.turn.idle.Goals as goal

pub returns-then-st : goal.returns-then-st
returns-then-st c = rw (c.if-st.true, c.wait.ensures)

pub returns : goal.returns
returns c = rw (c.if-st.false, c.wait-2.ensures)
