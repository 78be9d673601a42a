use Rattle.spell.proofs.AnswerLaws.{no_room, no-done}
use Rattle.tree.proofs.Pairs.{both}
use Rattle.spell.proofs.answer.print_no.Goals as goal

pub returns-then-out-n : goal.returns-then-out-n
returns-then-out-n c = both (λ v w. record { value = v; out_after = w }) (no_room _ _ _ _ _ c.put_no-n.ensures _ c.if-out-n.true)

pub returns : goal.returns
returns c = both (λ v w. record { value = v; out_after = w }) (no-done _ _ _ _ _ c.put_no-n.ensures _ c.if-out-n.false _ _ c.put_no.ensures)
