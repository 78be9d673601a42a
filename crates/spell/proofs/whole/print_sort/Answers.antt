use Rattle.spell.proofs.AnswerLaws.{sort-bad, sort-whole, sort-part}
use Rattle.spell.proofs.whole.print_sort.Goals as goal

pub returns-in_err-ends : goal.returns-in_err-ends
returns-in_err-ends c = rw c.from_residual.ensures (sort-bad _ _ c.requires _ _ _ c.print_node.ensures c.in_err-ends.was)

pub returns-then-ends-row : goal.returns-then-ends-row
returns-then-ends-row c = sort-part _ _ c.requires _ _ _ c.print_node.ensures _ _ c.in_ok-ends.was c.if-ends-row.true

pub returns : goal.returns
returns c = sort-whole _ _ c.requires _ _ _ c.print_node.ensures _ _ c.in_ok-ends.was c.if-ends-row.false
