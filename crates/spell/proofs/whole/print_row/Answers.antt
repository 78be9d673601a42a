use Rattle.spell.proofs.AnswerLaws.{printed-form}
use Rattle.spell.proofs.whole.print_row.Goals as goal

pub returns : goal.returns
returns c = printed-form _ _ c.is_expr-expression.ensures _ _ _ c.print_sort.ensures
