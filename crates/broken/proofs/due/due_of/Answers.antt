use Rattle.broken.specs.Internal.Seeks.{next_then, next_due}
use Rattle.tree.specs.Tag.{own_of}
use Rattle.form.specs.Break.{next_of}
use Rattle.broken.proofs.due.due_of.Goals as goal

pub returns-in-Unknown : goal.returns-in-Unknown
unfolding own_of next_of next_then next_due
returns-in-Unknown c = rw c.in-Unknown.is

pub returns-in-Plain : goal.returns-in-Plain
unfolding own_of next_of next_then next_due
returns-in-Plain c = rw c.in-Plain.is

pub returns-in-Name : goal.returns-in-Name
unfolding own_of next_of next_then next_due
returns-in-Name c = rw c.in-Name.is

pub returns-in-Value : goal.returns-in-Value
unfolding own_of next_of next_then next_due
returns-in-Value c = rw c.in-Value.is

pub returns-in-Exprs : goal.returns-in-Exprs
unfolding own_of next_of next_then next_due
returns-in-Exprs c = rw c.in-Exprs.is

pub returns-in-Preds : goal.returns-in-Preds
unfolding own_of next_of next_then next_due
returns-in-Preds c = rw c.in-Preds.is

pub returns-in-Apply : goal.returns-in-Apply
unfolding own_of next_of next_then next_due
returns-in-Apply c = rw c.in-Apply.is

pub returns-in-Compr : goal.returns-in-Compr
unfolding own_of next_of next_then next_due
returns-in-Compr c = rw c.in-Compr.is

pub returns-in-Quant : goal.returns-in-Quant
unfolding own_of next_of next_then next_due
returns-in-Quant c = rw c.in-Quant.is

pub returns-in-NotedCompr : goal.returns-in-NotedCompr
unfolding own_of next_of next_then next_due
returns-in-NotedCompr c = rw c.in-NotedCompr.is

pub returns-in-NotedQuant : goal.returns-in-NotedQuant
unfolding own_of next_of next_then next_due
returns-in-NotedQuant c = rw c.in-NotedQuant.is
