use Rattle.broken.specs.Internal.Seeks.{next_then, next_due}
use Rattle.broken.proofs.due.then_of.Goals as goal

pub returns-in-Nothing : goal.returns-in-Nothing
unfolding next_then next_due
returns-in-Nothing c = rw c.in-Nothing.is

pub returns-in-Exprs : goal.returns-in-Exprs
unfolding next_then next_due
returns-in-Exprs c = rw c.in-Exprs.is

pub returns-in-Preds : goal.returns-in-Preds
unfolding next_then next_due
returns-in-Preds c = rw c.in-Preds.is

pub returns-in-Count : goal.returns-in-Count
unfolding next_then next_due
returns-in-Count c = rw c.in-Count.is

pub returns-in-Declared : goal.returns-in-Declared
unfolding next_then next_due
returns-in-Declared c = rw c.in-Declared.is

pub returns-in-Names : goal.returns-in-Names
unfolding next_then next_due
returns-in-Names c = rw c.in-Names.is

pub returns-in-NotedDeclared : goal.returns-in-NotedDeclared
unfolding next_then next_due
returns-in-NotedDeclared c = rw c.in-NotedDeclared.is

pub returns-in-Noted : goal.returns-in-Noted
unfolding next_then
returns-in-Noted c = rw c.in-Noted.is c.decls_due.ensures

pub returns-in-Flag : goal.returns-in-Flag
unfolding next_then next_due
returns-in-Flag c = rw (c.in-Flag.is, c.low_flag.ensures)

pub returns-in-Decl : goal.returns-in-Decl
unfolding next_then
returns-in-Decl c = rw c.in-Decl.is c.after_flag.ensures
