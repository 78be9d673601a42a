use Rattle.broken.specs.Internal.Seeks.{next_then}
use native.Mathlib.Omega.{arith}
use Rattle.form.specs.Break.{least}
use Rattle.broken.proofs.due.least_then.Goals as goal

pub returns-in-Nothing : goal.returns-in-Nothing
unfolding next_then
returns-in-Nothing c = record { value = rw c.in-Nothing.is c.least_kids.ensures.value; upper_bound = omega arith }

pub returns-in-Exprs : goal.returns-in-Exprs
unfolding next_then
returns-in-Exprs c = record { value = rw c.in-Exprs.is c.least_kids-in-Exprs.ensures.value; upper_bound = omega arith }

pub returns-in-Preds : goal.returns-in-Preds
unfolding next_then
returns-in-Preds c = record { value = rw c.in-Preds.is c.least_kids-in-Preds.ensures.value; upper_bound = omega arith }

pub returns-in-Count : goal.returns-in-Count
unfolding next_then least
returns-in-Count c = record { value = rw c.in-Count.is (omega arith); upper_bound = omega arith }

pub returns-in-Declared : goal.returns-in-Declared
unfolding next_then least
returns-in-Declared c = record { value = rw c.in-Declared.is (omega arith); upper_bound = omega arith }

pub returns-in-Names : goal.returns-in-Names
unfolding next_then
returns-in-Names c = record { value = rw c.in-Names.is c.least_kids-in-Names.ensures.value; upper_bound = omega arith }

pub returns-in-NotedDeclared : goal.returns-in-NotedDeclared
unfolding next_then least
returns-in-NotedDeclared c = record { value = rw c.in-NotedDeclared.is (omega arith); upper_bound = omega arith }

pub returns-in-Noted : goal.returns-in-Noted
unfolding next_then
returns-in-Noted c = record { value = rw c.in-Noted.is c.least_decls-in-Noted.ensures.value; upper_bound = omega arith }

pub returns-in-Flag : goal.returns-in-Flag
unfolding next_then least
returns-in-Flag c = record { value = rw c.in-Flag.is c.least_flag.ensures.value; upper_bound = omega arith }

pub returns-in-Decl : goal.returns-in-Decl
unfolding next_then
returns-in-Decl c = record { value = rw c.in-Decl.is c.least_decl.ensures.value; upper_bound = omega arith }
