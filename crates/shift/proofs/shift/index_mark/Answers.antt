use Rattle.std.proofs.Common.{eq-eqb, ne_eqb}
use Rattle.shift.proofs.shift.index_mark.Goals as goal

pub returns-then-t-eq-BOUND_IDENT : goal.returns-then-t-eq-BOUND_IDENT
returns-then-t-eq-BOUND_IDENT c = rw (eq-eqb _ _ c.if-t-eq-BOUND_IDENT.true)

pub returns : goal.returns
returns c = rw (ne_eqb _ _ c.if-t-eq-BOUND_IDENT.false)
