use Rattle.std.proofs.Common.{le-ltb, lt-ltb, eq-eqb, ne_eqb}
use Rattle.shift.specs.Internal.Items.{move_item}
use Rattle.shift.proofs.shift.move_item.Goals as goal

pub returns-in-Ident : goal.returns-in-Ident
unfolding move_item
returns-in-Ident c = rw (c.in-Ident.is, eq-eqb _ _ c.if-t-eq-BOUND_IDENT.true, le-ltb _ _ c.if-k-v.true, c.move_word.ensures)

pub returns-in_default : goal.returns-in_default
unfolding move_item
returns-in_default c = rw (c.in-Ident.is, eq-eqb _ _ c.if-t-eq-BOUND_IDENT.true, lt-ltb _ _ c.if-k-v.false)

pub returns-in_default-2 : goal.returns-in_default-2
unfolding move_item
returns-in_default-2 c = rw (c.in-Ident.is, ne_eqb _ _ c.if-t-eq-BOUND_IDENT.false)

pub returns-in_default-3 : goal.returns-in_default-3
unfolding move_item
returns-in_default-3 c = rw c.in_default.is
