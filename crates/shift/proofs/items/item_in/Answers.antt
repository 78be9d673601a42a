use Rattle.std.proofs.Common.{le-ltb, lt-ltb, eq-eqb, ne_eqb, le-leb}
use borrow.Author.Tests.{lt-leb}
use Rattle.shift.specs.Internal.Items.{item_in}
use Rattle.shift.proofs.items.item_in.Goals as goal

pub returns-then-lo-v : goal.returns-then-lo-v
unfolding item_in
returns-then-lo-v c = rw (c.in-Ident.is, eq-eqb _ _ c.if-t-eq-BOUND_IDENT.true, le-ltb _ _ c.if-k-v.true, le-leb _ _ c.if-lo-v.true)

pub returns-else-lo-v : goal.returns-else-lo-v
unfolding item_in
returns-else-lo-v c = rw (c.in-Ident.is, eq-eqb _ _ c.if-t-eq-BOUND_IDENT.true, le-ltb _ _ c.if-k-v.true, lt-leb _ _ c.if-lo-v.false)

pub returns-in_default : goal.returns-in_default
unfolding item_in
returns-in_default c = rw (c.in-Ident.is, eq-eqb _ _ c.if-t-eq-BOUND_IDENT.true, lt-ltb _ _ c.if-k-v.false)

pub returns-in_default-2 : goal.returns-in_default-2
unfolding item_in
returns-in_default-2 c = rw (c.in-Ident.is, ne_eqb _ _ c.if-t-eq-BOUND_IDENT.false)

pub returns-in_default-3 : goal.returns-in_default-3
unfolding item_in
returns-in_default-3 c = rw c.in_default.is
