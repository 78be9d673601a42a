use Rattle.std.proofs.Common.{sym, ◌∙◌, eq-eqb, ne_eqb, lt-ltb, le-ltb}
use Rattle.subst.specs.Internal.Binding.{bound_item}
use Rattle.subst.proofs.bind.bound_item.Goals as goal

pub returns-in_default : goal.returns-in_default
unfolding bound_item
returns-in_default c = rw c.in_default.is

pub returns-in_default-seek : goal.returns-in_default-seek
unfolding bound_item
returns-in_default-seek c = rw (c.in-Ident.is, eq-eqb _ _ c.if-t-eq-FREE_IDENT.true, sym c.seek.ensures ∙ c.in_default-seek.is)

pub returns-then-t-eq-FREE_IDENT : goal.returns-then-t-eq-FREE_IDENT
unfolding bound_item
returns-then-t-eq-FREE_IDENT c = rw (c.in-Ident.is, eq-eqb _ _ c.if-t-eq-FREE_IDENT.true, sym c.seek.ensures ∙ c.in-Some.is, c.move_word.ensures)

pub returns-then-v-k : goal.returns-then-v-k
unfolding bound_item
returns-then-v-k c = rw (c.in-Ident.is, ne_eqb _ _ c.if-t-eq-FREE_IDENT.false, lt-ltb _ _ c.if-v-k.true)

pub returns : goal.returns
unfolding bound_item
returns c = rw (c.in-Ident.is, ne_eqb _ _ c.if-t-eq-FREE_IDENT.false, le-ltb _ _ c.if-v-k.false, c.move_word-2.ensures)
