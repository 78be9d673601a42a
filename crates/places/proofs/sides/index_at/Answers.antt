use mathlib.Core.Path.{sym}
use borrow.Author.Tests.{eq-eqb}
use Rattle.form.proofs.HeadLaws.{gone, here}
use Rattle.places.specs.Internal.Sides.{index_words}
use Rattle.places.proofs.SidesLaws.{not-index}
use Rattle.places.proofs.sides.index_at.Goals as goal

pub returns-in_err-get : goal.returns-in_err-get
unfolding index_words
returns-in_err-get c = rw (c.from_residual.ensures, gone _ _ c.in_err-get.ensures.lookup.3)

pub returns-then-branch-ne-BOUND_IDENT : goal.returns-then-branch-ne-BOUND_IDENT
returns-then-branch-ne-BOUND_IDENT c =
    let (h, w) = c.in_ok-get.ensures.lookup.3 in
    rw (here _ _ h, ← w 0) (sym (not-index _ _ c.if-branch-ne-BOUND_IDENT.true))

pub returns-in_err-get-2 : goal.returns-in_err-get-2
unfolding index_words
returns-in_err-get-2 c = rw (c.from_residual-in_err-get-2.ensures, here _ _ c.in_ok-get.ensures.lookup.3.0, gone _ _ c.in_err-get-2.ensures.lookup.3)

pub returns : goal.returns
unfolding index_words
returns c =
    let (h, w) = c.in_ok-get.ensures.lookup.3 in
    let (k, v) = c.in_ok-get-2.ensures.lookup.3 in
    rw (here _ _ h, here _ _ k, ← w 0, ← v 0, eq-eqb _ _ c.if-branch-ne-BOUND_IDENT.false)
