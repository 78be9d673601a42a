use mathlib.Core.Path.{sym, ap, ◌∙◌}
use borrow.Author.Tests.{eq-eqb, ne_eqb}
use Rattle.replace.specs.Internal.Pieces.{piece_of, fills_places}
use Rattle.replace.proofs.PieceLaws.{pick_yes, pick_no}
use Rattle.replace.proofs.pieces.piece_of.Goals as goal

pub returns-in_default : goal.returns-in_default
unfolding piece_of
returns-in_default c = rw c.in_default.is

pub returns-then-t-eq-BOUND_IDENT : goal.returns-then-t-eq-BOUND_IDENT
unfolding piece_of
returns-then-t-eq-BOUND_IDENT c = rw c.in-Ident.is (c.fill_piece.ensures ∙ sym (pick_yes _ _ (ap fills_places c.in-Places.is) ∙ pick_yes _ _ (eq-eqb _ _ c.if-t-eq-BOUND_IDENT.true)))

pub returns-else-t-eq-BOUND_IDENT : goal.returns-else-t-eq-BOUND_IDENT
unfolding piece_of
returns-else-t-eq-BOUND_IDENT c = rw c.in-Ident.is (sym (pick_yes _ _ (ap fills_places c.in-Places.is) ∙ pick_no _ _ (ne_eqb _ _ c.if-t-eq-BOUND_IDENT.false)))

pub returns-then-t-eq-FREE_IDENT : goal.returns-then-t-eq-FREE_IDENT
unfolding piece_of
returns-then-t-eq-FREE_IDENT c = rw c.in-Ident.is (c.free_piece.ensures ∙ sym (pick_no _ _ (ap fills_places c.in-Names.is) ∙ pick_yes _ _ (eq-eqb _ _ c.if-t-eq-FREE_IDENT.true)))

pub returns-else-t-eq-FREE_IDENT : goal.returns-else-t-eq-FREE_IDENT
unfolding piece_of
returns-else-t-eq-FREE_IDENT c = rw c.in-Ident.is (sym (pick_no _ _ (ap fills_places c.in-Names.is) ∙ pick_no _ _ (ne_eqb _ _ c.if-t-eq-FREE_IDENT.false)))
