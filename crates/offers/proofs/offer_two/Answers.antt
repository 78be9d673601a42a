use mathlib.Core.Path.{sym, ◌∙◌}
use Rattle.tree.proofs.Residual.{exit-with}
use Rattle.places.proofs.KeptLaws.{kept-ok, kept-err}
use Rattle.offers.proofs.OfferLaws.{none-offered, both-offered}
use Rattle.offers.proofs.offer_two.Goals as goal

pub returns-in_err-places : goal.returns-in_err-places
returns-in_err-places c = let (x, p) = kept-err _ _ _ (sym c.new.ensures ∙ c.in_err-places.was) in rw (exit-with c.from_residual.ensures.1, p) (none-offered _ _ _ _ x)

pub returns-in-Ok : goal.returns-in-Ok
returns-in-Ok c = (rw c.in-Ok.is at c.offer_both.ensures) ∙ both-offered _ _ _ _ (kept-ok _ _ _ (sym c.new.ensures ∙ c.in_ok-places.was))

pub returns-in-Err : goal.returns-in-Err
returns-in-Err c = (rw c.in-Err.is at c.offer_both.ensures) ∙ both-offered _ _ _ _ (kept-ok _ _ _ (sym c.new.ensures ∙ c.in_ok-places.was))
