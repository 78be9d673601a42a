use mathlib.Core.Path.{refl, sym, ◌∙◌}
use native.Mathlib.Omega.{arith}
use Rattle.places.proofs.KeptLaws.{kept-ok, kept-err}
use Rattle.sogbayile.proofs.offers.sgb_offer.Goals as goal

pub returns-in-Ok : goal.returns-in-Ok
returns-in-Ok c = let e = kept-ok _ _ _ (sym c.check.ensures ∙ c.in-Ok.is) in record { value = rw e (omega arith); starts_after = rw e c.store.ensures.starts_after; ends_after = rw e c.store.ensures.ends_after }

pub returns-in-Err : goal.returns-in-Err
returns-in-Err c = let (e, p) = kept-err _ _ _ (sym c.check.ensures ∙ c.in-Err.is) in record { value = rw e c.refusal_code.ensures; starts_after = rw e refl; ends_after = rw e refl }
