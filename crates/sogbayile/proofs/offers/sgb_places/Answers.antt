use mathlib.Core.Path.{ap, sym, ◌∙◌}
use native.Mathlib.Omega.{arith}
use Rattle.places.proofs.KeptLaws.{kept-ok, kept-err}
use Rattle.sogbayile.proofs.offers.sgb_places.Goals as goal

pub returns-in-Ok : goal.returns-in-Ok
returns-in-Ok c = let e = kept-ok _ _ _ (sym c.new.ensures ∙ c.in-Ok.is) in record { value = rw e (omega arith); starts_after = rw e c.store.ensures.starts_after; ends_after = rw e c.store.ensures.ends_after }

pub returns-in-Err : goal.returns-in-Err
returns-in-Err c = let (e, p) = kept-err _ _ _ (sym c.new.ensures ∙ c.in-Err.is) in record {
  value = rw e c.refusal_code.ensures;
  starts_after = rw e (c.store-in-Err.ensures.starts_after ∙ ap (λ q. q.starts) p);
  ends_after = rw e (c.store-in-Err.ensures.ends_after ∙ ap (λ q. q.ends) p);
}
