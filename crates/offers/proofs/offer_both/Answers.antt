use mathlib.Core.Path.{sym}
use Rattle.std.proofs.lemmas.Result.{err_from_is_err_and}
use Rattle.offers.proofs.OfferLaws.{then-refused, then-offered}
use Rattle.offers.proofs.offer_both.Goals as goal

pub returns-in_err-offer : goal.returns-in_err-offer
returns-in_err-offer c =
    let p = err_from_is_err_and c.from_residual.result c.from_residual.ensures.1 in
    rw (p.1, p.2, ← c.in_err-offer.ensures.value) (sym (then-refused c.offer.new.places _ c.args.second.now))

pub returns : goal.returns
returns c = rw (← c.in_ok-offer.ensures.value, then-offered c.offer.new.places) c.offer-2.ensures.value
