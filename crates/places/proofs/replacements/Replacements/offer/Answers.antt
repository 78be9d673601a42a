use mathlib.Core.Path.{sym, ◌∙◌}
use native.Mathlib.Omega.{arith}
use borrow.Author.Tests.{eq-eqb, ne_eqb, lt-ltb, le-ltb}
use Rattle.places.specs.Internal.Sides.{offer_part}
use Rattle.places.proofs.SidesLaws.{above-is}
use Rattle.places.proofs.PlacesLaws.{place-from}
use Rattle.places.proofs.replacements.Replacements.offer.Goals as goal

pub returns-then-self-index : goal.returns-then-self-index
unfolding offer_part
returns-then-self-index c = rw (le-ltb _ _ c.if-self-index.true) c.refused.ensures

pub returns-then-not-is_above : goal.returns-then-not-is_above
unfolding offer_part
returns-then-not-is_above c = rw (lt-ltb _ _ c.if-self-index.false, sym (above-is c.args.part.target _ _ c.is_above.ensures (omega arith)) ∙ c.if-not-is_above.true) c.refused-then-not-is_above.ensures

pub returns-then-self-place-ne0 : goal.returns-then-self-place-ne0
unfolding offer_part
returns-then-self-place-ne0 c = rw (lt-ltb _ _ c.if-self-index.false, sym (above-is c.args.part.target _ _ c.is_above.ensures (omega arith)) ∙ c.if-not-is_above.false, place-from, ne_eqb _ _ c.if-self-place-ne0.true) c.refused-then-self-place-ne0.ensures

pub returns : goal.returns
unfolding offer_part
returns c = rw (lt-ltb _ _ c.if-self-index.false, sym (above-is c.args.part.target _ _ c.is_above.ensures (omega arith)) ∙ c.if-not-is_above.false, place-from c.args.self.n c.args.part.target, eq-eqb _ _ c.if-self-place-ne0.false)
