-- Two offers in turn, by where the first refusal is. Assumes nothing.
use mathlib.Core.Bool.{false}
use mathlib.Core.List.{List}
use mathlib.Core.Path.{◌≡◌, refl, sym}
use Prim.Native.Nat.{ℕ}
use lib.Dec.{eqb}
use Rattle.std.specs.Prelude.{Ok, Err}
use Rattle.form.specs.Refusal.{number_of}
use Rattle.form.specs.declared.answer.Refusal.{Refusal}
use Rattle.form.specs.declared.answer.Refusal.TheVariants.{TooLong, NotQuantified, BadNames, TooManyPlaces, Captured, OutOfLimits, NotACommand, NothingToRewrite, NoEquality, NoDeclaration, NotAbove, AlreadyFilled, OutputTooShort, WorkTooShort, Broken}
use Rattle.places.specs.Places.{empty_for, after, new_result, offer_answer}
use Rattle.places.specs.declared.replacements.Replacements.{Replacements}
use Rattle.offers.specs.Offers.{then_offer, offer_two}

not_zero : (r : Refusal) → eqb (number_of r) 0 ≡ false
not_zero TooLong = refl
not_zero (Broken p) = refl
not_zero NotQuantified = refl
not_zero BadNames = refl
not_zero TooManyPlaces = refl
not_zero Captured = refl
not_zero OutOfLimits = refl
not_zero NotACommand = refl
not_zero NothingToRewrite = refl
not_zero NoEquality = refl
not_zero NoDeclaration = refl
not_zero NotAbove = refl
not_zero AlreadyFilled = refl
not_zero OutputTooShort = refl
not_zero WorkTooShort = refl

-- a refused set stays as it is, an accepted one is offered the row
pub then-refused : (q : Replacements) (r : Refusal) (row : List ℕ) → then_offer (after q (Err r)) row ≡ after q (Err r)
unfolding then_offer
then-refused q r row = rw (not_zero r)

pub then-offered : (p q : Replacements) (row : List ℕ) → then_offer (after p (Ok q)) row ≡ offer_answer q row
unfolding then_offer
then-offered p q row = refl

module _ (n : ℕ) (first second : List ℕ) where
  pub none-offered : (r : Refusal) → new_result n ≡ Err r → after (empty_for 0) (Err r) ≡ offer_two n first second
  unfolding offer_two
  none-offered r e = rw (e, then-refused (empty_for 0) r first) (sym (then-refused (empty_for 0) r second))

  pub both-offered : (p : Replacements) → new_result n ≡ Ok p → then_offer (offer_answer p first) second ≡ offer_two n first second
  unfolding offer_two then_offer
  both-offered p e = rw e refl
