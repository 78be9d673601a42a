-- Rows offered in turn to one set of places.
use Rattle.std.specs.Prelude.{List, ℕ, eqb, Result, Ok, Err}
use Rattle.tree.specs.Form.{pick}
use Rattle.form.specs.Refusal.{number_of, position_of}
use Rattle.form.specs.declared.answer.Refusal.{Refusal}
use Rattle.places.specs.Places.{Offered, new_of, offer_answer}
use Rattle.places.specs.declared.replacements.Replacements.{Replacements}
use Rattle.places.specs.declared.replacements.Refused.{Refused}

-- an accepted set is offered the row; a refused one is answered as it is
unfoldable pub then_offer : Offered → List ℕ → Offered
then_offer o row = pick (eqb o.number 0) (offer_answer o.places row) o

unfoldable pub offer_two : ℕ → List ℕ → List ℕ → Offered
offer_two n first second = then_offer (then_offer (new_of n) first) second

-- a set as an offer left it, and what came of the offer
abbrev pub left_by : {A : Type 0} → Replacements → Result A Refusal → Offered
left_by p (Ok x) = record { places = p; number = 0; position = 0 }
left_by p (Err r) = record { places = p; number = number_of r; position = position_of r }

-- the set that is answered, or the one that was refused a row
abbrev pub told_two : Result Replacements Refused → Offered
told_two (Ok p) = record { places = p; number = 0; position = 0 }
told_two (Err e) = record { places = e.places; number = number_of e.refusal; position = position_of e.refusal }
