-- The position of an offer is at most 8,192, so number and position can be read off its code. Assumes nothing.
use mathlib.Core.Path.{◌≡◌}
use mathlib.Core.Bool.{Bool, true, false}
use mathlib.Core.List.{List}
use Prim.Native.Nat.{ℕ, ◌≤◌, ◌/◌, ◌%◌, ◌^◌}
use native.Mathlib.Omega.{arith}
use lib.Dec.{leb, ltb, eqb}
use lib.ListN.{length, get_or}
use Rattle.tree.specs.Form.{Form, leaf, node, noted, none, more, pick}
use Rattle.form.specs.Break.{break_at}
use Rattle.form.specs.Decode.{Found, found, missing, form_of}
use Rattle.form.specs.declared.answer.Kind.TheVariants.{Predicate}
use Rattle.rules.specs.Replacement.{Offer, offer, no-offer, offered, above, side_of}
use Rattle.places.specs.Places.{after, start_of, end_of, place, fill_place, offer_sides, offer_form, offer_found, offer_result, offer_answer}
use Rattle.places.specs.declared.replacements.Replacements.{Replacements}
use Rattle.std.specs.Prelude.{Result, Ok, Err}
use Rattle.form.specs.Refusal.{position_of}
use Rattle.form.specs.declared.answer.Refusal.{Refusal}
use Rattle.form.specs.declared.answer.Refusal.TheVariants.{TooLong, TooManyPlaces, NoEquality, NoDeclaration, NotAbove, AlreadyFilled}
use Rattle.rules.proofs.OutcomeLaws.{break-low}
use Rattle.sogbayile.specs.Code.{packed}

abbrev Low : Result Replacements Refusal → Type 0
Low (Ok q) = Unit {0}
Low (Err r) = position_of r ≤ 8192

-- of two answers, either
either : (b : Bool) (x y : Result Replacements Refusal) → Low x → Low y → Low (pick b x y)
either true x y l m = l
either false x y l m = m

module _ (p : Replacements) where
  sides-low : (l r : Form) (o : Offer) → Low (offer_sides p l r o)
  sides-low l r no-offer = omega arith
  sides-low l r (offer i s) =
      either (ltb i p.n) _ (Err NoDeclaration)
      (either (above i (side_of l r s)) _ (Err NotAbove) (either (eqb (get_or p.ends (place p i) 0) 0) (Ok (fill_place p i (start_of l s) (end_of l r s))) (Err AlreadyFilled) tt (omega arith)) (omega arith)) (omega arith)

  form-low : (f : Form) → Low (offer_form p f)
  form-low (leaf x) = omega arith
  form-low (node t o ds none) = omega arith
  form-low (node t o ds (more l none)) = omega arith
  form-low (node t o ds (more l (more r none))) = either (eqb t 101) (offer_sides p l r (offered l r)) (Err NoEquality) (sides-low l r (offered l r)) (omega arith)
  form-low (node t o ds (more l (more r (more f fs)))) = omega arith
  form-low (noted t o ds ks) = omega arith

  offer-low : (row : List ℕ) → Low (offer_result p row)
  unfolding offer_result
  offer-low row = either (leb (length row) 8192) (offer_found p (break_at Predicate row) (form_of Predicate row)) (Err TooLong) (go (form_of Predicate row)) (omega arith)
    where
      go : (z : Found) → Low (offer_found p (break_at Predicate row) z)
      go (found s f) = either (leb p.n 32) (offer_form p f) (Err TooManyPlaces) (form-low f) (omega arith)
      go missing = break-low Predicate row

  pub offer-read : (row : List ℕ) → let o = offer_answer p row in (packed o.number o.position / 2 ^ 32 ≡ o.number) × (packed o.number o.position % 2 ^ 32 ≡ o.position)
  offer-read row = go (offer_result p row) (offer-low row)
    where
      go : (x : Result Replacements Refusal) → Low x → let o = after p x in (packed o.number o.position / 2 ^ 32 ≡ o.number) × (packed o.number o.position % 2 ^ 32 ≡ o.position)
      go (Ok q) h = (omega arith, omega arith)
      go (Err r) h = (omega (arith, h), omega (arith, h))
