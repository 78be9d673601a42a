-- The set of places as the code holds it: a new set, and what an offer answers.
use Rattle.std.specs.Prelude.{Result, Ok, Err, List, ℕ, suc, ◌+◌, ◌-◌, leb, ltb, eqb, length, get_or, set, replicate}
use Rattle.tree.specs.Form.{Form, leaf, node, noted, pick, encode}
use Rattle.form.specs.Break.{break_at}
use Rattle.form.specs.Decode.{Found, found, missing, form_of}
use Rattle.form.specs.Refusal.{number_of, position_of}
use Rattle.form.specs.declared.answer.Kind.TheVariants.{Predicate}
use Rattle.form.specs.declared.answer.Refusal.{Refusal}
use Rattle.form.specs.declared.answer.Refusal.TheVariants.{TooLong, TooManyPlaces, NoEquality, NoDeclaration, NotAbove, AlreadyFilled, Broken}
use Rattle.rules.specs.Replacement.{Side, left, right, side_of, Offer, offer, no-offer, offered, above}
use Rattle.rules.specs.Split.{of_two}
use Rattle.places.specs.declared.replacements.Replacements.{Replacements}
use Rattle.places.specs.declared.replacements.Refused.{Refused}

-- a set, and the number and the position of what refused a row; both are 0 where nothing did
pub record Offered : Type 0 where
  pub places : Replacements
  pub number : ℕ
  pub position : ℕ

-- what comes of an offer to the set p, as the code answers it: a refusal leaves p as it is
abbrev pub after : Replacements → Result Replacements Refusal → Offered
after p (Ok q) = record { places = q; number = 0; position = 0 }
after p (Err r) = record { places = p; number = number_of r; position = position_of r }

-- what the code answers to an offer to the set p: the set that comes of it, or p, as it is, and why it was refused
abbrev pub or_kept : Replacements → Result Replacements Refusal → Result Replacements Refused
or_kept p (Ok q) = Ok q
or_kept p (Err r) = Err (record { places = p; refusal = r })

abbrev pub empty_for : ℕ → Replacements
empty_for n = record { starts = replicate 32 0; ends = replicate 32 0; n = n }

-- for at most 32 declarations
unfoldable pub new_result : ℕ → Result Replacements Refusal
new_result n = pick (leb n 32) (Ok (empty_for n)) (Err TooManyPlaces)

-- where it is refused, it is the set for 0
abbrev pub new_of : ℕ → Offered
new_of n = after (empty_for 0) (new_result n)

-- where a side of the equality l = r stands in its row
abbrev pub start_of : Form → Side → ℕ
start_of l = elim [ left ↦ 1 | right ↦ 1 + length (encode l) ]

abbrev pub end_of : Form → Form → Side → ℕ
end_of l r = elim [ left ↦ 1 + length (encode l) | right ↦ 1 + length (encode l) + length (encode r) ]

-- declaration j of n is index n - 1 - j, so the target i has place n - 1 - i
abbrev pub place : Replacements → ℕ → ℕ
place p i = p.n - suc i

abbrev pub fill_place : Replacements → ℕ → ℕ → ℕ → Replacements
fill_place p i s e = record { starts = set p.starts (place p i) s; ends = set p.ends (place p i) e; n = p.n }

abbrev pub offer_sides : Replacements → Form → Form → Offer → Result Replacements Refusal
offer_sides p l r no-offer = Err NoEquality
offer_sides p l r (offer i s) =
    let free = pick (eqb (get_or p.ends (place p i) 0) 0) (Ok (fill_place p i (start_of l s) (end_of l r s))) (Err AlreadyFilled) in
    pick (ltb i p.n) (pick (above i (side_of l r s)) free (Err NotAbove)) (Err NoDeclaration)

abbrev pub offer_form : Replacements → Form → Result Replacements Refusal
offer_form p (leaf x) = Err NoEquality
offer_form p (node t o ds ks) =
    of_two (Err NoEquality) (λ l r. pick (eqb t 101) (offer_sides p l r (offered l r)) (Err NoEquality)) ks
offer_form p (noted t o ds ks) = Err NoEquality

abbrev pub offer_found : Replacements → ℕ → Found → Result Replacements Refusal
offer_found p q = elim [ found s f ↦ pick (leb p.n 32) (offer_form p f) (Err TooManyPlaces) | missing ↦ Err (Broken q) ]

-- which refusal comes first: too long, broken, over 32 declarations, no equality, no declaration, not above, filled
unfoldable pub offer_result : Replacements → List ℕ → Result Replacements Refusal
offer_result p row = pick (leb (length row) 8192) (offer_found p (break_at Predicate row) (form_of Predicate row)) (Err TooLong)

abbrev pub offer_answer : Replacements → List ℕ → Offered
offer_answer p row = after p (offer_result p row)
