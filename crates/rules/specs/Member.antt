-- Membership: an element in a comprehension becomes an existence, its equalities offered to the places.
use Rattle.std.specs.Prelude.{Bool, true, false, not, ◌&&◌, List, [], ◌∷◌, map, ℕ, suc, ◌-◌, eqb, length, get_or}
use Rattle.std.proofs.Math.Option.{Option, none as absent, some}
use Rattle.tree.specs.Form.{Form, leaf, node, noted, Forms, none, more, pick}
use Rattle.form.specs.Lists.{Place, kept, filled}
use Rattle.form.specs.Answer.{Outcome, with_work, with_form}
use Rattle.form.specs.declared.answer.Kind.TheVariants.{Predicate}
use Rattle.rules.specs.Walk.{lift}
use Rattle.rules.specs.Fill.{Decl, unnoted, listed, quantify}
use Rattle.rules.specs.Replacement.{Taken, taken, nothing, accept}
use Rattle.rules.specs.Split.{of_two, is_nil, parts, equal}
use Rattle.rules.specs.Scan.{join_all}
use Rattle.rules.specs.Partial.{no_places, set_place, front, instantiate_partial}
use Rattle.rules.specs.Point.{of_result}

-- places filled so far, and the parts that were not accepted
pub data Offers : Type 0 where
  offers : List Place → Forms → Offers

abbrev pub is_free : Place → Bool
is_free = elim [ kept ↦ true | filled e ↦ false ]

abbrev pub leave : Form → Offers → Offers
leave f (offers ps fs) = offers ps (more f fs)

-- each part in order, offered to the places that earlier parts left free
abbrev pub offer_next : ℕ → Form → List Place → Taken → (List Place → Offers) → Offers
offer_next n f ps (taken i e) later =
    pick (is_free (get_or ps (n - suc i) kept)) (later (set_place n i e ps)) (leave f (later ps))
offer_next n f ps nothing later = leave f (later ps)

unfoldable pub offer_all : ℕ → List (Form × Form) → List Place → Offers
offer_all n [] ps = offers ps none
offer_all n (p ∷ rest) ps = offer_next n (equal p.0 p.1) ps (accept n p.0 p.1) (λ qs. offer_all n rest qs)

abbrev pub any_filled : List Place → Bool
any_filled ps = not (eqb (front ps) (length ps))

-- guard and unaccepted parts joined, the guard first, and filled; only quantified where no place was filled
abbrev pub fill_offers : List Decl → Form → Offers → Form
fill_offers ns g (offers ps fs) =
    pick (any_filled ps) (instantiate_partial 852 ns ps (join_all 351 g fs)) (quantify 852 ns (join_all 351 g fs))

-- the element shifted up by the declarations, equal to the comprehension's value
abbrev pub member_of : Form → List Decl → Form → Form → Form
member_of element ns guard value =
    let n = length ns in
    fill_offers ns guard (offer_all n (parts value (lift n element)) (no_places n))

-- 107 with 803 or 873 on its right
abbrev pub in_set : Form → Form → Option Form
in_set element (leaf x) = absent
in_set element (node t o ns ks) = of_two absent (λ g v. pick (eqb t 803) (some (member_of element (map unnoted ns) g v)) absent) ks
in_set element (noted t o ds ks) = of_two absent (λ g v. pick (eqb t 873) (some (member_of element (listed ds) g v)) absent) ks

unfoldable pub membership : Form → Option Form
membership (leaf x) = absent
membership (node t o ds ks) = of_two absent (λ l r. pick (eqb t 107 && is_nil ds) (in_set l r) absent) ks
membership (noted t o ds ks) = absent

unfoldable pub member_outcome : List ℕ → ℕ → ℕ → Outcome
member_outcome row work room = with_work work (with_form Predicate row (λ s f. of_result room (membership f)))
