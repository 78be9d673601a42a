-- Worked readings of forms written with names: names that are declared again, across quantifiers and in one; and an index, for which the two
-- values differ. Each is computed. Assumes nothing.
use mathlib.Core.Path.{◌≡◌, refl, ap, ◌∙◌}
use mathlib.Core.Bool.{Bool, true, false}
use mathlib.Core.List.{[], ◌∷◌, map, flat_map}
use Prim.Native.Nat.{ℕ}
use lib.IntN.{pos}
use Rattle.tree.specs.Form.{free, Form, leaf, node, none, more}
use Rattle.form.specs.Decode.{index_free}
use Rattle.rules.specs.Split.{equal}
use Rattle.rules.specs.Named.{occurrence, nameless}
use Rattle.reading.specs.Reading.{Reading, truth, child, value_of, value, holds}
use Rattle.reading.specs.Named.{value_by_name}
use Rattle.reading.proofs.NamedTruth.{named_value}
use Rattle.reading.proofs.Worked.{reading_with, one, index, several}

abbrev name : ℕ → Form
name m = leaf (free m)

-- a predicate is true if it is read by names; then what named gives is true
abbrev holds_by_name : Reading → Form → Bool
holds_by_name R f = truth (value_by_name R R.name f)

same_truth : (R : Reading) (f g : Form) → index_free f ≡ true → nameless [] f ≡ g → holds_by_name R f ≡ true → holds R g ≡ true
same_truth R f g i e h = rw (← e) (ap truth (named_value R f i) ∙ h)

-- [851 2 4 4 [852 1 5 [351 2 [101 x a] [852 1 4 [8 [101 y b]]]]]]. With [1 4] for x and y and [1 5] for a and b: each 4 has an equal 5, from which
-- some 4 of the inner quantifier differs
abbrev two_fours : Form → Form → Form → Form → Form
two_fours x a y b =
    let inner : Form = node 852 (1 ∷ []) (4 ∷ []) (one (node 8 [] [] (one (equal y b)))) in
    node 851 (2 ∷ []) (4 ∷ 4 ∷ []) (one (node 852 (1 ∷ []) (5 ∷ []) (one (node 351 (2 ∷ []) [] (more (equal x a) (one inner))))))

abbrev shadowed : Form
shadowed = two_fours (name 4) (name 5) (name 4) (name 5)

abbrev shadowed_nameless : Form
shadowed_nameless = two_fours (index 1) (index 0) (index 0) (index 1)

pub shadowed-nameless : nameless [] shadowed ≡ shadowed_nameless
unfolding nameless occurrence
shadowed-nameless = refl

pub shadowed-by-name : holds_by_name several shadowed ≡ true
unfolding value_by_name value_of flat_map
shadowed-by-name = refl

pub shadowed-true : holds several shadowed_nameless ≡ true
unfolding index_free
shadowed-true = same_truth several shadowed shadowed_nameless refl shadowed-nameless shadowed-by-name

-- if the outer 4 counted in the inner quantifier too, it would be false
pub outer-false : holds several (two_fours (index 1) (index 0) (index 2) (index 1)) ≡ false
unfolding value value_of flat_map
outer-false = refl

-- two declarations of one name in a quantifier have the same range, so no quantifier's truth tells which of them counts; the order of a
-- comprehension's values does. Here a comprehension has the second of its values
abbrev second : Reading
second = reading_with (λ vs. child 1 (map (λ e. e.1) vs)) ((4, pos 1 ∷ pos 2 ∷ []) ∷ [])

-- [101 [803 0 2 4 4 [610] x] [1 2]]: the second choice is 1 for the first 4 and 2 for the last, which counts where x is [1 4]
abbrev second_is_two : Form → Form
second_is_two x = equal (node 803 (0 ∷ 2 ∷ []) (4 ∷ 4 ∷ []) (more (node 610 [] [] none) (one x))) (name 2)

pub last-nameless : nameless [] (second_is_two (name 4)) ≡ second_is_two (index 0)
unfolding nameless occurrence
last-nameless = refl

pub last-by-name : holds_by_name second (second_is_two (name 4)) ≡ true
unfolding value_by_name value_of flat_map
last-by-name = refl

pub last-true : holds second (second_is_two (index 0)) ≡ true
unfolding index_free
last-true = same_truth second (second_is_two (name 4)) (second_is_two (index 0)) refl last-nameless last-by-name

-- if the first counted, it would be false
pub first-false : holds second (second_is_two (index 1)) ≡ false
unfolding value value_of flat_map
first-false = refl

-- [852 1 4 [101 [2 0] [1 2]]] has an index, which comes back as it is: read by names it has the reading's value, 0, and in the result the
-- declaration of 4 binds it, with 2 in its range
abbrev with_index : Form
with_index = node 852 (1 ∷ []) (4 ∷ []) (one (equal (index 0) (name 2)))

pub index-differs : (index_free with_index ≡ false) × (holds_by_name several with_index ≡ false) × (holds several (nameless [] with_index) ≡ true)
unfolding index_free nameless occurrence value value_by_name value_of flat_map
index-differs = (refl, refl, refl)
