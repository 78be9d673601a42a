-- Worked readings: the premise can be met; without it the truth is lost; and joining unlike operators, as the Rust does, loses it although
-- the premise is met. Each is computed. Assumes nothing.
use mathlib.Core.Path.{◌≡◌, refl, ap, ◌∙◌, sym}
use mathlib.Core.List.{List, [], ◌∷◌, flat_map}
use mathlib.Core.Option.{some}
use mathlib.Core.Bool.{Bool, true, false}
use Prim.Native.Nat.{ℕ, zero, suc, ◌+◌}
use native.Mathlib.Omega.{arith}
use lib.Dec.{eqb}
use lib.IntN.{ℤ, pos, negsuc}
use Rattle.tree.specs.Form.{free, bound, Form, leaf, node, noted, undeclared, bare, typed, Forms, none, more, pick}
use Rattle.rules.specs.Walk.{walk, collect}
use Rattle.rules.specs.Fill.{quantified, fill}
use Rattle.rules.specs.Replacement.{accept}
use Rattle.rules.specs.Split.{parts, equal}
use Rattle.rules.specs.Scan.{offer_parts, scan}
use Rattle.rules.specs.Partial.{put_round, instantiate_partial}
use Rattle.rules.specs.Point.{one_point}
use Rattle.reading.specs.Reading.{Reading, value_of, value, holds}
use Rattle.reading.specs.Premise.{premise}
use Rattle.reading.proofs.PointTruth.{point-keeps-truth}

-- pairs of whole numbers as whole numbers: 2 to the power of one code, times an odd number for the other
abbrev code : ℤ → ℕ
code (pos n) = n + n
code (negsuc n) = suc (n + n)

pub code_one : (a b : ℤ) → code a ≡ code b → a ≡ b
code_one (pos m) (pos n) e = ap pos (omega arith)
code_one (pos m) (negsuc n) e = absurd (omega arith)
code_one (negsuc m) (pos n) e = absurd (omega arith)
code_one (negsuc m) (negsuc n) e = ap negsuc (omega arith)

abbrev twist : ℕ → ℕ → ℕ
twist zero n = suc (n + n)
twist (suc m) n = twist m n + twist m n

twist-one : (a b c d : ℕ) → twist a b ≡ twist c d → (a ≡ c) × (b ≡ d)
twist-one zero b zero d e = (refl, omega arith)
twist-one zero b (suc c) d e = absurd (omega arith)
twist-one (suc a) b zero d e = absurd (omega arith)
twist-one (suc a) b (suc c) d e =
    let (p, q) = twist-one a b c d (omega arith) in
    (ap suc p, q)

abbrev pair_of : ℤ → ℤ → ℤ
pair_of a b = pos (twist (code a) (code b))

pub pair_one : (a b c d : ℤ) → pair_of a b ≡ pair_of c d → (code a ≡ code c) × (code b ≡ code d)
pair_one a b c d e = twist-one (code a) (code b) (code c) (code d) cc

-- a name has its own number, a dangling index 0, a declaration the range listed for its name; a comprehension what is given for it
abbrev listed_range : List (ℕ × List ℤ) → ℕ → List ℤ
listed_range [] d = []
listed_range (e ∷ es) d = pick (eqb e.0 d) e.1 (listed_range es d)

abbrev pub reading_with : (List (Bool × ℤ) → ℤ) → List (ℕ × List ℤ) → Reading
reading_with set ranges =
    record {
      name = λ n. pos n;
      index = λ i. pos 0;
      range = listed_range ranges;
      pair = pair_of;
      pair_left = λ a b c d e. code_one a c (pair_one a b c d e).0;
      pair-right = λ a b c d e. code_one b d (pair_one a b c d e).1;
      comprehension = λ t o ds vs. set vs;
      expression = λ t o ds vs. pos 0;
      predicate = λ t o ds vs. false;
    }

abbrev pub reading_of : List (ℕ × List ℤ) → Reading
reading_of ranges = reading_with (λ vs. pos 0) ranges

abbrev pub one : Form → Forms
one f = more f none

abbrev pub index : ℕ → Form
index i = leaf (bound i)

-- [852 2 4 5 [351 2 [101 [2 0] [2 1]] [851 1 6 [101 [2 0] [2 1]]]]], with several values in the ranges
abbrev inner : Form
inner = node 851 (1 ∷ []) (6 ∷ []) (one (equal (index 0) (index 1)))

abbrev worked : Form
worked = node 852 (2 ∷ []) (4 ∷ 5 ∷ []) (one (node 351 (2 ∷ []) [] (more (equal (index 0) (index 1)) (one inner))))

abbrev worked_reduced : Form
worked_reduced = node 852 (1 ∷ []) (4 ∷ []) (one inner)

abbrev pub several : Reading
several = reading_of ((4, pos 1 ∷ pos 2 ∷ []) ∷ (5, pos 0 ∷ pos 1 ∷ pos 2 ∷ []) ∷ (6, pos 1 ∷ []) ∷ [])

pub worked-taken : one_point worked ≡ some worked_reduced
unfolding one_point quantified scan offer_parts accept parts instantiate_partial put_round fill walk collect
worked-taken = refl

pub worked-premise : premise several worked ≡ true
unfolding quantified scan offer_parts accept parts collect value flat_map
worked-premise = refl

pub worked-true : holds several worked ≡ true
unfolding value value_of flat_map
worked-true = refl

pub worked_kept : holds several worked_reduced ≡ true
worked_kept = sym (point-keeps-truth several worked worked_reduced worked-taken worked-premise) ∙ worked-true

-- [862 2 4 0 5 1 [1 8] [351 2 [101 [2 0] [2 1]] [862 1 6 1 [2 2] [101 [2 0] [2 1]]]]]: the annotation of 5 goes with it, that of 6 mentions
-- nothing in front and is shifted down by the one declaration that joins
abbrev annotated : Form
annotated =
    noted 862 (2 ∷ []) (bare 4 (typed 5 (leaf (free 8)) undeclared))
    (one (node 351 (2 ∷ []) [] (more (equal (index 0) (index 1)) (one (noted 862 (1 ∷ []) (typed 6 (index 2) undeclared) (one (equal (index 0) (index 1))))))))

abbrev annotated_reduced : Form
annotated_reduced = noted 862 (2 ∷ []) (bare 4 (typed 6 (index 0) undeclared)) (one (equal (index 0) (index 1)))

pub annotated-taken : one_point annotated ≡ some annotated_reduced
unfolding one_point quantified scan offer_parts accept parts instantiate_partial put_round fill walk collect
annotated-taken = refl

pub annotated-premise : premise several annotated ≡ true
unfolding quantified scan offer_parts accept parts collect value flat_map
annotated-premise = refl

pub annotated-true : holds several annotated ≡ true
unfolding value value_of flat_map
annotated-true = refl

pub annotated-kept : holds several annotated_reduced ≡ true
annotated-kept = sym (point-keeps-truth several annotated annotated_reduced annotated-taken annotated-premise) ∙ annotated-true

-- [852 1 4 [101 [2 0] [1 7]]] becomes [610]: with 7 outside the range of 4 it was false
abbrev outside : Form
outside = node 852 (1 ∷ []) (4 ∷ []) (one (equal (index 0) (leaf (free 7))))

abbrev outside_reduced : Form
outside_reduced = node 610 [] [] none

abbrev narrow : Reading
narrow = reading_of ((4, pos 1 ∷ []) ∷ [])

pub outside-taken : one_point outside ≡ some outside_reduced
unfolding one_point quantified scan offer_parts accept parts instantiate_partial put_round fill walk collect
outside-taken = refl

pub outside-lost : (premise narrow outside ≡ false) × (holds narrow outside ≡ false) × (holds narrow outside_reduced ≡ true)
unfolding quantified scan offer_parts accept parts collect value value_of flat_map
outside-lost = (refl, refl, refl)

-- [851 2 4 5 [251 [101 [2 0] [2 1]] [852 1 9 [101 [1 7] [2 1]]]]] becomes [851 1 4 [852 1 9 [101 [1 7] [2 1]]]];
-- the Rust joins 852 into 851, [851 2 4 9 [101 [1 7] [2 1]]]: with nothing in the range of 9 that is true, and the rest false
abbrev found : Form
found = equal (leaf (free 7)) (index 1)

abbrev unlike : Form
unlike = node 851 (2 ∷ []) (4 ∷ 5 ∷ []) (one (node 251 [] [] (more (equal (index 0) (index 1)) (one (node 852 (1 ∷ []) (9 ∷ []) (one found))))))

abbrev nested : Form
nested = node 851 (1 ∷ []) (4 ∷ []) (one (node 852 (1 ∷ []) (9 ∷ []) (one found)))

abbrev joined : Form
joined = node 851 (2 ∷ []) (4 ∷ 9 ∷ []) (one found)

abbrev empty_nine : Reading
empty_nine = reading_of ((4, pos 0 ∷ []) ∷ (5, pos 0 ∷ []) ∷ [])

pub unlike-taken : one_point unlike ≡ some nested
unfolding one_point quantified scan offer_parts accept parts instantiate_partial put_round fill walk collect
unlike-taken = refl

pub unlike-premise : premise empty_nine unlike ≡ true
unfolding quantified scan offer_parts accept parts collect value flat_map
unlike-premise = refl

pub join-loses : (holds empty_nine unlike ≡ false) × (holds empty_nine nested ≡ false) × (holds empty_nine joined ≡ true)
unfolding value value_of flat_map
join-loses = (refl, refl, refl)
