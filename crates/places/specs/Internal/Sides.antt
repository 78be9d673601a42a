-- What the code's parts of an offer answer, by the words at the positions of the two sides.
use Rattle.std.specs.Prelude.{Option, Some, None, Result, Ok, Err, Bool, false, List, [], ◌∷◌, ℕ, suc, ◌-◌, ltb, eqb, length, get_or, take, drop}
use Rattle.tree.specs.Form.{pick}
use Rattle.tree.specs.Tag.{expr}
use Rattle.form.specs.Decode.{decode, Whole, one, not-one, row_form}
use Rattle.rules.specs.Replacement.{above}
use Rattle.places.specs.Places.{place, fill_place}
use Rattle.places.specs.declared.sides.Sides.{Sides}
use Rattle.places.specs.declared.sides.Replacement.{Replacement}
use Rattle.places.specs.declared.replacements.Replacements.{Replacements}
use Rattle.form.specs.declared.answer.Refusal.{Refusal}
use Rattle.form.specs.declared.answer.Refusal.TheVariants.{NoDeclaration, NotAbove, AlreadyFilled}
use Rattle.places.specs.Internal.Positions.{end_at}

-- the sides of the equality that is the whole row
abbrev pub sides_from : ℕ → Option ℕ → Option Sides
sides_from end (Some m) = Some (record { left = 1; middle = m; right = m; end = end })
sides_from end None = None

unfoldable pub equality_words : List ℕ → Option Sides
equality_words [] = None
equality_words (t ∷ ws) = pick (eqb t 101) (sides_from (suc (length ws)) (end_at 1 (decode 63 expr ws))) None

-- the index that a row begins with
unfoldable pub index_words : List ℕ → Option ℕ
index_words [] = None
index_words (t ∷ []) = None
index_words (t ∷ i ∷ ws) = pick (eqb t 2) (Some i) None

-- a side, and the target that it replaces
abbrev pub left_for : Sides → ℕ → Replacement
left_for s i = record { target = i; start = s.left; end = s.middle }

abbrev pub right_for : Sides → ℕ → Replacement
right_for s i = record { target = i; start = s.right; end = s.end }

abbrev pub replace_by : Sides → Option ℕ → Option ℕ → Option Replacement
replace_by s (Some i) (Some j) = pick (ltb i j) (Some (right_for s i)) (Some (left_for s j))
replace_by s None (Some j) = Some (left_for s j)
replace_by s (Some i) None = Some (right_for s i)
replace_by s None None = None

unfoldable pub replacement_words : Sides → List ℕ → Option Replacement
replacement_words s row = replace_by s (index_words (drop s.left row)) (index_words (drop s.right row))

-- whether a row is an expression whose dangling indices are all above i
abbrev pub above_whole : ℕ → Whole → Bool
above_whole i (one e) = above i e
above_whole i not-one = false

unfoldable pub above_words : ℕ → List ℕ → Bool
above_words i part = above_whole i (row_form expr part)

-- a part offered for its target: no declaration, not above, filled
unfoldable pub offer_part : Replacements → List ℕ → Replacement → Result Replacements Refusal
offer_part p row r =
    let free = pick (eqb (get_or p.ends (place p r.target) 0) 0) (Ok (fill_place p r.target r.start r.end)) (Err AlreadyFilled) in
    pick (ltb r.target p.n) (pick (above_words r.target (take (r.end - r.start) (drop r.start row))) free (Err NotAbove)) (Err NoDeclaration)
