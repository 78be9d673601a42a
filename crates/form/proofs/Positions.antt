-- Worked positions: rows at each limit, and where each breaks, computed from the definition. Assumes nothing.
use mathlib.Core.Path.{◌≡◌, refl}
use mathlib.Core.List.{List, [], ◌∷◌, ◌++◌, map}
use Prim.Native.Nat.{ℕ}
use lib.ListN.{replicate}
use Rattle.tree.specs.Tag.{own, own_of, shape_of, expr_tags, pred_tags}
use Rattle.form.specs.Decode.{missing, form_of, row_form, decode, decode_all, read}
use Rattle.form.specs.Break.{decls_next, next_of, least, least_all, after, break_from, break_at, break_list}
use Rattle.form.specs.declared.answer.Kind.TheVariants.{Expression, Predicate, Either, Named}
use Rattle.form.specs.declared.answer.ListKind.TheVariants.{Pairs, Places}

abbrev nots : ℕ → List ℕ
nots n = replicate n 8

-- the empty row; an unknown tag; a predicate where an expression must stand; an index over 65,535; too few children; no declaration, 33
-- declarations; a name over 65,535; a comprehension's form word over 3; words after a whole form; words that run out
abbrev rows : List (List ℕ)
rows =
    []
    ∷ (0 ∷ [])
    ∷ (101 ∷ 1 ∷ 4 ∷ 610 ∷ [])
    ∷ (101 ∷ 2 ∷ 0 ∷ 2 ∷ 65536 ∷ [])
    ∷ (9 ∷ 301 ∷ 1 ∷ 1 ∷ 4 ∷ [])
    ∷ (851 ∷ 0 ∷ 610 ∷ [])
    ∷ (851 ∷ 33 ∷ 4 ∷ [])
    ∷ (852 ∷ 3 ∷ 4 ∷ 65536 ∷ 5 ∷ [])
    ∷ (803 ∷ 4 ∷ 1 ∷ 4 ∷ 610 ∷ 1 ∷ 4 ∷ [])
    ∷ (610 ∷ 610 ∷ [])
    ∷ (351 ∷ 2 ∷ 610 ∷ 851 ∷ 2 ∷ 4 ∷ [])
    ∷ []

abbrev breaks : List ℕ
breaks = 0 ∷ 0 ∷ 3 ∷ 4 ∷ 2 ∷ 1 ∷ 1 ∷ 3 ∷ 1 ∷ 1 ∷ 6 ∷ []

pub worked-rows : map (λ row. break_at Either row) rows ≡ breaks
unfolding break_at break_from least_all least after next_of own own_of shape_of expr_tags pred_tags
worked-rows = refl

-- the limits of the whole row: a count that cannot be met in 8,192 words, and the largest that can; nothing stands at depth 65, and at
-- depth 64 only what has no children
abbrev deep : List (List ℕ)
deep =
    (4 ∷ 8191 ∷ [])
    ∷ (4 ∷ 8190 ∷ [])
    ∷ (nots 63 ++ (610 ∷ []))
    ∷ (nots 64 ++ (610 ∷ []))
    ∷ (nots 62 ++ (9 ∷ 4 ∷ 0 ∷ []))
    ∷ (nots 62 ++ (9 ∷ 4 ∷ 1 ∷ 401 ∷ []))
    ∷ []

abbrev deep_breaks : List ℕ
deep_breaks = 1 ∷ 2 ∷ 64 ∷ 63 ∷ 65 ∷ 64 ∷ []

pub worked-limits : map (λ row. break_at Either row) deep ≡ deep_breaks
unfolding break_at break_from least_all least after next_of own own_of shape_of expr_tags pred_tags
worked-limits = refl

-- annotations: a flag that is neither 0 nor 1; the last flag 0 where no annotation came, and where one did; a predicate as annotation; an
-- annotation, and the words after it, that run out; a quantifier at depth 63, whose annotation may have no children, and one at depth 64
abbrev annotated : List (List ℕ)
annotated =
    (862 ∷ 1 ∷ 4 ∷ 2 ∷ 1 ∷ 7 ∷ 610 ∷ [])
    ∷ (862 ∷ 1 ∷ 4 ∷ 0 ∷ 610 ∷ [])
    ∷ (861 ∷ 2 ∷ 4 ∷ 1 ∷ 1 ∷ 7 ∷ 5 ∷ 0 ∷ 610 ∷ [])
    ∷ (862 ∷ 2 ∷ 4 ∷ 0 ∷ 5 ∷ 1 ∷ 610 ∷ [])
    ∷ (873 ∷ 0 ∷ 1 ∷ 4 ∷ 1 ∷ 1 ∷ [])
    ∷ (873 ∷ 0 ∷ 1 ∷ 4 ∷ 1 ∷ 1 ∷ 7 ∷ 610 ∷ [])
    ∷ (nots 62 ++ (862 ∷ 1 ∷ 4 ∷ 1 ∷ 4 ∷ 1 ∷ 401 ∷ []))
    ∷ (nots 63 ++ (862 ∷ 1 ∷ 4 ∷ 1 ∷ 401 ∷ 610 ∷ []))
    ∷ []

abbrev annotated_breaks : List ℕ
annotated_breaks = 3 ∷ 3 ∷ 9 ∷ 6 ∷ 6 ∷ 8 ∷ 67 ∷ 63 ∷ []

pub worked-annotations : map (λ row. break_at Either row) annotated ≡ annotated_breaks
unfolding break_at break_from least_all least after next_of decls_next own own_of shape_of expr_tags pred_tags
worked-annotations = refl

-- named rows: an index as the whole row; an index after a name; an index before a later break; an index in an annotation. The word 2 is no
-- index as a name, a literal, a count, a predicate variable, the name and the count of a predicate's application, the number and the names of
-- declarations, also with annotations, and a comprehension's form
abbrev named_rows : List (List ℕ)
named_rows =
    (2 ∷ 0 ∷ [])
    ∷ (101 ∷ 1 ∷ 4 ∷ 2 ∷ 0 ∷ [])
    ∷ (101 ∷ 2 ∷ 0 ∷ 2 ∷ 65536 ∷ [])
    ∷ (862 ∷ 1 ∷ 4 ∷ 1 ∷ 2 ∷ 0 ∷ 610 ∷ [])
    ∷ (1 ∷ 2 ∷ [])
    ∷ (3 ∷ 2 ∷ [])
    ∷ (4 ∷ 2 ∷ 1 ∷ 2 ∷ 1 ∷ 2 ∷ [])
    ∷ (7 ∷ 2 ∷ [])
    ∷ (11 ∷ 2 ∷ 2 ∷ 1 ∷ 2 ∷ 3 ∷ 2 ∷ [])
    ∷ (851 ∷ 2 ∷ 2 ∷ 2 ∷ 610 ∷ [])
    ∷ (862 ∷ 2 ∷ 2 ∷ 0 ∷ 2 ∷ 1 ∷ 1 ∷ 2 ∷ 610 ∷ [])
    ∷ (803 ∷ 2 ∷ 1 ∷ 2 ∷ 610 ∷ 1 ∷ 2 ∷ [])
    ∷ []

abbrev named_breaks : List ℕ
named_breaks = 0 ∷ 3 ∷ 1 ∷ 4 ∷ 2 ∷ 2 ∷ 6 ∷ 2 ∷ 7 ∷ 5 ∷ 9 ∷ 7 ∷ []

pub worked-named : map (λ row. break_at Named row) named_rows ≡ named_breaks
unfolding break_at break_from least_all least after next_of decls_next own own_of shape_of expr_tags pred_tags
worked-named = refl

-- a row breaks by the kind that is asked for
pub worked-kinds : (break_at Expression (610 ∷ []) ≡ 0) × (break_at Predicate (1 ∷ 4 ∷ []) ≡ 0) × (break_at Predicate (610 ∷ []) ≡ 1)
unfolding break_at break_from least_all least after next_of own own_of shape_of expr_tags pred_tags
worked-kinds = (refl, refl, refl)

-- lists: a pair's name may be any word, a place is 0 or 1; a pair without its expression; a predicate in its place
pub worked-lists : (break_list Pairs (70000 ∷ 3 ∷ 5 ∷ []) ≡ 3) × (break_list Pairs (4 ∷ []) ≡ 1) × (break_list Pairs (4 ∷ 3 ∷ 0 ∷ 5 ∷ 610 ∷ []) ≡ 4) × (break_list Places (0 ∷ 2 ∷ []) ≡ 1) × (break_list Places (0 ∷ 1 ∷ []) ≡ 2)
unfolding break_list break_from least_all least after next_of own own_of shape_of expr_tags pred_tags
worked-lists = (refl, refl, refl, refl, refl)

-- a row that breaks at its end need not be accepted: its words ran out
pub worked-ran-out : (break_at Either (101 ∷ 1 ∷ 4 ∷ []) ≡ 3) × (form_of Either (101 ∷ 1 ∷ 4 ∷ []) ≡ missing)
unfolding break_at break_from least_all least after next_of own own_of shape_of expr_tags pred_tags form_of row_form decode decode_all read
worked-ran-out = (refl, refl)

-- a list of more than 8,192 words breaks at the first word too many, although its entries are right
pub worked-too-long : break_list Places (replicate 8193 0) ≡ 8192
unfolding break_list break_from least_all least after next_of
worked-too-long = refl
