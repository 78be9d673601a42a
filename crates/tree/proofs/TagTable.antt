-- A second listing of the tags, each written out, and that the table of specs/Tag.antt says the same of every tag below 1,000
-- and has no tag above. Assumes nothing.
use mathlib.Core.Path.{◌≡◌, ap, sym}
use mathlib.Core.Bool.{Bool, true, false, ◌&&◌}
use mathlib.Core.List.{List, [], ◌∷◌, ◌++◌}
use Prim.Native.Nat.{ℕ, zero, suc, ◌+◌, ◌≤◌}
use lib.Dec.{T, eqb}
use Rattle.tree.specs.Form.{pick, member}
use Rattle.tree.specs.Tag.{Sort, expr, pred, Own, ask, kids, flags, wrong, own_of, expr_tags, pred_tags, shape_of, own}
use Rattle.tree.proofs.Ranges.{expr-on, pred-on}

-- what follows a tag, as numbers. A word: 1, its limits, then what follows its least value, and the value after that. Children: 2, the
-- numbers of declared names, of predicates and of expressions; 3 in place of 2 where the names have flags. A tag that is none has no numbers.
abbrev pub probe : Own → List ℕ
probe (ask lo hi k) = 1 ∷ lo ∷ hi ∷ (probe (k lo) ++ probe (k (lo + 1)))
probe (kids n p e) = 2 ∷ n ∷ p ∷ e ∷ []
probe (flags n p e) = 3 ∷ n ∷ p ∷ e ∷ []
probe wrong = []

-- the tags of expressions: name and index; literal; set extension; bool; ascription; the binary, associative, atomic and unary ones;
-- comprehensions
abbrev expr_list : List (List ℕ × List ℕ)
expr_list =
    (1 ∷ 2 ∷ [], 1 ∷ 0 ∷ 65535 ∷ 2 ∷ 0 ∷ 0 ∷ 0 ∷ 2 ∷ 0 ∷ 0 ∷ 0 ∷ [])
    ∷ (3 ∷ [], 1 ∷ 0 ∷ 4294967295 ∷ 2 ∷ 0 ∷ 0 ∷ 0 ∷ 2 ∷ 0 ∷ 0 ∷ 0 ∷ [])
    ∷ (4 ∷ [], 1 ∷ 0 ∷ 4294967295 ∷ 2 ∷ 0 ∷ 0 ∷ 0 ∷ 2 ∷ 0 ∷ 0 ∷ 1 ∷ [])
    ∷ (5 ∷ [], 2 ∷ 0 ∷ 1 ∷ 0 ∷ [])
    ∷ (6 ∷ [], 2 ∷ 0 ∷ 0 ∷ 2 ∷ [])
    ∷ (201 ∷ 202 ∷ 203 ∷ 204 ∷ 205 ∷ 206 ∷ 207 ∷ 208 ∷ 209 ∷ 210 ∷ 211 ∷ 212 ∷ 213 ∷ 214 ∷ 215 ∷ 216 ∷ 217 ∷ 218 ∷ 219 ∷ 220 ∷ 221 ∷ 222 ∷ 223 ∷ 224 ∷ 225 ∷ 226 ∷ 227 ∷ [], 2 ∷ 0 ∷ 0 ∷ 2 ∷ [])
    ∷ (301 ∷ 302 ∷ 303 ∷ 304 ∷ 305 ∷ 306 ∷ 307 ∷ [], 1 ∷ 2 ∷ 4294967295 ∷ 2 ∷ 0 ∷ 0 ∷ 2 ∷ 2 ∷ 0 ∷ 0 ∷ 3 ∷ [])
    ∷ (401 ∷ 402 ∷ 403 ∷ 404 ∷ 405 ∷ 406 ∷ 407 ∷ 408 ∷ 409 ∷ 410 ∷ 411 ∷ 412 ∷ [], 2 ∷ 0 ∷ 0 ∷ 0 ∷ [])
    ∷ (751 ∷ 752 ∷ 753 ∷ 754 ∷ 755 ∷ 756 ∷ 757 ∷ 761 ∷ 762 ∷ 763 ∷ 764 ∷ [], 2 ∷ 0 ∷ 0 ∷ 1 ∷ [])
    ∷ (801 ∷ 802 ∷ 803 ∷ [], 1 ∷ 0 ∷ 3 ∷ 1 ∷ 1 ∷ 32 ∷ 2 ∷ 1 ∷ 1 ∷ 1 ∷ 2 ∷ 2 ∷ 1 ∷ 1 ∷ 1 ∷ 1 ∷ 32 ∷ 2 ∷ 1 ∷ 1 ∷ 1 ∷ 2 ∷ 2 ∷ 1 ∷ 1 ∷ [])
    ∷ (871 ∷ 872 ∷ 873 ∷ [], 1 ∷ 0 ∷ 3 ∷ 1 ∷ 1 ∷ 32 ∷ 3 ∷ 1 ∷ 1 ∷ 1 ∷ 3 ∷ 2 ∷ 1 ∷ 1 ∷ 1 ∷ 1 ∷ 32 ∷ 3 ∷ 1 ∷ 1 ∷ 1 ∷ 3 ∷ 2 ∷ 1 ∷ 1 ∷ [])
    ∷ []

-- the tags of predicates: true and false; predicate variable; not; simple; multiple; application; relational; implies and equivalent; and,
-- or; for all and exists
abbrev pred_list : List (List ℕ × List ℕ)
pred_list =
    (610 ∷ 611 ∷ [], 2 ∷ 0 ∷ 0 ∷ 0 ∷ [])
    ∷ (7 ∷ [], 1 ∷ 0 ∷ 65535 ∷ 2 ∷ 0 ∷ 0 ∷ 0 ∷ 2 ∷ 0 ∷ 0 ∷ 0 ∷ [])
    ∷ (8 ∷ [], 2 ∷ 0 ∷ 1 ∷ 0 ∷ [])
    ∷ (9 ∷ [], 2 ∷ 0 ∷ 0 ∷ 1 ∷ [])
    ∷ (10 ∷ [], 1 ∷ 1 ∷ 4294967295 ∷ 2 ∷ 0 ∷ 0 ∷ 1 ∷ 2 ∷ 0 ∷ 0 ∷ 2 ∷ [])
    ∷ (11 ∷ [], 1 ∷ 0 ∷ 65535 ∷ 1 ∷ 0 ∷ 4294967295 ∷ 2 ∷ 0 ∷ 0 ∷ 0 ∷ 2 ∷ 0 ∷ 0 ∷ 1 ∷ 1 ∷ 0 ∷ 4294967295 ∷ 2 ∷ 0 ∷ 0 ∷ 0 ∷ 2 ∷ 0 ∷ 0 ∷ 1 ∷ [])
    ∷ (101 ∷ 102 ∷ 103 ∷ 104 ∷ 105 ∷ 106 ∷ 107 ∷ 108 ∷ 109 ∷ 110 ∷ 111 ∷ 112 ∷ [], 2 ∷ 0 ∷ 0 ∷ 2 ∷ [])
    ∷ (251 ∷ 252 ∷ [], 2 ∷ 0 ∷ 2 ∷ 0 ∷ [])
    ∷ (351 ∷ 352 ∷ [], 1 ∷ 2 ∷ 4294967295 ∷ 2 ∷ 0 ∷ 2 ∷ 0 ∷ 2 ∷ 0 ∷ 3 ∷ 0 ∷ [])
    ∷ (851 ∷ 852 ∷ [], 1 ∷ 1 ∷ 32 ∷ 2 ∷ 1 ∷ 1 ∷ 0 ∷ 2 ∷ 2 ∷ 1 ∷ 0 ∷ [])
    ∷ (861 ∷ 862 ∷ [], 1 ∷ 1 ∷ 32 ∷ 3 ∷ 1 ∷ 1 ∷ 0 ∷ 3 ∷ 2 ∷ 1 ∷ 0 ∷ [])
    ∷ []

abbrev tags_of : Sort → List (List ℕ × List ℕ)
tags_of expr = expr_list
tags_of pred = pred_list

abbrev listed : List (List ℕ × List ℕ) → ℕ → List ℕ
listed [] t = []
listed (x ∷ xs) t = pick (member t x.0) x.1 (listed xs t)

abbrev same : List ℕ → List ℕ → Bool
same [] [] = true
same [] (y ∷ ys) = false
same (x ∷ xs) [] = false
same (x ∷ xs) (y ∷ ys) = eqb x y && same xs ys

abbrev below : ℕ → (ℕ → Bool) → Bool
below zero p = true
below (suc n) p = p n && below n p

abbrev agree : Sort → ℕ → Bool
agree s t = same (probe (own s t)) (listed (tags_of s) t)

pub tags-agree : T (below 1000 (λ t. agree expr t) && below 1000 (λ t. agree pred t))
unfolding own own_of shape_of expr_tags pred_tags
tags-agree = tt

pub none_above : (s : Sort) (t : ℕ) → 1000 ≤ t → t ≤ 4294967295 → own s t ≡ wrong
unfolding own own_of expr_tags pred_tags
none_above expr t low high = ap own_of (sym (expr-on 1000 4294967295 tt low high))
none_above pred t low high = ap own_of (sym (pred-on 1000 4294967295 tt low high))
