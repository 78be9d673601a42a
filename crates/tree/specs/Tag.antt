-- The tags of expressions and of predicates, and what follows each in a row.
use Rattle.std.specs.Prelude.{List, [], ◌∷◌, ◌++◌, ℕ, leb, replicate}
use Rattle.tree.specs.Form.{pick}
use Rattle.tree.specs.declared.tag.Shape.{Shape}
use Rattle.tree.specs.declared.tag.Shape.TheVariants.{Unknown, Plain, Name, Value, Exprs, Preds, Apply, Compr, Quant, NotedCompr, NotedQuant}

pub data Sort : Type 0 where
  expr pred : Sort

-- what follows a tag: own words, each between its limits; then n declared names (with flags: each with 0, or 1 and an annotation), p
-- predicates and e expressions
pub data Own : Type 0 where
  ask : ℕ → ℕ → (ℕ → Own) → Own
  kids : ℕ → ℕ → ℕ → Own
  flags : ℕ → ℕ → ℕ → Own
  wrong : Own

-- names and indices are at most 65,535, a literal is any word
unfoldable pub own_of : Shape → Own
own_of Unknown = wrong
own_of (Plain p e) = kids 0 p e
own_of Name = ask 0 65535 (λ n. kids 0 0 0)
own_of Value = ask 0 4294967295 (λ n. kids 0 0 0)
own_of (Exprs m) = ask m 4294967295 (λ n. kids 0 0 n)
own_of (Preds m) = ask m 4294967295 (λ n. kids 0 n 0)
own_of Apply = ask 0 65535 (λ name. ask 0 4294967295 (λ n. kids 0 0 n))
own_of Compr = ask 0 3 (λ form. ask 1 32 (λ n. kids n 1 1))
own_of Quant = ask 1 32 (λ n. kids n 1 0)
own_of NotedCompr = ask 0 3 (λ form. ask 1 32 (λ n. flags n 1 1))
own_of NotedQuant = ask 1 32 (λ n. flags n 1 0)

-- tables of ranges: the first tag, the last, their shape
abbrev pub Tags : Type 0
Tags = List (ℕ × ℕ × Shape)

abbrev pub find : Tags → ℕ → Shape
find [] t = Unknown
find (e ∷ es) t = pick (leb e.0 t) (pick (leb t e.1) e.2 (find es t)) (find es t)

unfoldable pub expr_tags : Tags
expr_tags =
    (1, 2, Name)
    ∷ (3, 3, Value)
    ∷ (4, 4, Exprs 0)
    ∷ (5, 5, Plain 1 0)
    ∷ (6, 6, Plain 0 2)
    ∷ (201, 227, Plain 0 2)
    ∷ (301, 307, Exprs 2)
    ∷ (401, 412, Plain 0 0)
    ∷ (751, 757, Plain 0 1)
    ∷ (761, 764, Plain 0 1)
    ∷ (801, 803, Compr)
    ∷ (871, 873, NotedCompr)
    ∷ []

unfoldable pub pred_tags : Tags
pred_tags =
    (7, 7, Name)
    ∷ (8, 8, Plain 1 0)
    ∷ (9, 9, Plain 0 1)
    ∷ (10, 10, Exprs 1)
    ∷ (11, 11, Apply)
    ∷ (101, 112, Plain 0 2)
    ∷ (251, 252, Plain 2 0)
    ∷ (351, 352, Preds 2)
    ∷ (610, 611, Plain 0 0)
    ∷ (851, 852, Quant)
    ∷ (861, 862, NotedQuant)
    ∷ []

unfoldable pub shape_of : Sort → ℕ → Shape
shape_of x t = elim x [ expr ↦ find expr_tags t | pred ↦ find pred_tags t ]

unfoldable pub own : Sort → ℕ → Own
own s t = own_of (shape_of s t)

abbrev pub sorts : ℕ → ℕ → List Sort
sorts p e = replicate p pred ++ replicate e expr
