-- Children: so many predicates, then so many expressions. Assumes nothing.
use mathlib.Core.Path.{◌≡◌, refl}
use mathlib.Core.Bool.{Bool, true, false}
use mathlib.Core.List.{List, [], ◌∷◌}
use Prim.Native.Nat.{ℕ, zero, suc, ◌+◌, ◌-◌, ◌≤◌, ◌<◌}
use native.Mathlib.Omega.{arith}
use borrow.Author.Tests.{ne_eqb}
use lib.Dec.{eqb}
use Rattle.tree.specs.Tag.{expr, pred}
use Rattle.form.specs.Break.{Next, parts, next_of, own_in, Open, rest, least_form, least, after, break_from}
use Rattle.form.proofs.DecodeLaws.{clash}
use Rattle.broken.specs.Internal.Seeks.{sort_of, no_kids, exprs_after}

pub preds-left : (p e : ℕ) → 0 < p → false ≡ no_kids p e
unfolding no_kids
preds-left zero e h = absurd (omega arith)
preds-left (suc p) e h = refl

pub exprs-left : (p e : ℕ) → p ≤ 0 → eqb e 0 ≡ no_kids p e
unfolding no_kids
exprs-left zero zero h = refl
exprs-left zero (suc e) h = ne_eqb (suc e) 0 (λ z. omega arith)
exprs-left (suc p) e h = absurd (omega arith)

pub expr-first : (p : ℕ) → p ≡ 0 → expr ≡ sort_of p
unfolding sort_of
expr-first zero h = refl
expr-first (suc p) h = absurd (omega arith)

pub pred-first : (p : ℕ) → (p ≡ 0 → ⊥) → pred ≡ sort_of p
unfolding sort_of
pred-first zero h = absurd (h refl)
pred-first (suc p) h = refl

pub after-expr : (p e n : ℕ) → p ≡ 0 → n ≡ e - 1 → n ≡ exprs_after p e
unfolding exprs_after
after-expr zero e n h q = q
after-expr (suc p) e n h q = absurd (omega arith)

pub after-pred : (p e : ℕ) → (p ≡ 0 → ⊥) → e ≡ exprs_after p e
unfolding exprs_after
after-pred zero e h = absurd (h refl)
after-pred (suc p) e h = refl

-- the first child and those after it
pub kids-step : (named : Bool) (z : ℕ → Next) (d p e : ℕ) (x : Open) (w : ℕ) → no_kids p e ≡ false → after named z (rest d (parts 0 p e) x) w ≡ rest (d - 1) (next_of (own_in named (sort_of p) w)) (rest d (parts 0 (p - 1) (exprs_after p e)) x)
unfolding after sort_of no_kids exprs_after
kids-step named z d zero zero x w h = absurd (clash cc)
kids-step named z d zero (suc e) x w h = let q : suc e - 1 ≡ e = omega arith in rw q
kids-step named z d (suc p) e x w h = let q : suc p - 1 ≡ p = omega arith in rw q

pub kids-least : (d p e : ℕ) → no_kids p e ≡ false → least d (parts 0 p e) ≡ least_form d + least d (parts 0 (p - 1) (exprs_after p e))
unfolding least no_kids exprs_after
kids-least d zero zero h = absurd (clash cc)
kids-least zero zero (suc e) h = omega arith
kids-least (suc d) zero (suc e) h = omega arith
kids-least zero (suc p) e h = omega arith
kids-least (suc d) (suc p) e h = omega arith

pub kids_over : (named : Bool) (z : ℕ → Next) (at d p e : ℕ) (x : Open) (ws : List ℕ) → no_kids p e ≡ true → break_from named z at (rest d (parts 0 p e) x) ws ≡ break_from named z at x ws
unfolding after break_from no_kids
kids_over named z at d zero zero x [] h = refl
kids_over named z at d zero zero x (w ∷ ws) h = refl
kids_over named z at d zero (suc e) x ws h = absurd (clash cc)
kids_over named z at d (suc p) e x ws h = absurd (clash cc)
