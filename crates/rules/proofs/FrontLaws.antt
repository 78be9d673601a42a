-- Lists of places of which one is filled, or none. Assumes nothing.
use mathlib.Core.Path.{◌≡◌, refl, ap, ◌∙◌}
use mathlib.Core.List.{List, ◌∷◌, ◌++◌, map, [], reverse, reverse-cons}
use Prim.Native.Nat.{ℕ, zero, suc, ◌+◌, ◌-◌, ◌<◌}
use native.Mathlib.Nat.{zero-add, add-zero, suc-add}
use native.Mathlib.Omega.{arith}
use mathlib.Core.Bool.{false}
use lib.Dec.{eqb}
use lib.ListN.{length, drop, set, replicate, length-replicate}
use lib.Seq.{drop_at}
use Rattle.tree.specs.Form.{bound, Form, leaf}
use Rattle.form.specs.Lists.{Place, kept, filled}
use Rattle.rules.specs.Walk.{Outer, named, dangling, walk, lift, put, subst}
use Rattle.rules.specs.Shift.{lower}
use Rattle.rules.specs.Fill.{Decl, quantifier, quantified, quantify, kept_count, kept_decls, fill_index, fill_for, fill}
use Rattle.rules.specs.Partial.{no_places, set_place, front, lower_place, put_round}
use Rattle.rules.proofs.WalkLaws.{self, always, each-always, walk-agree}
use Rattle.rules.proofs.TreeLaws.{walk-self}
use Rattle.rules.proofs.ReplicateLaws.{map-replicate}

-- one place filled, j before it and i after it
front-filled : (j : ℕ) (e : Form) (ps : List Place) → front (replicate j kept ++ (filled e ∷ ps)) ≡ j
front-filled zero e ps = refl
front-filled (suc j) e ps = ap suc (front-filled j e ps)

set-filled : (j i : ℕ) (e : Form) → set (replicate (j + suc i) kept) j (filled e) ≡ replicate j kept ++ (filled e ∷ replicate i kept)
set-filled zero i e = rw zero-add
set-filled (suc j) i e = rw suc-add (ap (λ z. kept ∷ z) (set-filled j i e))

module _ (n i : ℕ) (e : Form) (lt : i < n) where
  pub places-are : set_place n i e (no_places n) ≡ replicate (n - suc i) kept ++ (filled e ∷ replicate i kept)
  places-are =
      let z : n ≡ n - suc i + suc i = omega arith in
      ap (λ m. set (replicate m kept) (n - suc i) (filled e)) z ∙ set-filled (n - suc i) i e

  pub front-is : front (set_place n i e (no_places n)) ≡ n - suc i
  front-is = rw places-are (front-filled (n - suc i) e (replicate i kept))

  pub from_front : drop (n - suc i) (set_place n i e (no_places n)) ≡ filled e ∷ replicate i kept
  from_front = rw places-are (drop_at (replicate (n - suc i) kept) (filled e ∷ replicate i kept) (n - suc i) (length-replicate (n - suc i) kept))

  pub rest-is : (m : ℕ) → map (lower_place m) (drop (n - suc i) (set_place n i e (no_places n))) ≡ filled (lower m e) ∷ replicate i kept
  rest-is m = rw from_front (ap (λ z. filled (lower m e) ∷ z) (map-replicate (lower_place m) i kept))

kept-snoc : (j : ℕ) → replicate j kept ++ (kept ∷ []) ≡ kept ∷ replicate j kept
kept-snoc zero = refl
kept-snoc (suc j) = ap (λ z. kept ∷ z) (kept-snoc j)

pub reverse-kept : (j : ℕ) → reverse (replicate j kept) ≡ replicate j kept
reverse-kept zero = refl
reverse-kept (suc j) = rw (reverse-cons kept (replicate j kept), reverse-kept j) (kept-snoc j)

-- every place kept: nothing changes
pub kept-count : (n : ℕ) → kept_count (replicate n kept) ≡ n
kept-count zero = refl
kept-count (suc n) = ap suc (kept-count n)

pub kept-decls : (ds : List Decl) (n : ℕ) → length ds ≡ n → kept_decls (replicate n kept) ds ≡ ds
kept-decls [] zero e = refl
kept-decls [] (suc n) e = absurd (omega arith)
kept-decls (d ∷ ds) zero e = absurd (omega arith)
kept-decls (d ∷ ds) (suc n) e = ap (λ z. d ∷ z) (kept-decls ds n (omega arith))

pub kept-index : (j c i : ℕ) → fill_index (j + c) c (replicate j kept) i ≡ leaf (bound (c + i))
kept-index zero c i = rw zero-add
kept-index (suc j) c zero = ap (λ z. leaf (bound z)) (omega arith)
kept-index (suc j) c (suc i) =
    let e : suc j + c ≡ j + suc c = omega arith in
    rw e (kept-index j (suc c) i ∙ ap (λ z. leaf (bound z)) (omega arith))

kept-outer : (n j : ℕ) → fill_for (replicate n kept) (dangling j) ≡ leaf (bound j)
kept-outer n j = rw (kept-count n, reverse-kept n) ((rw add-zero at (kept-index n 0 j)) ∙ ap (λ z. leaf (bound z)) (zero-add j))

kept_self : (n k : ℕ) (x : Outer) → put (fill_for (replicate n kept)) k x ≡ self k x
unfolding walk
kept_self n k (named m) = refl
kept_self n k (dangling j) =
    let e : 0 + (j + k) ≡ k + j = omega arith in
    ap (λ z. lift k z) (kept-outer n j) ∙ ap (λ z. leaf (bound z)) e

pub subst-kept : (n : ℕ) (f : Form) → subst (fill_for (replicate n kept)) f ≡ f
subst-kept n f = walk-agree always (put (fill_for (replicate n kept))) self (λ k x h. kept_self n k x) 0 f (each-always 0 f) ∙ walk-self 0 f

pub fill-kept : (t : ℕ) (ds : List Decl) (f : Form) → fill t ds (replicate (length ds) kept) f ≡ quantify t ds f
unfolding fill
fill-kept t ds f = rw (kept-decls ds (length ds) refl, subst-kept (length ds) f)

-- the body's own quantifier is joined only if its operator is the same
pub unlike-stays : (t u : ℕ) (n : Decl) (ns ds : List Decl) (f g : Form) → quantified g ≡ quantifier u ds f → eqb u t ≡ false → put_round t (n ∷ ns) g ≡ quantify t (n ∷ ns) g
unfolding put_round
unlike-stays t u n ns ds f g e h = rw (e, h)
