-- The position at which a whole row breaks, from what the search answers. Assumes nothing.
use mathlib.Core.Path.{◌≡◌, refl, sym, ◌∙◌, ap}
use mathlib.Core.Bool.{Bool, true, false, ◌&&◌}
use mathlib.Core.Logic.{⊎_elim}
use mathlib.Core.List.{List, [], ◌∷◌}
use Prim.Native.Nat.{ℕ, suc, ◌+◌, ◌-◌, ◌≤◌, ◌<◌}
use native.Mathlib.Omega.{arith}
use borrow.Author.Tests.{le-leb, lt-leb, leb-true}
use lib.Dec.{leb, eqb}
use lib.ListN.{drop}
use Rattle.tree.specs.Form.{pick}
use Rattle.tree.specs.Tag.{Sort, expr, pred, wrong, own, own_of, shape_of}
use Rattle.tree.specs.declared.tag.Shape.TheVariants.{Unknown}
use Rattle.tree.proofs.Ranges.{one-sort}
use Rattle.form.specs.Break.{Next, parts, never, next_of, own_in, nothing, rest, least, least_all, after, break_from, break_sort, break_either}
use Rattle.form.proofs.LeastLaws.{open-never}
use Rattle.broken.specs.Internal.Seeks.{Seeks, Sought, place_of}
use Rattle.std.specs.Prelude.{is_ok, Ok, Err}

same-both : (b : Bool) (n : ℕ) → pick b n n ≡ n
same-both true n = refl
same-both false n = refl

-- after a whole form no word can come
no_more : (named : Bool) (p : ℕ) (ws : List ℕ) → break_from named (λ w. never) p nothing ws ≡ p
unfolding break_from after least least_all
no_more named p [] = refl
no_more named p (w ∷ ws) = rw (lt-leb (suc p + (8193 + 0)) 8192 (omega arith))

pub whole-at : {named : Bool} (row : List ℕ) (o : Next) (s : Sought) → Seeks named row 0 64 o 0 s → place_of s ≡ break_from named (λ w. never) 0 (rest 64 o nothing) row
unfolding least_all
whole-at row o s h = sym (h.breaks (λ w. never) nothing refl ∙ rw (no_more _ (place_of s) (drop (place_of s) row)) (same-both (is_ok s) (place_of s)))

-- where the search of a whole row ends, or where it found the break
pub whole-end : {named : Bool} (row : List ℕ) (o : Next) {s : Sought} {p : ℕ} → Seeks named row 0 64 o 0 s → s ≡ Ok p → (p ≤ 8192) × (p ≡ break_from named (λ w. never) 0 (rest 64 o nothing) row)
whole-end row o {s} {p} h e = let z : place_of s ≡ p = ap place_of e in (let low = h.low in omega (arith, z), sym z ∙ whole-at row o s h)

pub whole-break : {named : Bool} (row : List ℕ) (o : Next) {s : Sought} {p : ℕ} → Seeks named row 0 64 o 0 s → s ≡ Err p → (p ≤ 8192) × (p ≡ break_from named (λ w. never) 0 (rest 64 o nothing) row)
whole-break row o {s} {p} h e = let z : place_of s ≡ p = ap place_of e in (let low = h.low in omega (arith, z), sym z ∙ whole-at row o s h)

-- either sort: a row breaks at once as a form of a sort that has no such first tag, and no tag is of both sorts
module _ (named : Bool) where
  unknown-next : (s : Sort) (t : ℕ) → shape_of s t ≡ Unknown → next_of (own_in named s t) ≡ never
  unfolding next_of own own_of
  unknown-next s t e = rw e (either_way (named && eqb t 2))
    where
      either_way : (b : Bool) → next_of (pick b wrong wrong) ≡ never
      either_way true = refl
      either_way false = refl

  unknown-breaks : (s : Sort) (t : ℕ) (ws : List ℕ) → shape_of s t ≡ Unknown → break_sort named s (t ∷ ws) ≡ 0
  unfolding break_from after
  unknown-breaks expr t ws e =
      let least = open-never (64 - 1) (rest 64 (parts 0 0 0) nothing) in
      rw (unknown-next expr t e, least, lt-leb (1 + (8193 + least_all (rest 64 (parts 0 0 0) nothing))) 8192 (omega arith))
  unknown-breaks pred t ws e =
      let least = open-never (64 - 1) (rest 64 (parts 0 0 0) nothing) in
      rw (unknown-next pred t e, least, lt-leb (1 + (8193 + least_all (rest 64 (parts 0 0 0) nothing))) 8192 (omega arith))

  other-sort : (row : List ℕ) → 0 < break_sort named pred row → break_sort named expr row ≡ 0
  unfolding break_from
  other-sort [] h = refl
  other-sort (t ∷ ws) h = ⊎_elim (λ e. unknown-breaks expr t ws e) (λ e. let none = unknown-breaks pred t ws e in absurd (omega (arith, h, none))) (one-sort t)

  pub either-pred : (row : List ℕ) (p : ℕ) → p ≡ break_sort named pred row → 0 < p → p ≡ break_either named row
  either-pred row p e h = let none = other-sort row (rw e at h) in rw (none, ← e, le-leb 0 p (omega arith))

  pub either-expr : (row : List ℕ) (p : ℕ) → p ≡ break_sort named pred row → p ≤ 0 → (n : ℕ) → n ≡ break_sort named expr row → n ≡ break_either named row
  either-expr row p e h n q = rw (← e, ← q) (later n p h)
    where
      later : (n p : ℕ) → p ≤ 0 → n ≡ pick (leb n p) p n
      later n p h = go (leb n p) refl
        where
          go : (b : Bool) → leb n p ≡ b → n ≡ pick b p n
          go true e = let k = leb-true n p e in omega arith
          go false e = refl
