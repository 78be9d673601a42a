-- What a well-formed predicate is, by its tag. Assumes nothing.
use mathlib.Core.Path.{◌≡◌, refl, sym}
use mathlib.Core.List.{List, [], ◌∷◌, ◌++◌}
use Prim.Native.Nat.{ℕ, suc}
use lib.ListN.{length}
use Rattle.tree.specs.Form.{Form, node, noted, Decls, names_of, Forms, none, more}
use Rattle.tree.specs.Tag.{Sort, expr, pred, own, own_of, shape_of, pred_tags, sorts}
use Rattle.form.specs.Decode.{head, flagged, read}
use Rattle.tree.specs.declared.tag.Shape.TheVariants.{Plain}
use Rattle.form.proofs.DecodeLaws.{clash, Ok, ok-node, ok-noted, OkAll, ok-none, ok-more}
use Rattle.rules.specs.Split.{equal}

-- a tag with no own words
pub plain-node : {d : ℕ} {s : Sort} {t : ℕ} {o ds : List ℕ} {ks : Forms} → Ok (suc d) s (node t o ds ks) → (p e : ℕ) → shape_of s t ≡ Plain p e
    → (o ≡ []) × (ds ≡ []) × OkAll d (sorts p e) ks
unfolding own own_of read
plain-node {o = o} {ds = ds} (ok-node {p = p'} {e = e'} l h k) p e q =
    let x : head [] [] p e (o ++ (ds ++ [])) ≡ head o ds p' e' [] = rw q at (h []) in
    let a : [] ≡ o = cc in
    let b : [] ≡ ds = cc in
    let c : p' ≡ p = cc in
    let z : e' ≡ e = cc in
    (sym a, sym b, rw (c, z) at k)

-- such a tag has no annotations
pub plain-noted : {d : ℕ} {s : Sort} {t : ℕ} {o : List ℕ} {ds : Decls} {ks : Forms} → Ok (suc d) s (noted t o ds ks) → (p e : ℕ) → shape_of s t ≡ Plain p e → ⊥
unfolding own own_of read
plain-noted {o = o} {ds = ds} (ok-noted {p = p'} {e = e'} a h v k) p e q =
    let x : head [] [] p e (o ++ []) ≡ flagged o (length (names_of ds)) p' e' [] = rw q at (h []) in
    clash cc

pub two-more : {d : ℕ} {s s' : Sort} {ks : Forms} → OkAll d (s ∷ s' ∷ []) ks → (l : Form) × (r : Form) × (ks ≡ more l (more r none)) × Ok d s l × Ok d s' r
two-more (ok-more {f = l} h (ok-more {f = r} k ok-none)) = (l, r, refl, h, k)

-- an equality
pub record Equal (d : ℕ) (f : Form) : Type 0 where
  pub left : Form
  pub right : Form
  pub is : f ≡ equal left right
  pub ok-left : Ok d expr left
  pub ok-right : Ok d expr right

equal-made : {d : ℕ} {o ds : List ℕ} {ks : Forms} → o ≡ [] → ds ≡ [] → (l : Form) (r : Form) → ks ≡ more l (more r none) → Ok d expr l → Ok d expr r → Equal d (node 101 o ds ks)
equal-made a b l r e h k = record { left = l; right = r; is = rw (a, b, e); ok-left = h; ok-right = k }

pub equal-node : {d : ℕ} {o ds : List ℕ} {ks : Forms} → Ok (suc d) pred (node 101 o ds ks) → Equal d (node 101 o ds ks)
unfolding shape_of pred_tags
equal-node w =
    let (a, b, k) = plain-node w 0 2 refl in
    let (l, r, e, h, k') = two-more k in
    equal-made a b l r e h k'
