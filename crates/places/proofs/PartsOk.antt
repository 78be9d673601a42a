-- The parts of a well-formed equality are well-formed, and no more than its left side has words. Assumes nothing.
use mathlib.Core.Path.{◌≡◌, refl}
use mathlib.Core.Bool.{Bool, true, false, ◌&&◌}
use mathlib.Core.List.{List, [], ◌∷◌, ◌++◌, append-nil}
use Prim.Native.Nat.{ℕ, suc, ◌≤◌, ◌<◌}
use native.Mathlib.Omega.{arith}
use borrow.Author.Tests.{eqb-true}
use lib.Dec.{eqb}
use lib.ListN.{length, replicate, length-append}
use Rattle.tree.specs.Form.{Form, leaf, node, noted, Forms, none, more, pick, count, encode, encode_all}
use Rattle.tree.specs.Tag.{expr, pred, own, own_of, shape_of, expr_tags, pred_tags, sorts}
use Rattle.form.specs.Decode.{head, read, is_leaf}
use Rattle.tree.specs.declared.tag.Shape.TheVariants.{Preds}
use Rattle.form.proofs.DecodeLaws.{Ok, ok-node, OkAll, ok-none, ok-more}
use Rattle.form.proofs.HeadLaws.{between_in}
use Rattle.rules.proofs.WalkLaws.{and_left, and_right}
use Rattle.rules.proofs.OkLaws.{ok-deep}
use Rattle.rules.specs.Split.{is_two, is_nil, is_pair, parts, parts_all, equal}
use Rattle.places.proofs.ViewLaws.{plain-node, two-more}
use Rattle.places.proofs.PartsLaws.{some_words}

pub equal-ok : {d : ℕ} {l r : Form} → Ok d expr l → Ok d expr r → Ok (suc d) pred (equal l r)
unfolding own own_of shape_of pred_tags read
equal-ok h k = ok-node {p = 0} {e = 2} refl (λ x. refl) (ok-more h (ok-more k ok-none))

pub counted-ok : {d t : ℕ} {ks : Forms} → is_leaf t ≡ false → shape_of pred t ≡ Preds 2 → OkAll d (replicate (count ks) pred) ks → 2 ≤ count ks → count ks ≤ 4294967295 → Ok (suc d) pred (node t (count ks ∷ []) [] ks)
unfolding own own_of read
counted-ok {d} {t} {ks} l q k lo hi =
    let r : (x : List ℕ) → read (own pred t) (count ks ∷ x) ≡ head (count ks ∷ []) [] (count ks) 0 x = λ x. rw (q, between_in 2 4294967295 (count ks) lo hi) in
    let h : OkAll d (sorts (count ks) 0) ks = rw append-nil k in
    ok-node {s = pred} {t = t} {o = count ks ∷ []} {ds = []} {p = count ks} {e = 0} l r h

-- the parts of an equality
abbrev pub OkParts : ℕ → List (Form × Form) → Type 0
OkParts d [] = Unit {0}
OkParts d (p ∷ ps) = (Ok d expr p.0 × Ok d expr p.1) × OkParts d ps

parts-deep : (d : ℕ) (ps : List (Form × Form)) → OkParts d ps → OkParts (suc d) ps
parts-deep d [] h = tt
parts-deep d (p ∷ ps) h = ((ok-deep h.0.0 (suc d) (omega arith), ok-deep h.0.1 (suc d) (omega arith)), parts-deep d ps h.1)

parts-append : (d : ℕ) (ps qs : List (Form × Form)) → OkParts d ps → OkParts d qs → OkParts d (ps ++ qs)
parts-append d [] qs h k = k
parts-append d (p ∷ ps) qs h k = (h.0, parts-append d ps qs h.1 k)

abbrev OkExprs : ℕ → Forms → Type 0
OkExprs d none = Unit {0}
OkExprs d (more f fs) = Ok d expr f × OkExprs d fs

-- the children of a pair are expressions
pair-tag : (t : ℕ) (ds : List ℕ) (ks : Forms) → is_pair t ds ks ≡ true → t ≡ 201
pair-tag t ds ks e = eqb-true t 201 (and_left (eqb t 201) (is_nil ds && is_two ks) e)

pair-kids : {d t : ℕ} {o ds : List ℕ} {ks : Forms} → Ok (suc d) expr (node t o ds ks) → t ≡ 201 → OkExprs d ks
unfolding shape_of expr_tags
pair-kids w e =
    let (a, b, k) = plain-node (rw e at w) 0 2 refl in
    let (l, r, m, h, i) = two-more k in
    rw m (h, (i, tt))

module _ (t : ℕ) (o ds : List ℕ) (ks : Forms) (u : ℕ) (p es : List ℕ) (js : Forms) {d : ℕ} (w : Ok (suc d) expr (node t o ds ks)) (v : Ok (suc d) expr (node u p es js)) (rec : OkExprs d ks → OkExprs d js → OkParts d (parts_all ks js)) where
  pub pair_parts : (is_pair t ds ks && is_pair u es js) ≡ true → OkParts d (parts_all ks js)
  pair_parts e = rec (pair-kids w (pair-tag t ds ks (and_left (is_pair t ds ks) (is_pair u es js) e))) (pair-kids v (pair-tag u es js (and_right (is_pair t ds ks) (is_pair u es js) e)))

  pair-or-one : (b : Bool) → (is_pair t ds ks && is_pair u es js) ≡ b → OkParts (suc d) (pick b (parts_all ks js) ((node t o ds ks, node u p es js) ∷ []))
  pair-or-one true e = parts-deep d (parts_all ks js) (pair_parts e)
  pair-or-one false e = ((w, v), tt)

mutual
  unfolding parts

  pub parts-ok : {d : ℕ} (l r : Form) → Ok d expr l → Ok d expr r → OkParts d (parts l r)
  parts-ok (leaf x) r h k = ((h, k), tt)
  parts-ok (node t o ds ks) (leaf y) h k = ((h, k), tt)
  parts-ok (node t o ds ks) (noted u p es js) h k = ((h, k), tt)
  parts-ok (noted t o ds ks) r h k = ((h, k), tt)
  parts-ok (node t o ds ks) (node u p es js) (ok-node {d = d} a b c) (ok-node a' b' c') =
      pair-or-one t o ds ks u p es js (ok-node a b c) (ok-node a' b' c') (λ x y. parts_all-ok d ks js x y) (is_pair t ds ks && is_pair u es js) refl

  pub parts_all-ok : (d : ℕ) (ks js : Forms) → OkExprs d ks → OkExprs d js → OkParts d (parts_all ks js)
  parts_all-ok d none js h k = tt
  parts_all-ok d (more f fs) none h k = tt
  parts_all-ok d (more f fs) (more g gs) h k = parts-append d (parts f g) (parts_all fs gs) (parts-ok f g h.0 k.0) (parts_all-ok d fs gs h.1 k.1)

-- there are at most as many as the left side has words
pick-few : (b : Bool) (ps : List (Form × Form)) (q : Form × Form) (n : ℕ) → length ps ≤ n → 0 < n → length (pick b ps (q ∷ [])) ≤ n
pick-few true ps q n h k = h
pick-few false ps q n h k = omega arith

pub kids-few : (t : ℕ) (o ds : List ℕ) (ks : Forms) → length (encode_all ks) ≤ length (encode (node t o ds ks))
unfolding encode
kids-few t o ds ks = rw (length-append o, length-append ds) (omega arith)

mutual
  unfolding parts encode

  pub parts-few : (l r : Form) → length (parts l r) ≤ length (encode l)
  parts-few (leaf x) r = some_words (leaf x)
  parts-few (node t o ds ks) (leaf y) = some_words (node t o ds ks)
  parts-few (node t o ds ks) (noted u p es js) = some_words (node t o ds ks)
  parts-few (noted t o ds ks) r = some_words (noted t o ds ks)
  parts-few (node t o ds ks) (node u p es js) =
      let h = parts_all-few ks js in
      let k = kids-few t o ds ks in
      pick-few (is_pair t ds ks && is_pair u es js) (parts_all ks js) (node t o ds ks, node u p es js) (length (encode (node t o ds ks))) (omega arith) (some_words (node t o ds ks))

  pub parts_all-few : (ks js : Forms) → length (parts_all ks js) ≤ length (encode_all ks)
  parts_all-few none js = omega arith
  parts_all-few (more f fs) none = omega arith
  parts_all-few (more f fs) (more g gs) =
      let h = parts-few f g in
      let k = parts_all-few fs gs in
      rw (length-append (parts f g), length-append (encode f)) (omega arith)
