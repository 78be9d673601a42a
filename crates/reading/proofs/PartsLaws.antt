-- An equality of two pairs has the truth of its parts together: in every reading two pairs are equal exactly if both parts are. Assumes nothing.
use mathlib.Core.Path.{◌≡◌, refl, ◌∙◌, sym}
use mathlib.Core.List.{List, [], ◌∷◌, ◌++◌}
use mathlib.Core.Bool.{Bool, true, false, ◌&&◌, and-true, and_assoc}
use Prim.Native.Nat.{ℕ}
use borrow.Author.Tests.{eqb-true}
use lib.Dec.{eqb}
use lib.IntN.{ℤ}
use Rattle.tree.specs.Form.{Form, leaf, node, noted, Forms, none, more, pick}
use Rattle.rules.specs.Split.{is_two, is_nil, is_pair, parts, parts_all}
use Rattle.rules.proofs.WalkLaws.{and_left, and_right}
use Rattle.reading.specs.Reading.{Reading, truth, same, value_of, Env, value, values}
use Rattle.reading.proofs.Same.{truth-bit, not-true, same_refl, same-equal, different}

module _ (R : Reading) (θ : Env) where
  pub equal-value : (t : ℕ) (o : List ℕ) (l r : Form) → t ≡ 101
      → truth (value R θ (node t o [] (more l (more r none)))) ≡ same (value R θ l) (value R θ r)
  unfolding value_of value
  equal-value t o l r q = rw q (truth-bit (same (value R θ l) (value R θ r)))

  -- all equalities of a list hold
  abbrev pub all_same : List (Form × Form) → Bool
  all_same [] = true
  all_same (p ∷ ps) = same (value R θ p.0) (value R θ p.1) && all_same ps

  all_same-append : (ps qs : List (Form × Form)) → all_same (ps ++ qs) ≡ (all_same ps && all_same qs)
  all_same-append [] qs = refl
  all_same-append (p ∷ ps) qs = rw (all_same-append ps qs, and_assoc)

  -- two lists of values, as far as both reach
  abbrev alike : List ℤ → List ℤ → Bool
  alike [] ws = true
  alike (v ∷ vs) [] = true
  alike (v ∷ vs) (w ∷ ws) = same v w && alike vs ws

  pair_same : (a b c d : ℤ) (s t : Bool) → same a c ≡ s → same b d ≡ t → same (R.pair a b) (R.pair c d) ≡ (s && (t && true))
  pair_same a b c d true true p q =
      let z : a ≡ c = same-equal a c p in
      let w : b ≡ d = same-equal b d q in
      rw (z, w) (same_refl (R.pair c d))
  pair_same a b c d true false p q =
      not-true (same (R.pair a b) (R.pair c d)) (λ e. different b d q (R.pair-right a b c d (same-equal (R.pair a b) (R.pair c d) e)))
  pair_same a b c d false t p q =
      not-true (same (R.pair a b) (R.pair c d)) (λ e. different a c p (R.pair_left a b c d (same-equal (R.pair a b) (R.pair c d) e)))

  pair-value : (t : ℕ) (o : List ℕ) (l r : Form) → eqb t 201 ≡ true
      → value R θ (node t o [] (more l (more r none))) ≡ R.pair (value R θ l) (value R θ r)
  unfolding value value_of
  pair-value t o l r q =
      let z : t ≡ 201 = eqb-true t 201 q in
      rw z

  two-alike : (t u : ℕ) (o p ds es : List ℕ) (ks js : Forms) → eqb t 201 ≡ true → eqb u 201 ≡ true → (is_nil ds && is_two ks) ≡ true
      → (is_nil es && is_two js) ≡ true
      → alike (values R θ ks) (values R θ js) ≡ same (value R θ (node t o ds ks)) (value R θ (node u p es js))
  unfolding value
  two-alike t u o p (d ∷ ds) es ks js a b x y = cc
  two-alike t u o p [] (e ∷ es) ks js a b x y = cc
  two-alike t u o p [] [] none js a b x y = cc
  two-alike t u o p [] [] (more f none) js a b x y = cc
  two-alike t u o p [] [] (more f (more g (more h hs))) js a b x y = cc
  two-alike t u o p [] [] (more f (more g none)) none a b x y = cc
  two-alike t u o p [] [] (more f (more g none)) (more h none) a b x y = cc
  two-alike t u o p [] [] (more f (more g none)) (more h (more k (more l ls))) a b x y = cc
  two-alike t u o p [] [] (more f (more g none)) (more h (more k none)) a b x y =
      rw (pair-value t o f g a, pair-value u p h k b)
      (sym (pair_same (value R θ f) (value R θ g) (value R θ h) (value R θ k) (same (value R θ f) (value R θ h)) (same (value R θ g) (value R θ k)) refl refl))

  pairs-alike : (t u : ℕ) (o p ds es : List ℕ) (ks js : Forms) → is_pair t ds ks ≡ true → is_pair u es js ≡ true
      → alike (values R θ ks) (values R θ js) ≡ same (value R θ (node t o ds ks)) (value R θ (node u p es js))
  pairs-alike t u o p ds es ks js x y =
      two-alike t u o p ds es ks js (and_left (eqb t 201) (is_nil ds && is_two ks) x) (and_left (eqb u 201) (is_nil es && is_two js) y)
      (and_right (eqb t 201) (is_nil ds && is_two ks) x) (and_right (eqb u 201) (is_nil es && is_two js) y)

  split-pair : (t u : ℕ) (o p ds es : List ℕ) (ks js : Forms) (ps : List (Form × Form)) → all_same ps ≡ alike (values R θ ks) (values R θ js)
      → (z : Bool) → (is_pair t ds ks && is_pair u es js) ≡ z
      → all_same (pick z ps ((node t o ds ks, node u p es js) ∷ [])) ≡ same (value R θ (node t o ds ks)) (value R θ (node u p es js))
  split-pair t u o p ds es ks js ps h false q = and-true _
  split-pair t u o p ds es ks js ps h true q =
      h ∙ pairs-alike t u o p ds es ks js (and_left (is_pair t ds ks) (is_pair u es js) q) (and_right (is_pair t ds ks) (is_pair u es js) q)

  mutual
    unfolding value parts

    pub parts-value : (l r : Form) → all_same (parts l r) ≡ same (value R θ l) (value R θ r)
    parts-value (leaf x) r = and-true _
    parts-value (node t o ds ks) (leaf y) = and-true _
    parts-value (node t o ds ks) (noted u p es js) = and-true _
    parts-value (noted t o ds ks) r = and-true _
    parts-value (node t o ds ks) (node u p es js) =
        split-pair t u o p ds es ks js (parts_all ks js) (parts_all-value ks js) (is_pair t ds ks && is_pair u es js) refl

    parts_all-value : (ks js : Forms) → all_same (parts_all ks js) ≡ alike (values R θ ks) (values R θ js)
    parts_all-value none js = refl
    parts_all-value (more f fs) none = refl
    parts_all-value (more f fs) (more g gs) = all_same-append (parts f g) (parts_all fs gs) ∙ rw (parts-value f g, parts_all-value fs gs)
