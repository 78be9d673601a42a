-- The scan keeps the truth of every body, with either polarity: by the role of each node. Assumes nothing.
use mathlib.Core.Path.{◌≡◌, refl}
use mathlib.Core.List.{List, [], ◌∷◌}
use mathlib.Core.Option.{none as absent, map}
use mathlib.Core.Bool.{Bool, true, false, not, ◌&&◌, ◌||◌, and-true, and-false, or-false}
use Prim.Native.Nat.{ℕ, suc}
use native.Mathlib.Omega.{arith}
use borrow.Author.Tests.{eqb-true}
use lib.Dec.{eqb}
use lib.ListN.{get_or}
use Rattle.tree.specs.Form.{Form, leaf, node, noted, Forms, none, more, pick, count}
use Rattle.form.proofs.DecodeLaws.{clash}
use Rattle.rules.proofs.WalkLaws.{and_left}
use Rattle.rules.specs.Split.{of_two, is_two, parts}
use Rattle.rules.specs.Scan.{Scan, joined, negate, present, implies, Role, junction, implication, negation, equality, other, role_of, suits, first_polarity, offer_parts, with, rebuild, scan, scan_all}
use Rattle.reading.specs.Reading.{Reading, Env, value, values}
use Rattle.reading.proofs.ScanLaws.{Tied, TiedAll, all, junction_of, junction-value, rejoin-tied, follow-tied, negated-tied, implied-tied, equality-tied}

-- the tags that have a role
junction-tag : (b : Bool) (R : Reading) (θ : Env) (n t : ℕ) → (eqb t 351 && b || eqb t 352 && not b) ≡ true → t ≡ junction_of R θ n b
junction-tag true R θ n t q = eqb-true t 351 (rw (and-true, and-false, or-false) at q)
junction-tag false R θ n t q = eqb-true t 352 (rw (and-false, and-true) at q)

module _ (R : Reading) (θ : Env) (n : ℕ) where
  -- the children are tied with every polarity
  abbrev Children : Forms → Type 0
  Children none = Unit {0}
  Children (more f fs) = ((b : Bool) → Tied R θ n b f (scan n b f)) × Children fs

  all-tied : (b : Bool) (ks : Forms) → Children ks → TiedAll R θ n b (all R θ n b (values R θ ks)) (scan_all n b b ks)
  unfolding scan value
  all-tied b none h = refl
  all-tied b (more f fs) h = follow-tied R θ n b f fs (scan n b f) (scan_all n b b fs) (h.0 b) (all-tied b fs h.1)

  junction-tied : (b : Bool) (t : ℕ) (o : List ℕ) (ks : Forms) → (eqb t 351 && b || eqb t 352 && not b) ≡ true → Children ks
      → Tied R θ n b (node t o [] ks) (with (λ gs. joined t (present gs)) (scan_all n b b ks))
  junction-tied b t o ks q h =
      let m = junction-tag b R θ n t q in
      rejoin-tied R θ n b (node t o [] ks) t (scan_all n b b ks) m (rw (junction-value R θ n b t o ks m) (all-tied b ks h))

  negation-tied : (b : Bool) (t : ℕ) (o : List ℕ) (ks : Forms) → eqb t 8 ≡ true → eqb (count ks) 1 ≡ true → Children ks
      → Tied R θ n b (node t o [] ks) (with (λ gs. map negate (get_or gs 0 absent)) (scan_all n (not b) b ks))
  unfolding scan
  negation-tied b t o none q s h = absurd (clash cc)
  negation-tied b t o (more f none) q s h = negated-tied R θ n b t o f (scan n (not b) f) (eqb-true t 8 q) (h.0 (not b))
  negation-tied b t o (more f (more g gs)) q s h =
      let z : suc (suc (count gs)) ≡ 1 = eqb-true (suc (suc (count gs))) 1 s in
      absurd (omega arith)

  implication-tied : (b : Bool) (t : ℕ) (o : List ℕ) (ks : Forms) → (eqb t 251 && not b) ≡ true → is_two ks ≡ true → Children ks
      → Tied R θ n b (node t o [] ks) (with (λ gs. implies (get_or gs 0 absent) (get_or gs 1 absent)) (scan_all n (not b) b ks))
  unfolding scan
  implication-tied true t o ks q s h =
      let z : (eqb t 251 && false) ≡ false = and-false (eqb t 251) in
      absurd (clash cc)
  implication-tied false t o none q s h = absurd (clash cc)
  implication-tied false t o (more l none) q s h = absurd (clash cc)
  implication-tied false t o (more l (more r none)) q s h =
      implied-tied R θ n t o l r (scan n true l) (scan n false r) (eqb-true t 251 (and_left (eqb t 251) true q)) (h.0 true) (h.1.0 false)
  implication-tied false t o (more l (more r (more f fs))) q s h = absurd (clash cc)

  tie-tied : (b : Bool) (t : ℕ) (o : List ℕ) (ks : Forms) → (eqb t 101 && b) ≡ true → is_two ks ≡ true
      → Tied R θ n b (node t o [] ks) (with (λ gs. joined 351 (present gs)) (offer_parts n (of_two [] parts ks)))
  tie-tied false t o ks q s =
      let z : (eqb t 101 && false) ≡ false = and-false (eqb t 101) in
      absurd (clash cc)
  tie-tied true t o none q s = absurd (clash cc)
  tie-tied true t o (more l none) q s = absurd (clash cc)
  tie-tied true t o (more l (more r none)) q s = equality-tied R θ n t o l r (eqb-true t 101 (and_left (eqb t 101) true q))
  tie-tied true t o (more l (more r (more f fs))) q s = absurd (clash cc)

  -- what the scan makes of a node that declares nothing, in a role
  abbrev made : Bool → ℕ → List ℕ → Forms → Role → Scan
  made b t o ks x = rebuild n x t (node t o [] ks) ks (scan_all n (first_polarity x b) b ks)

  role-tied : (b : Bool) (t : ℕ) (o : List ℕ) (ks : Forms) → Children ks → (p q r s : Bool) → eqb t 8 ≡ p → (eqb t 351 && b || eqb t 352 && not b) ≡ q
      → (eqb t 251 && not b) ≡ r → (eqb t 101 && b) ≡ s → (x : Role) → x ≡ pick p negation (pick q junction (pick r implication (pick s equality other)))
      → suits x ks ≡ true → Tied R θ n b (node t o [] ks) (made b t o ks x)
  role-tied b t o ks h true q r s e f g k x z y = rw z (negation-tied b t o ks e (rw z at y) h)
  role-tied b t o ks h false true r s e f g k x z y = rw z (junction-tied b t o ks f h)
  role-tied b t o ks h false false true s e f g k x z y = rw z (implication-tied b t o ks g (rw z at y) h)
  role-tied b t o ks h false false false true e f g k x z y = rw z (tie-tied b t o ks k (rw z at y))
  role-tied b t o ks h false false false false e f g k x z y = rw z refl

  suited-tied : (b : Bool) (t : ℕ) (o : List ℕ) (ks : Forms) (x : Role) (z : Bool) → suits x ks ≡ z
      → (suits x ks ≡ true → Tied R θ n b (node t o [] ks) (made b t o ks x)) → Tied R θ n b (node t o [] ks) (made b t o ks (pick z x other))
  suited-tied b t o ks x true e h = h e
  suited-tied b t o ks x false e h = refl

  node-tied : (b : Bool) (t : ℕ) (o ds : List ℕ) (ks : Forms) → Children ks → Tied R θ n b (node t o ds ks) (scan n b (node t o ds ks))
  unfolding scan
  node-tied b t o [] ks h =
      suited-tied b t o ks (role_of t b) (suits (role_of t b) ks) refl
      (role-tied b t o ks h (eqb t 8) (eqb t 351 && b || eqb t 352 && not b) (eqb t 251 && not b) (eqb t 101 && b) refl refl refl refl (role_of t b) refl)
  node-tied b t o (d ∷ ds) ks h = refl

  mutual
    unfolding scan

    pub scan-tied : (f : Form) (b : Bool) → Tied R θ n b f (scan n b f)
    scan-tied (leaf x) b = refl
    scan-tied (noted t o ds ks) b = refl
    scan-tied (node t o ds ks) b = node-tied b t o ds ks (children-tied ks)

    children-tied : (ks : Forms) → Children ks
    children-tied none = tt
    children-tied (more f fs) = (λ b. scan-tied f b, children-tied fs)
