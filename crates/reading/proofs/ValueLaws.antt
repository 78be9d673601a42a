-- The value of a form that a walk has rewritten: the shift lemma and the substitution lemma, for every form and reading. Assumes nothing.
use mathlib.Core.Path.{◌≡◌, refl, ap, ◌∙◌, sym, fun_ext}
use mathlib.Core.List.{List, [], ◌∷◌, flat_map}
use Prim.Native.Nat.{ℕ, zero, suc, ◌+◌}
use native.Mathlib.Nat.{zero-add, add_comm}
use native.Mathlib.Omega.{arith}
use lib.IntN.{ℤ}
use lib.ListN.{length}
use Rattle.tree.specs.Form.{Leaf, free, bound, Form, leaf, node, noted, names_of, Forms, none, more}
use Rattle.rules.specs.Walk.{Binding, inside, outside, binding, Outer, named, dangling, walk_index, walk_leaf, walk, walk_all, up, lift, put, subst}
use Rattle.rules.proofs.WalkLaws.{binding-add, walk-names}
use Rattle.reading.specs.Reading.{Reading, plain_tag, value_of, Env, over, value, values}
use Rattle.reading.specs.Premise.{push}

abbrev pub outer_value : Reading → Env → Outer → ℤ
outer_value R ρ (named n) = R.name n
outer_value R ρ (dangling j) = ρ j

-- two computations agree over all choices if they agree at each
pub over-same : {A : Type 0} (r : ℕ → List ℤ) (ds : List ℕ) (ρ η : Env) (g h : Env → A) (c : List ℤ)
    → ((b : List ℤ) → length b ≡ length ds + length c → g (push b ρ) ≡ h (push b η)) → over r ds (push c ρ) g ≡ over r ds (push c η) h
over-same r [] ρ η g h c e = rw (e c (sym (zero-add (length c))))
over-same r (d ∷ ds) ρ η g h c e =
    ap (λ f. flat_map f (r d)) (fun_ext (λ v. over-same r ds ρ η g h (v ∷ c) (λ b q. e b (omega arith))))

-- the values of indices under the values c of declarations
pub push-inside : (c : List ℤ) (i : ℕ) (ρ η : Env) → binding (length c) i ≡ inside → push c ρ i ≡ push c η i
push-inside [] i ρ η q = cc
push-inside (v ∷ c) zero ρ η q = refl
push-inside (v ∷ c) (suc i) ρ η q = push-inside c i ρ η q

pub push-outside : (c : List ℤ) (i j : ℕ) (ρ : Env) → binding (length c) i ≡ outside j → push c ρ i ≡ ρ j
push-outside [] i j ρ q = cc
push-outside (v ∷ c) zero j ρ q = cc
push-outside (v ∷ c) (suc i) j ρ q = push-outside c i j ρ q

pub push-add : (c : List ℤ) (ρ : Env) (j : ℕ) → push c ρ (length c + j) ≡ ρ j
push-add c ρ j = push-outside c (length c + j) j ρ (binding-add (length c) j)

-- a walk keeps the value if what it puts for each outer identifier, at each depth, has that identifier's value
module _ (R : Reading) (act : ℕ → Outer → Form) (ρ η : Env)
    (right : (c : List ℤ) (x : Outer) → value R (push c η) (act (length c) x) ≡ outer_value R ρ x) where
  keep-index : (c : List ℤ) (i : ℕ) (z : Binding) → binding (length c) i ≡ z → value R (push c η) (walk_index act (length c) i z) ≡ push c ρ i
  unfolding value
  keep-index c i inside q = push-inside c i η ρ q
  keep-index c i (outside j) q = right c (dangling j) ∙ sym (push-outside c i j ρ q)

  keep-leaf : (c : List ℤ) (x : Leaf) → value R (push c η) (walk_leaf act (length c) x) ≡ value R (push c ρ) (leaf x)
  unfolding value
  keep-leaf c (free n) = right c (named n)
  keep-leaf c (bound i) = keep-index c i (binding (length c) i) refl

  mutual
    unfolding walk value

    pub keep : (f : Form) (c : List ℤ) (k : ℕ) → length c ≡ k → value R (push c η) (walk act k f) ≡ value R (push c ρ) f
    keep (leaf x) c k e = rw (← e) (keep-leaf c x)
    keep (node t o ds ks) c k e =
        ap (λ z. value_of R t o ds z)
        (over-same R.range ds η ρ (λ θ. values R θ (walk_all act (length ds + k) ks)) (λ θ. values R θ ks) c
        (λ b q. keep_all ks b (length ds + k) (omega arith)))
    keep (noted t o ds ks) c k e =
        rw (walk-names act k ds)
        (ap (λ z. value_of R (plain_tag t) o (names_of ds) z)
        (over-same R.range (names_of ds) η ρ (λ θ. values R θ (walk_all act (length (names_of ds) + k) ks)) (λ θ. values R θ ks) c
        (λ b q. keep_all ks b (length (names_of ds) + k) (omega arith))))

    keep_all : (fs : Forms) (c : List ℤ) (k : ℕ) → length c ≡ k → values R (push c η) (walk_all act k fs) ≡ values R (push c ρ) fs
    keep_all none c k e = refl
    keep_all (more f fs) c k e = rw (keep f c k e, keep_all fs c k e)

-- the shift lemma
lift-right : (R : Reading) (c : List ℤ) (ρ : Env) (b : List ℤ) (x : Outer)
    → value R (push b (push c ρ)) (up (length c) (length b) x) ≡ outer_value R ρ x
unfolding value
lift-right R c ρ b (named n) = refl
lift-right R c ρ b (dangling j) = push-add b (push c ρ) (j + length c) ∙ rw add_comm (push-add c ρ j)

pub lift-value : (R : Reading) (c : List ℤ) (ρ : Env) (f : Form) → value R (push c ρ) (lift (length c) f) ≡ value R ρ f
lift-value R c ρ f = keep R (up (length c)) ρ (push c ρ) (lift-right R c ρ) f [] 0 refl

-- the substitution lemma
pub subst-value : (R : Reading) (σ : Outer → Form) (ρ η : Env) → ((x : Outer) → value R η (σ x) ≡ outer_value R ρ x)
    → (f : Form) → value R η (subst σ f) ≡ value R ρ f
subst-value R σ ρ η h f = keep R (put σ) ρ η (λ c x. lift-value R c η (σ x) ∙ h x) f [] 0 refl
