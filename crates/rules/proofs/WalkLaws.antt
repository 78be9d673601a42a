-- Laws of the traversal, which every rewriting cites: two walks are one; lift and substitution commute; a walk that undoes another; walks
-- and tests that agree. Assumes nothing.
use mathlib.Core.Path.{◌≡◌, refl, ap, ◌∙◌, sym}
use mathlib.Core.Bool.{Bool, true, false, ◌&&◌}
use mathlib.Core.List.{◌∷◌}
use Prim.Native.Nat.{ℕ, zero, suc, ◌+◌, ◌<◌}
use native.Mathlib.Nat.{zero-add, suc-add, add-zero, add_assoc}
use native.Mathlib.Omega.{arith}
use lib.ListN.{length}
use Rattle.tree.specs.Form.{Leaf, free, bound, Form, leaf, node, noted, Decls, undeclared, bare, typed, names_of, any_typed, Forms, none, more}
use Rattle.form.proofs.DecodeLaws.{clash}
use Rattle.rules.specs.Walk.{Binding, inside, outside, binding, Outer, named, dangling, walk_index, walk_leaf, walk, walk_decls, walk_all, up, lift, put, subst, collect_index, collect_leaf, collect, collect_decls, collect_all, each}

-- the test on several forms
abbrev pub each_all : (ℕ → Outer → Bool) → ℕ → Forms → Bool
each_all p k fs = collect_all true ◌&&◌ p k fs

abbrev pub each_decls : (ℕ → Outer → Bool) → ℕ → Decls → Bool
each_decls p k ds = collect_decls true ◌&&◌ p k ds

-- a walk keeps names, and which declarations have annotations
pub walk-names : (act : ℕ → Outer → Form) (k : ℕ) (ds : Decls) → names_of (walk_decls act k ds) ≡ names_of ds
unfolding walk
walk-names act k undeclared = refl
walk-names act k (bare n ds) = ap (λ z. n ∷ z) (walk-names act k ds)
walk-names act k (typed n f ds) = ap (λ z. n ∷ z) (walk-names act k ds)

pub walk-typed : (act : ℕ → Outer → Form) (k : ℕ) (ds : Decls) → any_typed (walk_decls act k ds) ≡ any_typed ds
unfolding walk
walk-typed act k undeclared = refl
walk-typed act k (bare n ds) = walk-typed act k ds
walk-typed act k (typed n f ds) = refl

pub binding-inside : (k i : ℕ) → binding k i ≡ inside → i < k
binding-inside zero i e = absurd (clash cc)
binding-inside (suc k) zero e = omega arith
binding-inside (suc k) (suc i) e = let h = binding-inside k i e in omega arith

pub binding-add : (k j : ℕ) → binding k (k + j) ≡ outside j
binding-add zero j = rw zero-add
binding-add (suc k) j = rw suc-add (binding-add k j)

binding-deeper : (k a i : ℕ) → binding k i ≡ inside → binding (k + a) i ≡ inside
binding-deeper zero a i e = cc
binding-deeper (suc k) a zero e = rw suc-add
binding-deeper (suc k) a (suc i) e = rw suc-add (binding-deeper k a i e)

-- two walks are one, the second a levels further in
module _ (a : ℕ) (g f h : ℕ → Outer → Form) (e : (k : ℕ) (x : Outer) → walk g (k + a) (f k x) ≡ h k x) where
  fuse-index : (k i : ℕ) (p : Binding) → binding k i ≡ p → walk g (k + a) (walk_index f k i p) ≡ walk_index h k i p
  unfolding walk
  fuse-index k i inside q = rw (binding-deeper k a i q)
  fuse-index k i (outside j) q = e k (dangling j)

  fuse-leaf : (k : ℕ) (x : Leaf) → walk g (k + a) (walk_leaf f k x) ≡ walk_leaf h k x
  fuse-leaf k (free n) = e k (named n)
  fuse-leaf k (bound i) = fuse-index k i (binding k i) refl

  mutual
    unfolding walk

    pub fuse : (k : ℕ) (t : Form) → walk g (k + a) (walk f k t) ≡ walk h k t
    fuse k (leaf x) = fuse-leaf k x
    fuse k (node t o ds ks) = ap (λ z. node t o ds z) (rw (← add_assoc) (fuse_all (length ds + k) ks))
    fuse k (noted t o ds ks) = rw (walk-names f k ds, fuse_decls k ds, ← add_assoc) (ap (λ z. noted t o (walk_decls h k ds) z) (fuse_all (length (names_of ds) + k) ks))

    pub fuse_decls : (k : ℕ) (ds : Decls) → walk_decls g (k + a) (walk_decls f k ds) ≡ walk_decls h k ds
    fuse_decls k undeclared = refl
    fuse_decls k (bare n ds) = ap (λ z. bare n z) (fuse_decls k ds)
    fuse_decls k (typed n t ds) = rw (fuse k t, fuse_decls k ds)

    pub fuse_all : (k : ℕ) (ts : Forms) → walk_all g (k + a) (walk_all f k ts) ≡ walk_all h k ts
    fuse_all k none = refl
    fuse_all k (more t ts) = rw (fuse k t, fuse_all k ts)

pub fuse-level : (g f h : ℕ → Outer → Form) → ((k : ℕ) (x : Outer) → walk g k (f k x) ≡ h k x) → (k : ℕ) (t : Form) → walk g k (walk f k t) ≡ walk h k t
fuse-level g f h e k t = rw add-zero at (fuse 0 g f h (λ k x. rw add-zero (e k x)) k t)

-- shifts upward add up: b more, in a form lifted by a
pub up_up : (a b : ℕ) (k : ℕ) (x : Outer) → walk (up b) k (up a k x) ≡ up (a + b) k x
unfolding walk
up_up a b k (named m) = refl
up_up a b k (dangling j) = rw (binding-add, add_assoc)

pub shift-shift : (a b k : ℕ) (t : Form) → walk (up b) k (walk (up a) k t) ≡ walk (up (a + b)) k t
shift-shift a b k t = fuse-level (up b) (up a) (up (a + b)) (up_up a b) k t

binding-past : (k a j : ℕ) → binding (k + a) (k + (j + a)) ≡ outside j
binding-past k a j =
    let q : k + (j + a) ≡ k + a + j = omega arith in
    rw (q, binding-add)

lift-in : (a b : ℕ) (k : ℕ) (x : Outer) → walk (up b) (k + a) (up a k x) ≡ up (a + b) k x
unfolding walk
lift-in a b k (named m) = refl
lift-in a b k (dangling j) = rw binding-past (ap (λ z. leaf (bound z)) (omega arith))

-- a form lifted by k, rewritten under k declarations, is the rewritten form lifted
pub lift-up : (k b : ℕ) (t : Form) → walk (up b) k (lift k t) ≡ lift (k + b) t
lift-up k b t = rw zero-add at (fuse k (up b) (up k) (up (k + b)) (lift-in k b) 0 t)

put_in : (σ : Outer → Form) (a : ℕ) (k : ℕ) (x : Outer) → walk (put σ) (k + a) (up a k x) ≡ lift (k + a) (σ x)
unfolding walk
put_in σ a k (named m) = refl
put_in σ a k (dangling j) = rw binding-past

pub subst-lift : (σ : Outer → Form) (k : ℕ) (t : Form) → walk (put σ) k (lift k t) ≡ lift k (subst σ t)
subst-lift σ k t = (rw zero-add at (fuse k (put σ) (up k) (λ d x. lift (d + k) (σ x)) (put_in σ k) 0 t))
    ∙ sym (fuse-level (up k) (put σ) (λ d x. lift (d + k) (σ x)) (λ d x. lift-up d k (σ x)) 0 t)

-- one substitution after another is one substitution
pub subst-subst : (σ τ : Outer → Form) (t : Form) → subst τ (subst σ t) ≡ subst (λ x. subst τ (σ x)) t
subst-subst σ τ t = fuse-level (put τ) (put σ) (put (λ x. subst τ (σ x))) (λ k x. subst-lift τ k (σ x)) 0 t

-- a walk that undoes another, at the outer identifiers that occur
abbrev pub self : ℕ → Outer → Form
self k (named m) = leaf (free m)
self k (dangling j) = leaf (bound (k + j))

pub binding-back : (k i j : ℕ) → binding k i ≡ outside j → k + j ≡ i
binding-back zero i j e = zero-add j ∙ cc
binding-back (suc k) zero j e = cc
binding-back (suc k) (suc i) j e = suc-add k j ∙ ap suc (binding-back k i j e)

pub and_left : (a b : Bool) → (a && b) ≡ true → a ≡ true
and_left true b e = refl
and_left false b e = cc

pub and_right : (a b : Bool) → (a && b) ≡ true → b ≡ true
and_right true b e = e
and_right false b e = cc

module _ (g f : ℕ → Outer → Form) (p : ℕ → Outer → Bool) (e : (k : ℕ) (x : Outer) → p k x ≡ true → walk g k (f k x) ≡ self k x) where
  undo-index : (k i : ℕ) (z : Binding) → binding k i ≡ z → collect_index true p k z ≡ true → walk g k (walk_index f k i z) ≡ leaf (bound i)
  unfolding walk
  undo-index k i inside q b = rw q
  undo-index k i (outside j) q b = e k (dangling j) b ∙ ap (λ z. leaf (bound z)) (binding-back k i j q)

  undo-leaf : (k : ℕ) (x : Leaf) → collect_leaf true p k x ≡ true → walk g k (walk_leaf f k x) ≡ leaf x
  undo-leaf k (free n) b = e k (named n) b
  undo-leaf k (bound i) b = undo-index k i (binding k i) refl b

  mutual
    unfolding walk collect

    pub undo : (k : ℕ) (t : Form) → each p k t ≡ true → walk g k (walk f k t) ≡ t
    undo k (leaf x) b = undo-leaf k x b
    undo k (node t o ds ks) b = ap (λ z. node t o ds z) (undo_all (length ds + k) ks b)
    undo k (noted t o ds ks) b =
        rw (walk-names f k ds, undo_decls k ds (and_left (each_decls p k ds) (each_all p (length (names_of ds) + k) ks) b), undo_all (length (names_of ds) + k) ks (and_right (each_decls p k ds) (each_all p (length (names_of ds) + k) ks) b))

    undo_decls : (k : ℕ) (ds : Decls) → each_decls p k ds ≡ true → walk_decls g k (walk_decls f k ds) ≡ ds
    undo_decls k undeclared b = refl
    undo_decls k (bare n ds) b = ap (λ z. bare n z) (undo_decls k ds b)
    undo_decls k (typed n t ds) b = rw (undo k t (and_left (each p k t) (each_decls p k ds) b), undo_decls k ds (and_right (each p k t) (each_decls p k ds) b))

    pub undo_all : (k : ℕ) (ts : Forms) → each_all p k ts ≡ true → walk_all g k (walk_all f k ts) ≡ ts
    undo_all k none b = refl
    undo_all k (more t ts) b = rw (undo k t (and_left (each p k t) (each_all p k ts) b), undo_all k ts (and_right (each p k t) (each_all p k ts) b))

-- two tests that agree wherever a third holds
module _ (w p q : ℕ → Outer → Bool) (e : (k : ℕ) (x : Outer) → w k x ≡ true → p k x ≡ q k x) where
  agree-index : (k : ℕ) (z : Binding) → collect_index true w k z ≡ true → collect_index true p k z ≡ collect_index true q k z
  agree-index k inside h = refl
  agree-index k (outside j) h = e k (dangling j) h

  agree-leaf : (k : ℕ) (x : Leaf) → collect_leaf true w k x ≡ true → collect_leaf true p k x ≡ collect_leaf true q k x
  agree-leaf k (free n) h = e k (named n) h
  agree-leaf k (bound i) h = agree-index k (binding k i) h

  mutual
    unfolding collect

    pub each-agree : (k : ℕ) (f : Form) → each w k f ≡ true → each p k f ≡ each q k f
    each-agree k (leaf x) h = agree-leaf k x h
    each-agree k (node t o ds ks) h = each-agree_all (length ds + k) ks h
    each-agree k (noted t o ds ks) h =
        rw (each-agree_decls k ds (and_left (each_decls w k ds) (each_all w (length (names_of ds) + k) ks) h), each-agree_all (length (names_of ds) + k) ks (and_right (each_decls w k ds) (each_all w (length (names_of ds) + k) ks) h))

    each-agree_decls : (k : ℕ) (ds : Decls) → each_decls w k ds ≡ true → each_decls p k ds ≡ each_decls q k ds
    each-agree_decls k undeclared h = refl
    each-agree_decls k (bare n ds) h = each-agree_decls k ds h
    each-agree_decls k (typed n f ds) h = rw (each-agree k f (and_left (each w k f) (each_decls w k ds) h), each-agree_decls k ds (and_right (each w k f) (each_decls w k ds) h))

    each-agree_all : (k : ℕ) (fs : Forms) → each_all w k fs ≡ true → each_all p k fs ≡ each_all q k fs
    each-agree_all k none h = refl
    each-agree_all k (more f fs) h = rw (each-agree k f (and_left (each w k f) (each_all w k fs) h), each-agree_all k fs (and_right (each w k f) (each_all w k fs) h))

abbrev pub always : ℕ → Outer → Bool
always k x = true

always-index : (k : ℕ) (z : Binding) → collect_index true always k z ≡ true
always-index k inside = refl
always-index k (outside j) = refl

always-leaf : (k : ℕ) (x : Leaf) → collect_leaf true always k x ≡ true
always-leaf k (free n) = refl
always-leaf k (bound i) = always-index k (binding k i)

mutual
  unfolding collect

  pub each-always : (k : ℕ) (f : Form) → each always k f ≡ true
  each-always k (leaf x) = always-leaf k x
  each-always k (node t o ds ks) = each-always_all (length ds + k) ks
  each-always k (noted t o ds ks) = rw (each-always_decls k ds, each-always_all (length (names_of ds) + k) ks)

  each-always_decls : (k : ℕ) (ds : Decls) → each_decls always k ds ≡ true
  each-always_decls k undeclared = refl
  each-always_decls k (bare n ds) = each-always_decls k ds
  each-always_decls k (typed n f ds) = rw (each-always k f, each-always_decls k ds)

  each-always_all : (k : ℕ) (fs : Forms) → each_all always k fs ≡ true
  each-always_all k none = refl
  each-always_all k (more f fs) = rw (each-always k f, each-always_all k fs)

pub each_same : (p q : ℕ → Outer → Bool) → ((k : ℕ) (x : Outer) → p k x ≡ q k x) → (k : ℕ) (f : Form) → each p k f ≡ each q k f
each_same p q e k f = each-agree always p q (λ k x h. e k x) k f (each-always k f)

pub each-all : (w p : ℕ → Outer → Bool) → ((k : ℕ) (x : Outer) → w k x ≡ true → p k x ≡ true) → (k : ℕ) (f : Form) → each w k f ≡ true → each p k f ≡ true
each-all w p e k f h = each-agree w p always e k f h ∙ each-always k f

-- two actions that agree wherever a test holds
module _ (p : ℕ → Outer → Bool) (a b : ℕ → Outer → Form) (e : (k : ℕ) (x : Outer) → p k x ≡ true → a k x ≡ b k x) where
  same_index : (k i : ℕ) (z : Binding) → collect_index true p k z ≡ true → walk_index a k i z ≡ walk_index b k i z
  same_index k i inside h = refl
  same_index k i (outside j) h = e k (dangling j) h

  same-leaf : (k : ℕ) (x : Leaf) → collect_leaf true p k x ≡ true → walk_leaf a k x ≡ walk_leaf b k x
  same-leaf k (free n) h = e k (named n) h
  same-leaf k (bound i) h = same_index k i (binding k i) h

  mutual
    unfolding collect walk

    pub walk-agree : (k : ℕ) (f : Form) → each p k f ≡ true → walk a k f ≡ walk b k f
    walk-agree k (leaf x) h = same-leaf k x h
    walk-agree k (node t o ds ks) h = ap (λ z. node t o ds z) (walk-agree_all (length ds + k) ks h)
    walk-agree k (noted t o ds ks) h =
        rw (walk-agree_decls k ds (and_left (each_decls p k ds) (each_all p (length (names_of ds) + k) ks) h), walk-agree_all (length (names_of ds) + k) ks (and_right (each_decls p k ds) (each_all p (length (names_of ds) + k) ks) h))

    walk-agree_decls : (k : ℕ) (ds : Decls) → each_decls p k ds ≡ true → walk_decls a k ds ≡ walk_decls b k ds
    walk-agree_decls k undeclared h = refl
    walk-agree_decls k (bare n ds) h = ap (λ z. bare n z) (walk-agree_decls k ds h)
    walk-agree_decls k (typed n f ds) h = rw (walk-agree k f (and_left (each p k f) (each_decls p k ds) h), walk-agree_decls k ds (and_right (each p k f) (each_decls p k ds) h))

    walk-agree_all : (k : ℕ) (fs : Forms) → each_all p k fs ≡ true → walk_all a k fs ≡ walk_all b k fs
    walk-agree_all k none h = refl
    walk-agree_all k (more f fs) h = rw (walk-agree k f (and_left (each p k f) (each_all p k fs) h), walk-agree_all k fs (and_right (each p k f) (each_all p k fs) h))
