-- When declarations join the body's own quantifier, and what its annotations become. Assumes nothing.
use mathlib.Core.Path.{◌≡◌, refl, ap, sym, ◌∙◌}
use mathlib.Core.Bool.{Bool, true, false, not, ◌&&◌, ◌||◌, and-true}
use mathlib.Core.List.{List, [], ◌∷◌, ◌++◌, map}
use mathlib.Core.Option.{Option, none as absent, some}
use Prim.Native.Nat.{ℕ, zero, suc, ◌+◌, ◌-◌, ◌≤◌, ◌<◌}
use native.Mathlib.Nat.{zero-add, add-zero, suc-add, add_assoc}
use native.Mathlib.Omega.{arith}
use borrow.Author.Tests.{eq-eqb, ne_eqb, eqb-true, eqb-false, le-leb, leb-true, leb-false}
use lib.Dec.{eqb, leb}
use lib.ListN.{length, length-map}
use Rattle.tree.specs.Form.{free, bound, Form, leaf, node, noted, Decls, undeclared, bare, typed, names_of, Forms, none, more, pick}
use Rattle.form.proofs.DecodeLaws.{clash}
use Rattle.rules.specs.Walk.{Binding, inside, outside, binding, Outer, named, dangling, walk_index, walk, walk_decls, walk_all, up, lift, put, subst, collect_index, collect, each}
use Rattle.rules.specs.Shift.{reaches, fall, lower}
use Rattle.rules.specs.Fill.{Decl, unnoted, name_of, listed, unlisted, is_noted, any_noted, quantifier, other, quantified, around, quantify}
use Rattle.rules.specs.Prune.{is_not}
use Rattle.rules.specs.Partial.{on_note, clear, put_round}
use Rattle.rules.proofs.WalkLaws.{each_all, each_decls, walk-names, binding-add, fuse-level, subst-subst, self, and_left, and_right, always, each-agree, each_same, each-all, each-always, walk-agree}
use Rattle.rules.proofs.TreeLaws.{after, walk-self, lift-zero, each-walk}

-- declarations as a list and as part of a tree
pub listed-unlisted : (ds : List Decl) → listed (unlisted ds) ≡ ds
listed-unlisted [] = refl
listed-unlisted ((n, absent) ∷ ds) = ap (λ z. (n, absent) ∷ z) (listed-unlisted ds)
listed-unlisted ((n, some f) ∷ ds) = ap (λ z. (n, some f) ∷ z) (listed-unlisted ds)

or-none : (a b : Bool) → (a || b) ≡ false → (a ≡ false) × (b ≡ false)
or-none true b e = absurd (clash cc)
or-none false b e = (refl, e)

none_left : (n : ℕ) (x : Option Form) → is_noted x ≡ false → ◌≡◌ {A = Decl} (unnoted n) (n, x)
none_left n absent e = refl
none_left n (some f) e = absurd (clash cc)

pub names-plain : (ns : List ℕ) → map name_of (map unnoted ns) ≡ ns
names-plain [] = refl
names-plain (n ∷ ns) = ap (λ z. n ∷ z) (names-plain ns)

pub bare-decls : (ds : List Decl) → any_noted ds ≡ false → map unnoted (map name_of ds) ≡ ds
bare-decls [] e = refl
bare-decls (d ∷ ds) e = let (a, b) = or-none (is_noted d.1) (any_noted ds) e in rw (bare-decls ds b, none_left d.0 d.1 a)

module _ (t : ℕ) (which : (eqb t 851 || eqb t 852) ≡ true) where
  up-which : (a b : Bool) → eqb t 851 ≡ a → eqb t 852 ≡ b → (a || b) ≡ true → (eqb (t + 10) 861 || eqb (t + 10) 862) ≡ true
  up-which true b x y z = rw (eqb-true t 851 x)
  up-which false true x y z = rw (eqb-true t 852 y)
  up-which false false x y z = absurd (clash cc)

  -- a quantifier's declarations and body
  pub quantified-around : (ds : List Decl) (b : Form) → quantified (around t ds b) ≡ quantifier t ds b
  unfolding quantified
  quantified-around ds b = go (any_noted ds) refl
    where
      go : (z : Bool) → any_noted ds ≡ z → quantified (pick z (noted (t + 10) (length ds ∷ []) (unlisted ds) (more b none)) (node t (length ds ∷ []) (map name_of ds) (more b none))) ≡ quantifier t ds b
      go true e =
          let m : t + 10 - 10 ≡ t = omega arith in
          rw (up-which (eqb t 851) (eqb t 852) refl refl which, listed-unlisted ds, m)
      go false e = rw (which, bare-decls ds e)

  -- declarations in front of a quantifier with the same operator whose annotations mention none of them
  pub round-joined : (n : Decl) (ns ds : List Decl) (b g : Form) → quantified g ≡ quantifier t ds b → clear (suc (length ns)) ds ≡ true
      → put_round t (n ∷ ns) g ≡ quantify t ((n ∷ ns) ++ map (on_note (lower (suc (length ns)))) ds) b
  unfolding put_round
  round-joined n ns ds b g q c = rw (q, eq-eqb t t refl, c)

  -- whose annotations mention one of them
  pub round-unclear : (n : Decl) (ns ds : List Decl) (b g : Form) → quantified g ≡ quantifier t ds b → clear (suc (length ns)) ds ≡ false → put_round t (n ∷ ns) g ≡ quantify t (n ∷ ns) g
  unfolding put_round
  round-unclear n ns ds b g q c = rw (q, eq-eqb t t refl, c)

-- in front of what is not quantified
pub round-other : (t : ℕ) (n : Decl) (ns : List Decl) (g : Form) → quantified g ≡ other → put_round t (n ∷ ns) g ≡ quantify t (n ∷ ns) g
unfolding put_round
round-other t n ns g q = rw q

-- what is lifted mentions none of the declarations that it was lifted over, and can be lowered again
up-reaches : (j k : ℕ) (x : Outer) → each (reaches j) k (up j k x) ≡ true
unfolding collect
up-reaches j k (named m) = refl
up-reaches j k (dangling i) = rw binding-add (le-leb j (i + j) (omega arith))

pub lift-reaches : (j : ℕ) (f : Form) → each (reaches j) 0 (lift j f) ≡ true
lift-reaches j f = each-walk (reaches j) (up j) 0 f ∙ each-all always (after (reaches j) (up j)) (λ k x h. up-reaches j k x) 0 f (each-always 0 f)

fall-up : (j k : ℕ) (x : Outer) → walk (put (fall j)) k (up j k x) ≡ self k x
unfolding walk
fall-up j k (named m) = refl
fall-up j k (dangling i) =
    let e : i + j - j ≡ i = omega arith in
    let z : 0 + (i + k) ≡ k + i = omega arith in
    rw (binding-add, e, z)

pub lower-lift : (j : ℕ) (f : Form) → lower j (lift j f) ≡ f
lower-lift j f = fuse-level (put (fall j)) (up j) self (fall-up j) 0 f ∙ walk-self 0 f

pub notes-lower-lift : (j : ℕ) (ds : List Decl) → map (on_note (lower j)) (map (on_note (lift j)) ds) ≡ ds
notes-lower-lift j [] = refl
notes-lower-lift j ((n, absent) ∷ ds) = ap (λ z. (n, absent) ∷ z) (notes-lower-lift j ds)
notes-lower-lift j ((n, some f) ∷ ds) = rw (notes-lower-lift j ds, lower-lift j f)

pub clear-lift : (j : ℕ) (ds : List Decl) → clear j (map (on_note (lift j)) ds) ≡ true
clear-lift j [] = refl
clear-lift j ((n, absent) ∷ ds) = clear-lift j ds
clear-lift j ((n, some f) ∷ ds) = rw (lift-reaches j f) (clear-lift j ds)

-- a front, and declarations that stay after it: they join, and their annotations are as they were
pub round-stays : (t : ℕ) → (eqb t 851 || eqb t 852) ≡ true → (ns : List Decl) (s : Decl) (ss : List Decl) (b : Form) → put_round t ns (quantify t (map (on_note (lift (length ns))) (s ∷ ss)) b) ≡ quantify t (ns ++ (s ∷ ss)) b
unfolding put_round
round-stays t which [] s ss b = ap (λ z. quantify t z b) (lift-none (s ∷ ss))
  where
    lift-none : (ds : List Decl) → map (on_note (lift 0)) ds ≡ ds
    lift-none [] = refl
    lift-none ((n, absent) ∷ ds) = ap (λ z. (n, absent) ∷ z) (lift-none ds)
    lift-none ((n, some f) ∷ ds) = rw (lift-none ds, lift-zero f)
round-stays t which (n ∷ ns) s ss b =
    let j = suc (length ns) in
    let ds = map (on_note (lift j)) (s ∷ ss) in
    round-joined t which n ns ds b (around t ds b) (quantified-around t which ds b) (clear-lift j (s ∷ ss))
    ∙ ap (λ z. quantify t ((n ∷ ns) ++ z) b) (notes-lower-lift j (s ∷ ss))

-- whether the indices of a form reach n does not depend on the depth at which it comes to stand
module _ (n a : ℕ) where
  inside-deeper : (k i : ℕ) → binding k i ≡ inside → binding (k + a) i ≡ inside
  inside-deeper zero i e = absurd (clash cc)
  inside-deeper (suc k) zero e = rw suc-add
  inside-deeper (suc k) (suc i) e = rw suc-add (inside-deeper k i e)

  deep-index : (k i : ℕ) (z : Binding) → binding k i ≡ z → each (reaches n) (k + a) (walk_index (up a) k i z) ≡ collect_index true (reaches n) k z
  unfolding collect
  deep-index k i inside q = rw (inside-deeper k i q)
  deep-index k i (outside j) q = let e : k + (j + a) ≡ k + a + j = omega arith in rw (e, binding-add)

  mutual
    unfolding walk collect

    deep-reaches : (k : ℕ) (f : Form) → each (reaches n) (k + a) (walk (up a) k f) ≡ each (reaches n) k f
    deep-reaches k (leaf (free m)) = refl
    deep-reaches k (leaf (bound i)) = deep-index k i (binding k i) refl
    deep-reaches k (node t o ds ks) = rw (← add_assoc) (deep-reaches_all (length ds + k) ks)
    deep-reaches k (noted t o ds ks) = rw (walk-names (up a) k ds, deep-reaches_decls k ds, ← add_assoc, deep-reaches_all (length (names_of ds) + k) ks)

    deep-reaches_decls : (k : ℕ) (ds : Decls) → each_decls (reaches n) (k + a) (walk_decls (up a) k ds) ≡ each_decls (reaches n) k ds
    deep-reaches_decls k undeclared = refl
    deep-reaches_decls k (bare m ds) = deep-reaches_decls k ds
    deep-reaches_decls k (typed m f ds) = rw (deep-reaches k f, deep-reaches_decls k ds)

    deep-reaches_all : (k : ℕ) (fs : Forms) → each_all (reaches n) (k + a) (walk_all (up a) k fs) ≡ each_all (reaches n) k fs
    deep-reaches_all k none = refl
    deep-reaches_all k (more f fs) = rw (deep-reaches k f, deep-reaches_all k fs)

reaches-deep : (n k : ℕ) (f : Form) → each (reaches n) k (lift k f) ≡ each (reaches n) 0 f
reaches-deep n k f = rw zero-add at (deep-reaches n k 0 f)

-- a substitution in a quantifier: its annotations stand outside its declarations
module _ (σ : Outer → Form) where
  pub notes-names : (ds : List Decl) → map name_of (map (on_note (subst σ)) ds) ≡ map name_of ds
  notes-names [] = refl
  notes-names (d ∷ ds) = ap (λ z. d.0 ∷ z) (notes-names ds)

  pub notes-any : (ds : List Decl) → any_noted (map (on_note (subst σ)) ds) ≡ any_noted ds
  notes-any [] = refl
  notes-any ((n, absent) ∷ ds) = notes-any ds
  notes-any ((n, some f) ∷ ds) = refl

  pub notes-walk : (ds : List Decl) → walk_decls (put σ) 0 (unlisted ds) ≡ unlisted (map (on_note (subst σ)) ds)
  unfolding walk
  notes-walk [] = refl
  notes-walk ((n, absent) ∷ ds) = ap (λ z. bare n z) (notes-walk ds)
  notes-walk ((n, some f) ∷ ds) = rw (notes-walk ds)

  names-count : (ds : List Decl) → length (names_of (unlisted ds)) ≡ length ds
  names-count [] = refl
  names-count ((n, absent) ∷ ds) = ap suc (names-count ds)
  names-count ((n, some f) ∷ ds) = ap suc (names-count ds)

  pub subst-around : (t : ℕ) (ds : List Decl) (b : Form) → subst σ (around t ds b) ≡ around t (map (on_note (subst σ)) ds) (walk (put σ) (length ds) b)
  unfolding walk
  subst-around t ds b = rw (notes-any ds, length-map ds (on_note (subst σ)), notes-names ds) (go (any_noted ds))
    where
      go : (z : Bool) → subst σ (pick z (noted (t + 10) (length ds ∷ []) (unlisted ds) (more b none)) (node t (length ds ∷ []) (map name_of ds) (more b none)))
          ≡ pick z (noted (t + 10) (length ds ∷ []) (unlisted (map (on_note (subst σ)) ds)) (more (walk (put σ) (length ds) b) none)) (node t (length ds ∷ []) (map name_of ds) (more (walk (put σ) (length ds) b) none))
      go true = rw (notes-walk ds, names-count ds, add-zero)
      go false = rw (length-map ds name_of, add-zero)

  -- an outer identifier becomes what mentions none of the j declarations in front
  abbrev pub fit : ℕ → Outer → Bool
  fit j x = each (reaches j) 0 (σ x)

  fit-deep : (j k : ℕ) (x : Outer) → each (reaches j) k (put σ k x) ≡ fit j x
  fit-deep j k x = reaches-deep j k (σ x)

  -- so the annotations mention none of them exactly if what stands for their outer identifiers does not
  pub clear-fit : (j : ℕ) (ds : List Decl) → clear j (map (on_note (subst σ)) ds) ≡ each_decls (λ k x. fit j x) 0 (unlisted ds)
  unfolding collect
  clear-fit j [] = refl
  clear-fit j ((n, absent) ∷ ds) = clear-fit j ds
  clear-fit j ((n, some f) ∷ ds) =
      rw (clear-fit j ds, each-walk (reaches j) (put σ) 0 f, each_same (after (reaches j) (put σ)) (λ k x. fit j x) (fit-deep j) 0 f)

  -- and lowered they are the annotations of another substitution, which agrees with the first where that fits
  lower-note : (τ : Outer → Form) (j : ℕ) → ((x : Outer) → fit j x ≡ true → lower j (σ x) ≡ τ x) → (f : Form) → each (λ k x. fit j x) 0 f ≡ true → lower j (subst σ f) ≡ subst τ f
  lower-note τ j e f h = subst-subst σ (fall j) f ∙ walk-agree (λ k x. fit j x) (put (λ x. subst (fall j) (σ x))) (put τ) (λ k x q. ap (λ z. lift k z) (e x q)) 0 f h

  pub lower-notes : (τ : Outer → Form) (j : ℕ) → ((x : Outer) → fit j x ≡ true → lower j (σ x) ≡ τ x) → (ds : List Decl) → each_decls (λ k x. fit j x) 0 (unlisted ds) ≡ true
      → map (on_note (lower j)) (map (on_note (subst σ)) ds) ≡ map (on_note (subst τ)) ds
  unfolding collect
  lower-notes τ j e [] h = refl
  lower-notes τ j e ((n, absent) ∷ ds) h = ap (λ z. (n, absent) ∷ z) (lower-notes τ j e ds h)
  lower-notes τ j e ((n, some f) ∷ ds) h =
      let a = and_left (each (λ k x. fit j x) 0 f) (each_decls (λ k x. fit j x) 0 (unlisted ds)) h in
      let b = and_right (each (λ k x. fit j x) 0 f) (each_decls (λ k x. fit j x) 0 (unlisted ds)) h in
      rw (lower-notes τ j e ds b, lower-note τ j e f a)

-- A test of outer identifiers that holds of all names, and of all indices from n on, holds in a form exactly if of the first n indices those of
-- which it does not hold are unused.
abbrev pub on_index : (ℕ → Bool) → ℕ → Outer → Bool
on_index p k (named m) = true
on_index p k (dangling i) = p i

abbrev unused_in : (ℕ → Bool) → ℕ → Form → Bool
unused_in p zero f = true
unused_in p (suc i) f = (p i || each (is_not i) 0 f) && unused_in p i f

module _ (p : ℕ → Bool) (f : Form) where
  unused-index : (i : ℕ) → each (on_index p) 0 f ≡ true → (b : Bool) → p i ≡ b → (b || each (is_not i) 0 f) ≡ true
  unused-index i h true q = refl
  unused-index i h false q = each-all (on_index p) (is_not i) differs 0 f h
    where
      differs : (k : ℕ) (x : Outer) → on_index p k x ≡ true → is_not i k x ≡ true
      differs k (named m) e = refl
      differs k (dangling v) e = rw (ne_eqb i v (λ z. let y : p i ≡ true = rw z e in clash cc))

  unused-all : (m : ℕ) → each (on_index p) 0 f ≡ true → unused_in p m f ≡ true
  unused-all zero h = refl
  unused-all (suc i) h = rw (unused-all i h, unused-index i h (p i) refl)

  -- all of the first m tests at once
  abbrev first_of : ℕ → ℕ → Outer → Bool
  first_of zero k x = true
  first_of (suc i) k x = (p i || is_not i k x) && first_of i k x

  one_holds : (i : ℕ) (b : Bool) → p i ≡ b → (b || each (is_not i) 0 f) ≡ true → each (λ k x. p i || is_not i k x) 0 f ≡ true
  one_holds i true q h = each-all always (λ k x. p i || is_not i k x) (λ k x e. rw q) 0 f (each-always 0 f)
  one_holds i false q h = each-all (is_not i) (λ k x. p i || is_not i k x) (λ k x e. rw (q, e)) 0 f h

  first-hold : (m : ℕ) → unused_in p m f ≡ true → each (first_of m) 0 f ≡ true
  first-hold zero h = each-always 0 f
  first-hold (suc i) h =
      let a = one_holds i (p i) refl (and_left (p i || each (is_not i) 0 f) (unused_in p i f) h) in
      let b = first-hold i (and_right (p i || each (is_not i) 0 f) (unused_in p i f) h) in
      each-agree (λ k x. p i || is_not i k x) (first_of (suc i)) (first_of i) (λ k x e. rw e) 0 f a ∙ b

  first-low : (m v : ℕ) (k : ℕ) → v < m → first_of m k (dangling v) ≡ true → p v ≡ true
  first-low zero v k l h = absurd (omega arith)
  first-low (suc i) v k l h = go (eqb i v) refl (λ m. first-low i v k m (and_right (p i || not (eqb i v)) (first_of i k (dangling v)) h))
    where
      or-false : (b : Bool) → (b || not true) ≡ true → b ≡ true
      or-false true e = refl
      or-false false e = absurd (clash cc)

      go : (b : Bool) → eqb i v ≡ b → (v < i → p v ≡ true) → p v ≡ true
      go true q later =
          let e = eqb-true i v q in
          let a : (p i || not (eqb i v)) ≡ true = and_left (p i || not (eqb i v)) (first_of i k (dangling v)) h in
          rw (← e) (or-false (p i) (rw q at a))
      go false q later = let e = eqb-false i v q in later (omega arith)

  module _ (n : ℕ) (high : (i : ℕ) → n ≤ i → p i ≡ true) where
    first-enough : (k : ℕ) (x : Outer) → first_of n k x ≡ true → on_index p k x ≡ true
    first-enough k (named m) h = refl
    first-enough k (dangling v) h = go (leb n v) refl
      where
        go : (b : Bool) → leb n v ≡ b → p v ≡ true
        go true q = high v (leb-true n v q)
        go false q = first-low n v k (leb-false n v q) h

    pub index-unused : each (on_index p) 0 f ≡ unused_in p n f
    index-unused = go (each (on_index p) 0 f) refl (unused_in p n f) refl
      where
        go : (b : Bool) → each (on_index p) 0 f ≡ b → (c : Bool) → unused_in p n f ≡ c → b ≡ c
        go true q c r = sym (unused-all n q) ∙ r
        go false q true r = sym q ∙ each-all (first_of n) (on_index p) first-enough 0 f (first-hold n r)
        go false q false r = refl

-- the same of the annotations of declarations
abbrev pub unused_notes : (ℕ → Bool) → ℕ → List Decl → Bool
unused_notes p zero ds = true
unused_notes p (suc i) ds = (p i || each_decls (is_not i) 0 (unlisted ds)) && unused_notes p i ds

module _ (p : ℕ → Bool) (ds : List Decl) where
  abbrev carrier : Form
  carrier = noted 0 [] (unlisted ds) none

  as-form : (q : ℕ → Outer → Bool) → each q 0 carrier ≡ each_decls q 0 (unlisted ds)
  unfolding collect
  as-form q = and-true (each_decls q 0 (unlisted ds))

  pub notes-same : (a b : ℕ → Outer → Bool) → ((k : ℕ) (x : Outer) → a k x ≡ b k x) → each_decls a 0 (unlisted ds) ≡ each_decls b 0 (unlisted ds)
  notes-same a b e = sym (as-form a) ∙ (each_same a b e 0 carrier ∙ as-form b)

  unused-same : (n : ℕ) → unused_in p n carrier ≡ unused_notes p n ds
  unused-same zero = refl
  unused-same (suc i) = rw (as-form (is_not i), unused-same i)

  pub notes-unused : (n : ℕ) → ((i : ℕ) → n ≤ i → p i ≡ true) → each_decls (on_index p) 0 (unlisted ds) ≡ unused_notes p n ds
  notes-unused n high = sym (as-form (on_index p)) ∙ (index-unused p carrier n high ∙ unused-same n)
