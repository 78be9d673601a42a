-- Quantifiers by one question: is there a choice from the ranges? Both operators are this question, as it stands (852) or turned round (851),
-- and putting declarations round a form asks it of them all. Assumes nothing.
use mathlib.Core.Path.{◌≡◌, refl, ap, ◌∙◌, sym, fun_ext}
use mathlib.Core.List.{List, [], ◌∷◌, ◌++◌, map, flat_map, map-append}
use mathlib.Core.Bool.{Bool, true, false, not, ◌&&◌, ◌||◌, or_assoc, or-false, and-false, and-true, and_assoc, not-not}
use Prim.Native.Nat.{ℕ, ◌+◌, ◌-◌}
use mathlib.Core.Option.{Option, none as absent, some as given}
use native.Mathlib.Nat.{zero-add}
use native.Mathlib.Omega.{arith}
use borrow.Author.Tests.{eqb-true, not-false}
use lib.Dec.{eqb}
use lib.IntN.{ℤ}
use lib.ListN.{length}
use Rattle.tree.specs.Form.{Form, leaf, node, noted, Decls, undeclared, bare, typed, names_of, none, more, pick}
use Rattle.form.proofs.DecodeLaws.{clash}
use Rattle.rules.specs.Fill.{Decl, name_of, unnoted, listed, declare, unlisted, any_noted, Quantified, quantifier, other, quantified, quantify}
use Rattle.rules.specs.Partial.{on_note, clear, join_with, put_round}
use Rattle.rules.specs.Shift.{lower}
use Rattle.rules.proofs.WalkLaws.{and_left}
use Rattle.rules.proofs.JoinLaws.{names-plain}
use Rattle.reading.specs.Reading.{Reading, truth, same, child, value_of, every, some, Env, cons, over, value}
use Rattle.reading.specs.Premise.{has, push}
use Rattle.reading.proofs.Same.{truth-bit, same-equal}

-- is there a value in the list; are there values from the ranges
abbrev pub ex_in : List ℤ → (ℤ → Bool) → Bool
ex_in [] g = false
ex_in (v ∷ vs) g = g v || ex_in vs g

abbrev pub ex_over : (ℕ → List ℤ) → List ℕ → Env → (Env → Bool) → Bool
ex_over r [] ρ g = g ρ
ex_over r (d ∷ ds) ρ g = ex_in (r d) (λ v. ex_over r ds (cons v ρ) g)

-- `some` and `every` over all choices ask that
some-append : (a b : List Bool) → some (a ++ b) ≡ (some a || some b)
some-append [] b = refl
some-append (v ∷ a) b = rw (some-append a b, or_assoc)

some-flat : (h : ℤ → List Bool) (k : ℤ → Bool) → ((v : ℤ) → some (h v) ≡ k v) → (vs : List ℤ) → some (flat_map h vs) ≡ ex_in vs k
unfolding flat_map
some-flat h k e [] = refl
some-flat h k e (v ∷ vs) = rw (some-append, e v, some-flat h k e vs)

some-over : (r : ℕ → List ℤ) (g : Env → Bool) (ds : List ℕ) (ρ : Env) → some (over r ds ρ g) ≡ ex_over r ds ρ g
some-over r g [] ρ = or-false (g ρ)
some-over r g (d ∷ ds) ρ = some-flat (λ v. over r ds (cons v ρ) g) (λ v. ex_over r ds (cons v ρ) g) (λ v. some-over r g ds (cons v ρ)) (r d)

every_append : (a b : List Bool) → every (a ++ b) ≡ (every a && every b)
every_append [] b = refl
every_append (v ∷ a) b = rw (every_append a b, and_assoc)

not-or : (a b : Bool) → (not a && not b) ≡ not (a || b)
not-or true b = refl
not-or false b = refl

every-flat : (h : ℤ → List Bool) (k : ℤ → Bool) → ((v : ℤ) → every (h v) ≡ not (k v)) → (vs : List ℤ) → every (flat_map h vs) ≡ not (ex_in vs k)
unfolding flat_map
every-flat h k e [] = refl
every-flat h k e (v ∷ vs) = rw (every_append, e v, every-flat h k e vs) (not-or (k v) (ex_in vs k))

pub every-over : (r : ℕ → List ℤ) (g : Env → Bool) (ds : List ℕ) (ρ : Env) → every (over r ds ρ g) ≡ not (ex_over r ds ρ (λ η. not (g η)))
every-over r g [] ρ = and-true (g ρ) ∙ sym (not-not (g ρ))
every-over r g (d ∷ ds) ρ =
    every-flat (λ v. over r ds (cons v ρ) g) (λ v. ex_over r ds (cons v ρ) (λ η. not (g η))) (λ v. every-over r g ds (cons v ρ)) (r d)

-- what is computed from each choice may be computed under it
map-flat : {A B : Type 0} (f : A → B) (h : ℤ → List A) (k : ℤ → List B) → ((v : ℤ) → map f (h v) ≡ k v) → (vs : List ℤ)
    → map f (flat_map h vs) ≡ flat_map k vs
unfolding flat_map
map-flat f h k e [] = refl
map-flat f h k e (v ∷ vs) = map-append f (h v) (flat_map h vs) ∙ rw (e v, map-flat f h k e vs)

map-over : {A B : Type 0} (f : A → B) (r : ℕ → List ℤ) (g : Env → A) (ds : List ℕ) (ρ : Env) → map f (over r ds ρ g) ≡ over r ds ρ (λ η. f (g η))
map-over f r g [] ρ = refl
map-over f r g (d ∷ ds) ρ =
    map-flat f (λ v. over r ds (cons v ρ) g) (λ v. over r ds (cons v ρ) (λ η. f (g η))) (λ v. map-over f r g ds (cons v ρ)) (r d)

-- congruence, and a test that does not hang on the choice
ex_in-same : (g h : ℤ → Bool) (vs : List ℤ) → ((v : ℤ) → g v ≡ h v) → ex_in vs g ≡ ex_in vs h
ex_in-same g h vs e = ap (λ k. ex_in vs k) (fun_ext e)

pub ex_over-same : (r : ℕ → List ℤ) (ds : List ℕ) (ρ η : Env) (g h : Env → Bool) (c : List ℤ)
    → ((b : List ℤ) → length b ≡ length ds + length c → g (push b ρ) ≡ h (push b η)) → ex_over r ds (push c ρ) g ≡ ex_over r ds (push c η) h
ex_over-same r [] ρ η g h c e = e c (sym (zero-add (length c)))
ex_over-same r (d ∷ ds) ρ η g h c e =
    ap (λ k. ex_in (r d) k) (fun_ext (λ v. ex_over-same r ds ρ η g h (v ∷ c) (λ b q. e b (omega arith))))

ex_in-false : (vs : List ℤ) → ex_in vs (λ v. false) ≡ false
ex_in-false [] = refl
ex_in-false (v ∷ vs) = ex_in-false vs

ex_over-false : (r : ℕ → List ℤ) (ds : List ℕ) (ρ : Env) → ex_over r ds ρ (λ θ. false) ≡ false
ex_over-false r [] ρ = refl
ex_over-false r (d ∷ ds) ρ =
    ex_in-same (λ v. ex_over r ds (cons v ρ) (λ θ. false)) (λ v. false) (r d) (λ v. ex_over-false r ds (cons v ρ)) ∙ ex_in-false (r d)

ex_over-and : (r : ℕ → List ℤ) (ds : List ℕ) (ρ : Env) (b : Bool) (h : Env → Bool) → ex_over r ds ρ (λ θ. b && h θ) ≡ (b && ex_over r ds ρ h)
ex_over-and r ds ρ true h = refl
ex_over-and r ds ρ false h = ex_over-false r ds ρ

pub ex_over-append : (r : ℕ → List ℤ) (ds es : List ℕ) (ρ : Env) (g : Env → Bool) → ex_over r (ds ++ es) ρ g ≡ ex_over r ds ρ (λ η. ex_over r es η g)
ex_over-append r [] es ρ g = refl
ex_over-append r (d ∷ ds) es ρ g = ap (λ k. ex_in (r d) k) (fun_ext (λ v. ex_over-append r ds es (cons v ρ) g))

-- a value tied to e: the range has it or not
absorb : (x b : Bool) → (x || (b && x)) ≡ x
absorb true b = refl
absorb false b = rw (and-false b)

point-cons : (q : ℤ → Bool) (v e : ℤ) (b t : Bool) → same v e ≡ t → ((t && q v) || (b && q e)) ≡ ((t || b) && q e)
point-cons q v e b true a = rw (same-equal v e a) (absorb (q e) b)
point-cons q v e b false a = refl

ex_in-point : (q : ℤ → Bool) (e : ℤ) (vs : List ℤ) → ex_in vs (λ v. same v e && q v) ≡ (has e vs && q e)
ex_in-point q e [] = refl
ex_in-point q e (v ∷ vs) = rw (ex_in-point q e vs) (point-cons q v e (has e vs) (same v e) refl)

-- the core: the first of the declarations is tied to e
pub ex_over-point : (r : ℕ → List ℤ) (d : ℕ) (ds : List ℕ) (ρ : Env) (e : ℤ) (g h : Env → Bool)
    → ((v : ℤ) (c : List ℤ) → length c ≡ length ds → g (push c (cons v ρ)) ≡ (same v e && h (push c (cons v ρ)))) → has e (r d) ≡ true
    → ex_over r (d ∷ ds) ρ g ≡ ex_over r ds (cons e ρ) h
ex_over-point r d ds ρ e g h s m =
    ex_in-same (λ v. ex_over r ds (cons v ρ) g) (λ v. same v e && ex_over r ds (cons v ρ) h) (r d)
    (λ v. ex_over-same r ds (cons v ρ) (cons v ρ) g (λ θ. same v e && h θ) [] (λ c q. s v c (omega arith)) ∙ ex_over-and r ds (cons v ρ) (same v e) h)
    ∙ ex_in-point (λ v. ex_over r ds (cons v ρ) h) e (r d) ∙ rw m

-- congruence, where a test passes at every choice
or-none : (a b : Bool) → (a || b) ≡ false → (a ≡ false) × (b ≡ false)
or-none true b e = (cc, cc)
or-none false b e = (refl, e)

ex_in-on : (n a b : ℤ → Bool) (vs : List ℤ) → ex_in vs n ≡ false → ((v : ℤ) → n v ≡ false → a v ≡ b v) → ex_in vs a ≡ ex_in vs b
ex_in-on n a b [] e h = refl
ex_in-on n a b (v ∷ vs) e h = rw (h v (or-none (n v) (ex_in vs n) e).0, ex_in-on n a b vs (or-none (n v) (ex_in vs n) e).1 h)

pub ex_over-on : (r : ℕ → List ℤ) (ds : List ℕ) (ρ : Env) (p g h : Env → Bool) → ex_over r ds ρ (λ η. not (p η)) ≡ false
    → ((η : Env) → p η ≡ true → g η ≡ h η) → ex_over r ds ρ g ≡ ex_over r ds ρ h
ex_over-on r [] ρ p g h e k = k ρ (not-false (p ρ) e)
ex_over-on r (d ∷ ds) ρ p g h e k =
    ex_in-on (λ v. ex_over r ds (cons v ρ) (λ η. not (p η))) (λ v. ex_over r ds (cons v ρ) g) (λ v. ex_over r ds (cons v ρ) h) (r d) e
    (λ v q. ex_over-on r ds (cons v ρ) p g h q k)

-- 852 asks for one choice, 851 for none that fails: as it stands, and turned round
abbrev pub turn : Bool → Bool → Bool
turn true x = x
turn false x = not x

pub turn_twice : (b x : Bool) → turn b (turn b x) ≡ x
turn_twice true x = refl
turn_twice false x = not-not x

abbrev pub tag_of : Bool → ℕ
tag_of true = 852
tag_of false = 851

-- what a quantifier asks of its body
abbrev pub asks : Bool → Reading → Env → List ℕ → (Env → Bool) → Bool
asks b R ρ ns g = turn b (ex_over R.range ns ρ (λ θ. turn b (g θ)))

pub node-truth : (b : Bool) (R : Reading) (ρ : Env) (o ns : List ℕ) (f : Form)
    → truth (value R ρ (node (tag_of b) o ns (more f none))) ≡ asks b R ρ ns (λ θ. truth (value R θ f))
unfolding value value_of
node-truth true R ρ o ns f =
    truth-bit _
    ∙ ap some (map-over (λ vs. truth (child 0 vs)) R.range (λ η. value R η f ∷ []) ns ρ) ∙ some-over R.range (λ η. truth (value R η f)) ns ρ
node-truth false R ρ o ns f =
    truth-bit _
    ∙ ap every (map-over (λ vs. truth (child 0 vs)) R.range (λ η. value R η f ∷ []) ns ρ) ∙ every-over R.range (λ η. truth (value R η f)) ns ρ

pub noted-truth : (b : Bool) (R : Reading) (ρ : Env) (o : List ℕ) (ds : Decls) (f : Form)
    → truth (value R ρ (noted (tag_of b + 10) o ds (more f none))) ≡ asks b R ρ (names_of ds) (λ θ. truth (value R θ f))
unfolding value value_of
noted-truth true R ρ o ds f =
    truth-bit _
    ∙ ap some (map-over (λ vs. truth (child 0 vs)) R.range (λ η. value R η f ∷ []) (names_of ds) ρ) ∙ some-over R.range (λ η. truth (value R η f)) (names_of ds) ρ
noted-truth false R ρ o ds f =
    truth-bit _
    ∙ ap every (map-over (λ vs. truth (child 0 vs)) R.range (λ η. value R η f ∷ []) (names_of ds) ρ) ∙ every-over R.range (λ η. truth (value R η f)) (names_of ds) ρ

-- names, whatever the annotations
names-declare : (n : ℕ) (x : Option Form) (ds : Decls) → names_of (declare n x ds) ≡ n ∷ names_of ds
names-declare n absent ds = refl
names-declare n (given f) ds = refl

names-unlisted : (ds : List Decl) → names_of (unlisted ds) ≡ map name_of ds
names-unlisted [] = refl
names-unlisted (d ∷ ds) = names-declare d.0 d.1 (unlisted ds) ∙ ap (λ z. d.0 ∷ z) (names-unlisted ds)

names-listed : (ds : Decls) → map name_of (listed ds) ≡ names_of ds
names-listed undeclared = refl
names-listed (bare n ds) = ap (λ z. n ∷ z) (names-listed ds)
names-listed (typed n f ds) = ap (λ z. n ∷ z) (names-listed ds)

pub names-noted : (h : Form → Form) (ds : List Decl) → map name_of (map (on_note h) ds) ≡ map name_of ds
names-noted h [] = refl
names-noted h (d ∷ ds) = ap (λ z. d.0 ∷ z) (names-noted h ds)

around-truth : (b : Bool) (R : Reading) (ρ : Env) (ds : List Decl) (f : Form) (z : Bool)
    → truth (value R ρ (pick z (noted (tag_of b + 10) (length ds ∷ []) (unlisted ds) (more f none)) (node (tag_of b) (length ds ∷ []) (map name_of ds) (more f none)))) ≡ asks b R ρ (map name_of ds) (λ θ. truth (value R θ f))
around-truth b R ρ ds f true = rw (names-unlisted ds) at (noted-truth b R ρ (length ds ∷ []) (unlisted ds) f)
around-truth b R ρ ds f false = node-truth b R ρ (length ds ∷ []) (map name_of ds) f

pub quantify-truth : (b : Bool) (R : Reading) (ρ : Env) (ds : List Decl) (f : Form)
    → truth (value R ρ (quantify (tag_of b) ds f)) ≡ asks b R ρ (map name_of ds) (λ θ. truth (value R θ f))
quantify-truth b R ρ [] f = sym (turn_twice b (truth (value R ρ f)))
quantify-truth b R ρ (d ∷ ds) f = around-truth b R ρ (d ∷ ds) f (any_noted (d ∷ ds))

-- declarations of two quantifiers with one operator ask as those of one
asks_append : (b : Bool) (R : Reading) (ρ : Env) (ns ds : List ℕ) (g : Env → Bool) → asks b R ρ (ns ++ ds) g ≡ asks b R ρ ns (λ η. asks b R η ds g)
asks_append b R ρ ns ds g =
    ap (turn b)
    (ex_over-append R.range ns ds ρ (λ θ. turn b (g θ))
    ∙ ap (λ k. ex_over R.range ns ρ k) (fun_ext (λ η. sym (turn_twice b (ex_over R.range ds η (λ θ. turn b (g θ)))))))

-- a quantified predicate asks that of its body
noted-tag : (u : ℕ) (x y : Bool) → eqb u 861 ≡ x → eqb u 862 ≡ y → (x || y) ≡ true → (u ≡ u - 10 + 10) × ((eqb (u - 10) 851 || eqb (u - 10) 852) ≡ true)
noted-tag u true y p q h = let e = eqb-true u 861 p in rw e (refl, refl)
noted-tag u false true p q h = let e = eqb-true u 862 q in rw e (refl, refl)
noted-tag u false false p q h = absurd (clash cc)

pub quantified-tag : (g : Form) (t : ℕ) (ds : List Decl) (f : Form) → quantified g ≡ quantifier t ds f → (eqb t 851 || eqb t 852) ≡ true
unfolding quantified
quantified-tag (leaf x) t ds f q = absurd (clash cc)
quantified-tag (node u o es none) t ds f q = absurd (clash cc)
quantified-tag (node u o es (more h none)) t ds f q = by (eqb u 851 || eqb u 852) refl q
  where
    by : (z : Bool) → (eqb u 851 || eqb u 852) ≡ z → pick z (quantifier u (map unnoted es) h) other ≡ quantifier t ds f → (eqb t 851 || eqb t 852) ≡ true
    by true e k = let a : u ≡ t = cc in rw a at e
    by false e k = absurd (clash cc)
quantified-tag (node u o es (more h (more k ks))) t ds f q = absurd (clash cc)
quantified-tag (noted u o es none) t ds f q = absurd (clash cc)
quantified-tag (noted u o es (more h none)) t ds f q = by (eqb u 861 || eqb u 862) refl q
  where
    by : (z : Bool) → (eqb u 861 || eqb u 862) ≡ z → pick z (quantifier (u - 10) (listed es) h) other ≡ quantifier t ds f → (eqb t 851 || eqb t 852) ≡ true
    by true e k = let a : u - 10 ≡ t = cc in rw a at (noted-tag u (eqb u 861) (eqb u 862) refl refl e).1
    by false e k = absurd (clash cc)
quantified-tag (noted u o es (more h (more k ks))) t ds f q = absurd (clash cc)

pub quantified-truth : (b : Bool) (R : Reading) (ρ : Env) (g : Form) (t : ℕ) (ds : List Decl) (f : Form) → t ≡ tag_of b → quantified g ≡ quantifier t ds f
    → truth (value R ρ g) ≡ asks b R ρ (map name_of ds) (λ θ. truth (value R θ f))
unfolding quantified
quantified-truth b R ρ (leaf x) t ds f r q = absurd (clash cc)
quantified-truth b R ρ (node u o es none) t ds f r q = absurd (clash cc)
quantified-truth b R ρ (node u o es (more h none)) t ds f r q = by (eqb u 851 || eqb u 852) refl q
  where
    by : (z : Bool) → (eqb u 851 || eqb u 852) ≡ z → pick z (quantifier u (map unnoted es) h) other ≡ quantifier t ds f
        → truth (value R ρ (node u o es (more h none))) ≡ asks b R ρ (map name_of ds) (λ θ. truth (value R θ f))
    by true e k =
        let a : u ≡ tag_of b = cc in
        let c : map unnoted es ≡ ds = cc in
        let d : h ≡ f = cc in
        rw (a, ← c, names-plain es, d) (node-truth b R ρ o es f)
    by false e k = absurd (clash cc)
quantified-truth b R ρ (node u o es (more h (more k ks))) t ds f r q = absurd (clash cc)
quantified-truth b R ρ (noted u o es none) t ds f r q = absurd (clash cc)
quantified-truth b R ρ (noted u o es (more h none)) t ds f r q = by (eqb u 861 || eqb u 862) refl q
  where
    by : (z : Bool) → (eqb u 861 || eqb u 862) ≡ z → pick z (quantifier (u - 10) (listed es) h) other ≡ quantifier t ds f
        → truth (value R ρ (noted u o es (more h none))) ≡ asks b R ρ (map name_of ds) (λ θ. truth (value R θ f))
    by true e k =
        let v : u - 10 ≡ tag_of b = cc in
        let a : u ≡ tag_of b + 10 = (noted-tag u (eqb u 861) (eqb u 862) refl refl e).0 ∙ ap (λ z. z + 10) v in
        let c : listed es ≡ ds = cc in
        let d : h ≡ f = cc in
        rw (a, ← c, names-listed es, d) (noted-truth b R ρ o es f)
    by false e k = absurd (clash cc)
quantified-truth b R ρ (noted u o es (more h (more k ks))) t ds f r q = absurd (clash cc)

-- declarations put round a form
module _ (b : Bool) (R : Reading) (ρ : Env) (ns : List Decl) (g : Form) where
  join-truth : (q : Quantified) → quantified g ≡ q → truth (value R ρ (join_with (tag_of b) ns g q)) ≡ asks b R ρ (map name_of ns) (λ θ. truth (value R θ g))
  join-truth other e = quantify-truth b R ρ ns g
  join-truth (quantifier u ds f) e = by (eqb u (tag_of b) && clear (length ns) ds) refl
    where
      by : (z : Bool) → (eqb u (tag_of b) && clear (length ns) ds) ≡ z
          → truth (value R ρ (pick z (quantify (tag_of b) (ns ++ map (on_note (lower (length ns))) ds) f) (quantify (tag_of b) ns g))) ≡ asks b R ρ (map name_of ns) (λ θ. truth (value R θ g))
      by true z =
          let t : u ≡ tag_of b = eqb-true u (tag_of b) (and_left (eqb u (tag_of b)) (clear (length ns) ds) z) in
          quantify-truth b R ρ (ns ++ map (on_note (lower (length ns))) ds) f
          ∙ rw (map-append name_of ns (map (on_note (lower (length ns))) ds), names-noted (lower (length ns)) ds)
          (asks_append b R ρ (map name_of ns) (map name_of ds) (λ θ. truth (value R θ f))
          ∙ ap (λ k. asks b R ρ (map name_of ns) k) (fun_ext (λ η. sym (quantified-truth b R η g u ds f t e))))
      by false z = quantify-truth b R ρ ns g

pub put_round-truth : (b : Bool) (R : Reading) (ρ : Env) (ns : List Decl) (g : Form)
    → truth (value R ρ (put_round (tag_of b) ns g)) ≡ asks b R ρ (map name_of ns) (λ θ. truth (value R θ g))
unfolding put_round
put_round-truth b R ρ [] g = quantify-truth b R ρ [] g
put_round-truth b R ρ (n ∷ ns) g = join-truth b R ρ (n ∷ ns) g (quantified g) refl
