-- Why indices may be believed: in every reading the form that `nameless` gives has the value of the form read by names. Assumes nothing.
use mathlib.Core.Path.{◌≡◌, refl, ap, ◌∙◌, fun_ext}
use mathlib.Core.Bool.{Bool, true, false}
use mathlib.Core.List.{List, [], ◌∷◌, flat_map}
use Prim.Native.Nat.{ℕ}
use lib.Dec.{eqb}
use lib.IntN.{ℤ, pos}
use Rattle.tree.specs.Form.{Leaf, free, bound, Form, leaf, node, noted, names_of, Forms, none, more, pick, encode}
use Rattle.tree.specs.Tag.{Sort}
use Rattle.form.specs.Decode.{one, row_form, index_free, index_free_decls, index_free_all}
use Rattle.form.proofs.DecodeLaws.{clash}
use Rattle.rules.specs.Named.{opened, further, occurrence, nameless, nameless_all}
use Rattle.rules.proofs.WalkLaws.{and_left, and_right}
use Rattle.rules.proofs.NamedLaws.{names-kept, nameless-row}
use Rattle.reading.specs.Reading.{Reading, value_of, plain_tag, Env, cons, over, value, values}
use Rattle.reading.specs.Named.{NameEnv, rebind, over_names, value_by_name, values_by_name}

module _ (R : Reading) where
  -- each name has the value of its occurrence in the scope
  abbrev pub Agree : List ℕ → Env → NameEnv → Type 0
  Agree S ρ ν = (m : ℕ) → value R ρ (leaf (occurrence S m)) ≡ ν m

  deeper : (ρ : Env) (v : ℤ) (x : Leaf) → value R (cons v ρ) (leaf (further x)) ≡ value R ρ (leaf x)
  unfolding value
  deeper ρ v (free m) = refl
  deeper ρ v (bound i) = refl

  -- and still has it under one declaration more
  agree-cons : (S : List ℕ) (ρ : Env) (ν : NameEnv) (n : ℕ) (v : ℤ) → Agree S ρ ν → Agree (n ∷ S) (cons v ρ) (rebind n v ν)
  unfolding occurrence value
  agree-cons S ρ ν n v h m = go (eqb n m)
    where
      go : (b : Bool) → value R (cons v ρ) (leaf (pick b (bound 0) (further (occurrence S m)))) ≡ pick b v (ν m)
      go true = refl
      go false = deeper ρ v (occurrence S m) ∙ h m

  -- so two computations agree over all choices for a node's declarations if they agree in its scope
  over_agree : {A : Type 0} (ds S : List ℕ) (ρ : Env) (ν : NameEnv) (g : Env → A) (h : NameEnv → A) → Agree S ρ ν
      → ((ρ' : Env) (ν' : NameEnv) → Agree (opened ds S) ρ' ν' → g ρ' ≡ h ν') → over R.range ds ρ g ≡ over_names R.range ds ν h
  over_agree [] S ρ ν g h a e = rw (e ρ ν a)
  over_agree (d ∷ ds) S ρ ν g h a e =
      ap (λ f. flat_map f (R.range d)) (fun_ext (λ v. over_agree ds (d ∷ S) (cons v ρ) (rebind d v ν) g h (agree-cons S ρ ν d v a) e))

  -- under every scope, for values of indices and of names that agree in it
  mutual
    unfolding nameless index_free value value_by_name

    pub scope-value : (f : Form) (S : List ℕ) (ρ : Env) (ν : NameEnv) → Agree S ρ ν → index_free f ≡ true → value R ρ (nameless S f) ≡ value_by_name R ν f
    scope-value (leaf (free m)) S ρ ν a h = a m
    scope-value (leaf (bound i)) S ρ ν a h = absurd (clash cc)
    scope-value (node t o ds ks) S ρ ν a h =
        ap (λ z. value_of R t o ds z)
        (over_agree ds S ρ ν (λ η. values R η (nameless_all (opened ds S) ks)) (λ μ. values_by_name R μ ks) a
        (λ η μ b. scope-values ks (opened ds S) η μ b h))
    scope-value (noted t o ds ks) S ρ ν a h =
        rw (names-kept S ds)
        (ap (λ z. value_of R (plain_tag t) o (names_of ds) z)
        (over_agree (names_of ds) S ρ ν (λ η. values R η (nameless_all (opened (names_of ds) S) ks)) (λ μ. values_by_name R μ ks) a
        (λ η μ b. scope-values ks (opened (names_of ds) S) η μ b (and_right (index_free_decls ds) (index_free_all ks) h))))

    scope-values : (fs : Forms) (S : List ℕ) (ρ : Env) (ν : NameEnv) → Agree S ρ ν → index_free_all fs ≡ true
        → values R ρ (nameless_all S fs) ≡ values_by_name R ν fs
    scope-values none S ρ ν a h = refl
    scope-values (more f fs) S ρ ν a h =
        rw (scope-value f S ρ ν a (and_left (index_free f) (index_free_all fs) h), scope-values fs S ρ ν a (and_right (index_free f) (index_free_all fs) h))

  pub named_value : (f : Form) → index_free f ≡ true → value R R.index (nameless [] f) ≡ value_by_name R R.name f
  unfolding occurrence value
  named_value f h = scope-value f [] R.index R.name (λ m. refl) h

  -- so the form that the result's row says has the value of the form that the row says by names
  pub named-row-value : (s : Sort) (row : List ℕ) (f g : Form) → row_form s row ≡ one f → index_free f ≡ true
      → row_form s (encode (nameless [] f)) ≡ one g → value R R.index g ≡ value_by_name R R.name f
  named-row-value s row f g e h q =
      let r = nameless-row s row f e in
      let z : g ≡ nameless [] f = cc in
      rw z (named_value f h)

-- a name declared twice, with 1 and 2 in its range: under each choice for the first, that for the last counts
pub last-counts : (ν : NameEnv) → over_names (λ n. pos 1 ∷ pos 2 ∷ []) (4 ∷ 4 ∷ []) ν (λ μ. μ 4) ≡ pos 1 ∷ pos 2 ∷ pos 1 ∷ pos 2 ∷ []
unfolding flat_map
last-counts ν = refl
