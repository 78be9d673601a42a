-- The value of a form read by names: a declaration binds its name in the children of its node, the innermost binding of a name counts, and a
-- name that nothing binds has the reading's value.
use mathlib.Core.List.{List, [], ◌∷◌, flat_map}
use Rattle.std.specs.Prelude.{ℕ, eqb, ℤ}
use Rattle.tree.specs.Form.{free, bound, Form, leaf, node, noted, names_of, Forms, none, more, pick}
use Rattle.reading.specs.Reading.{Reading, value_of, plain_tag}

-- the values of all names; the same, but for one name
abbrev pub NameEnv : Type 0
NameEnv = ℕ → ℤ

abbrev pub rebind : ℕ → ℤ → NameEnv → NameEnv
rebind n v ν m = pick (eqb n m) v (ν m)

-- g under every choice of a value for each declared name from its range, in order: of two equal names the last counts
abbrev pub over_names : {A : Type 0} → (ℕ → List ℤ) → List ℕ → NameEnv → (NameEnv → A) → List A
over_names r [] ν g = g ν ∷ []
over_names r (n ∷ ns) ν g = flat_map (λ v. over_names r ns (rebind n v ν) g) (r n)

-- annotations are ignored, as in `value`; an index, which a form written with names does not have, has the reading's value
module _ (R : Reading) where
  unfoldable mutual
    pub value_by_name : NameEnv → Form → ℤ
    value_by_name ν (leaf x) = elim x [ free m ↦ ν m | bound i ↦ R.index i ]
    value_by_name ν (node t o ds ks) = value_of R t o ds (over_names R.range ds ν (λ μ. values_by_name μ ks))
    value_by_name ν (noted t o ds ks) =
        value_of R (plain_tag t) o (names_of ds) (over_names R.range (names_of ds) ν (λ μ. values_by_name μ ks))

    pub values_by_name : NameEnv → Forms → List ℤ
    values_by_name ν none = []
    values_by_name ν (more f fs) = value_by_name ν f ∷ values_by_name ν fs
