-- Readings ignore annotations: a quantifier or comprehension with annotations has the value of the one without them. Assumes nothing.
use mathlib.Core.Path.{◌≡◌, refl}
use mathlib.Core.List.{List}
use Prim.Native.Nat.{ℕ}
use Rattle.tree.specs.Form.{node, noted, Decls, names_of, Forms}
use Rattle.reading.specs.Reading.{Reading, Env, value}

module _ (R : Reading) (ρ : Env) (o : List ℕ) (ds : Decls) (ks : Forms) where
  -- 861 and 862 are read as 851 and 852
  pub quantifier-notes : (value R ρ (noted 861 o ds ks) ≡ value R ρ (node 851 o (names_of ds) ks)) × (value R ρ (noted 862 o ds ks) ≡ value R ρ (node 852 o (names_of ds) ks))
  unfolding value
  quantifier-notes = (refl, refl)

  -- 871 to 873 as 801 to 803
  pub comprehension-notes : (value R ρ (noted 871 o ds ks) ≡ value R ρ (node 801 o (names_of ds) ks)) × (value R ρ (noted 872 o ds ks) ≡ value R ρ (node 802 o (names_of ds) ks))
      × (value R ρ (noted 873 o ds ks) ≡ value R ρ (node 803 o (names_of ds) ks))
  unfolding value
  comprehension-notes = (refl, refl, refl)
