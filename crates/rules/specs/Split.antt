-- An equality of two pairs, split left to right and as deep as both sides are pairs: the sides of its parts.
use Rattle.std.specs.Prelude.{Bool, true, false, ◌&&◌, List, [], ◌∷◌, ◌++◌, ℕ, eqb}
use Rattle.tree.specs.Form.{Form, leaf, node, noted, Forms, none, more, pick}

-- what go makes of two children; d of any other number
abbrev pub of_two : {A : Type 0} → A → (Form → Form → A) → Forms → A
of_two d go none = d
of_two d go (more l none) = d
of_two d go (more l (more r none)) = go l r
of_two d go (more l (more r (more f fs))) = d

abbrev pub is_two : Forms → Bool
is_two ks = of_two false (λ l r. true) ks

abbrev pub is_nil : List ℕ → Bool
is_nil = elim [ [] ↦ true | d ∷ ds ↦ false ]

abbrev pub is_pair : ℕ → List ℕ → Forms → Bool
is_pair t ds ks = eqb t 201 && (is_nil ds && is_two ks)

unfoldable mutual
  pub parts : Form → Form → List (Form × Form)
  parts (leaf x) r = (leaf x, r) ∷ []
  parts (node t o ds ks) (leaf y) = (node t o ds ks, leaf y) ∷ []
  parts (node t o ds ks) (node u p es js) =
      pick (is_pair t ds ks && is_pair u es js) (parts_all ks js) ((node t o ds ks, node u p es js) ∷ [])
  parts (node t o ds ks) (noted u p es js) = (node t o ds ks, noted u p es js) ∷ []
  parts (noted t o ds ks) r = (noted t o ds ks, r) ∷ []

  pub parts_all : Forms → Forms → List (Form × Form)
  parts_all none js = []
  parts_all (more f fs) none = []
  parts_all (more f fs) (more g gs) = parts f g ++ parts_all fs gs

abbrev pub equal : Form → Form → Form
equal l r = node 101 [] [] (more l (more r none))
