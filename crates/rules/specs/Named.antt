-- Named: a form in which each occurrence is a name becomes one in which the occurrences that a declaration binds are indices (de Bruijn,
-- "Lambda calculus notation with nameless dummies").
use Rattle.std.specs.Prelude.{List, [], ◌∷◌, ℕ, suc, eqb}
use Rattle.tree.specs.Form.{Leaf, free, bound, Form, leaf, node, noted, Decls, undeclared, bare, typed, names_of, Forms, none, more, pick}
use Rattle.form.specs.Answer.{Outcome, with_form, finish}
use Rattle.form.specs.declared.answer.Kind.TheVariants.{Named}

-- a scope: the declared names that are open, from the innermost outwards; here with the names of one quantifier more, of which the last is
-- the innermost
abbrev pub opened : List ℕ → List ℕ → List ℕ
opened [] scope = scope
opened (n ∷ ns) scope = opened ns (n ∷ scope)

-- an occurrence of a name: the index of its first place in the scope; free where it has none
abbrev pub further : Leaf → Leaf
further = elim [ free m ↦ free m | bound i ↦ bound (suc i) ]

unfoldable pub occurrence : List ℕ → ℕ → Leaf
occurrence [] m = free m
occurrence (n ∷ ns) m = pick (eqb n m) (bound 0) (further (occurrence ns m))

abbrev pub nameless_leaf : List ℕ → Leaf → Leaf
nameless_leaf scope = elim [ free m ↦ occurrence scope m | bound i ↦ bound i ]

unfoldable mutual
  pub nameless : List ℕ → Form → Form
  nameless scope (leaf x) = leaf (nameless_leaf scope x)
  nameless scope (node t o ds ks) = node t o ds (nameless_all (opened ds scope) ks)
  nameless scope (noted t o ds ks) = noted t o (nameless_decls scope ds) (nameless_all (opened (names_of ds) scope) ks)

  -- annotations stand outside the declarations
  pub nameless_decls : List ℕ → Decls → Decls
  nameless_decls scope undeclared = undeclared
  nameless_decls scope (bare n ds) = bare n (nameless_decls scope ds)
  nameless_decls scope (typed n f ds) = typed n (nameless scope f) (nameless_decls scope ds)

  pub nameless_all : List ℕ → Forms → Forms
  nameless_all scope none = none
  nameless_all scope (more f fs) = more (nameless scope f) (nameless_all scope fs)

-- 7 cannot arise: the result is as long as the row and keeps within the limits (`named-outcomes`, `named-never-7`)
unfoldable pub named_outcome : List ℕ → ℕ → Outcome
named_outcome row room = with_form Named row (λ s f. finish s room (nameless [] f))
