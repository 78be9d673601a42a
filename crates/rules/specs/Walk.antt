-- One traversal for every rewriting: an identifier that a declaration inside binds stays; each other one, an outer identifier, becomes what
-- the action says of it at its depth. A second collects over the outer identifiers.
use Rattle.std.specs.Prelude.{Bool, true, ◌&&◌, ℕ, zero, suc, ◌+◌, length}
use Rattle.tree.specs.Form.{Leaf, free, bound, Form, leaf, node, noted, Decls, undeclared, bare, typed, names_of, Forms, none, more}

-- index i under k open declarations: bound there, or dangling as i - k
pub data Binding : Type 0 where
  inside : Binding
  outside : ℕ → Binding

abbrev pub binding : ℕ → ℕ → Binding
binding zero i = outside i
binding (suc k) zero = inside
binding (suc k) (suc i) = binding k i

pub data Outer : Type 0 where
  named : ℕ → Outer
  dangling : ℕ → Outer

abbrev pub walk_index : (ℕ → Outer → Form) → ℕ → ℕ → Binding → Form
walk_index act k i = elim [ inside ↦ leaf (bound i) | outside j ↦ act k (dangling j) ]

abbrev pub walk_leaf : (ℕ → Outer → Form) → ℕ → Leaf → Form
walk_leaf act k = elim [ free n ↦ act k (named n) | bound i ↦ walk_index act k i (binding k i) ]

unfoldable mutual
  pub walk : (ℕ → Outer → Form) → ℕ → Form → Form
  walk act k (leaf x) = walk_leaf act k x
  walk act k (node t o ds ks) = node t o ds (walk_all act (length ds + k) ks)
  walk act k (noted t o ds ks) = noted t o (walk_decls act k ds) (walk_all act (length (names_of ds) + k) ks)

  -- annotations stand outside the declarations
  pub walk_decls : (ℕ → Outer → Form) → ℕ → Decls → Decls
  walk_decls act k undeclared = undeclared
  walk_decls act k (bare n ds) = bare n (walk_decls act k ds)
  walk_decls act k (typed n f ds) = typed n (walk act k f) (walk_decls act k ds)

  pub walk_all : (ℕ → Outer → Form) → ℕ → Forms → Forms
  walk_all act k none = none
  walk_all act k (more f fs) = more (walk act k f) (walk_all act k fs)

-- shifted up by n; a substitution, each replacement lifted by the depth at which it comes to stand
abbrev pub up : ℕ → ℕ → Outer → Form
up n k = elim [ named m ↦ leaf (free m) | dangling j ↦ leaf (bound (k + (j + n))) ]

abbrev pub lift : ℕ → Form → Form
lift n f = walk (up n) 0 f

abbrev pub put : (Outer → Form) → ℕ → Outer → Form
put σ k x = lift k (σ x)

abbrev pub subst : (Outer → Form) → Form → Form
subst σ f = walk (put σ) 0 f

-- what p says of each outer identifier at its depth, in row order, put together
abbrev pub collect_index : {A : Type 0} → A → (ℕ → Outer → A) → ℕ → Binding → A
collect_index e p k = elim [ inside ↦ e | outside j ↦ p k (dangling j) ]

abbrev pub collect_leaf : {A : Type 0} → A → (ℕ → Outer → A) → ℕ → Leaf → A
collect_leaf e p k = elim [ free n ↦ p k (named n) | bound i ↦ collect_index e p k (binding k i) ]

unfoldable mutual
  pub collect : {A : Type 0} → A → (A → A → A) → (ℕ → Outer → A) → ℕ → Form → A
  collect e join p k (leaf x) = collect_leaf e p k x
  collect e join p k (node t o ds ks) = collect_all e join p (length ds + k) ks
  collect e join p k (noted t o ds ks) = join (collect_decls e join p k ds) (collect_all e join p (length (names_of ds) + k) ks)

  pub collect_decls : {A : Type 0} → A → (A → A → A) → (ℕ → Outer → A) → ℕ → Decls → A
  collect_decls e join p k undeclared = e
  collect_decls e join p k (bare n ds) = collect_decls e join p k ds
  collect_decls e join p k (typed n f ds) = join (collect e join p k f) (collect_decls e join p k ds)

  pub collect_all : {A : Type 0} → A → (A → A → A) → (ℕ → Outer → A) → ℕ → Forms → A
  collect_all e join p k none = e
  collect_all e join p k (more f fs) = join (collect e join p k f) (collect_all e join p k fs)

-- does p hold of each outer identifier?
abbrev pub each : (ℕ → Outer → Bool) → ℕ → Form → Bool
each p k f = collect true ◌&&◌ p k f
