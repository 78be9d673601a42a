-- Forms as trees: a free name or a bound index, or a node: a tag, its own words, the names that it declares, and its children, which stand
-- under those declarations. In a noted node a declaration may have an annotation, which stands outside the node's declarations.
use Rattle.std.specs.Prelude.{List, [], ◌∷◌, ◌++◌, Bool, true, false, ◌&&◌, ℕ, suc, leb, eqb}

pub data Leaf : Type 0 where
  free : ℕ → Leaf
  bound : ℕ → Leaf

mutual
  pub data Form : Type 0 where
    leaf : Leaf → Form
    node : ℕ → List ℕ → List ℕ → Forms → Form
    noted : ℕ → List ℕ → Decls → Forms → Form

  -- declared names, each bare or with the annotation that stands after it
  pub data Decls : Type 0 where
    undeclared : Decls
    bare : ℕ → Decls → Decls
    typed : ℕ → Form → Decls → Decls

  pub data Forms : Type 0 where
    none : Forms
    more : Form → Forms → Forms

-- the row of a form: prefix order
unfoldable mutual
  pub encode : Form → List ℕ
  encode (leaf x) = elim x [ free n ↦ 1 ∷ n ∷ [] | bound i ↦ 2 ∷ i ∷ [] ]
  encode (node t o ds ks) = t ∷ (o ++ (ds ++ encode_all ks))
  encode (noted t o ds ks) = t ∷ (o ++ (encode_decls ds ++ encode_all ks))

  pub encode_decls : Decls → List ℕ
  encode_decls undeclared = []
  encode_decls (bare n ds) = n ∷ 0 ∷ encode_decls ds
  encode_decls (typed n f ds) = n ∷ 1 ∷ (encode f ++ encode_decls ds)

  pub encode_all : Forms → List ℕ
  encode_all none = []
  encode_all (more f fs) = encode f ++ encode_all fs

abbrev pub names_of : Decls → List ℕ
names_of undeclared = []
names_of (bare n ds) = n ∷ names_of ds
names_of (typed n f ds) = n ∷ names_of ds

-- is there an annotation?
abbrev pub any_typed : Decls → Bool
any_typed undeclared = false
any_typed (bare n ds) = any_typed ds
any_typed (typed n f ds) = true

abbrev pub count : Forms → ℕ
count none = 0
count (more f fs) = suc (count fs)

abbrev pub pick {ℓ} : {A : Type ℓ} → Bool → A → A → A
pick x a b = elim x [ true ↦ a | false ↦ b ]

abbrev pub between : ℕ → ℕ → ℕ → Bool
between lo hi w = leb lo w && leb w hi

abbrev pub member : ℕ → List ℕ → Bool
member m [] = false
member m (n ∷ ns) = pick (eqb n m) true (member m ns)
