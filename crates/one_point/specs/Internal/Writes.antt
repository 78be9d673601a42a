-- What the scan's parts write into the output row.
use Rattle.std.specs.Prelude.{◌≡◌, Bool, true, false, List, [], ℕ}
use Rattle.std.proofs.Math.Option.{Option, none as absent, some}
use Rattle.tree.specs.Form.{Form, node, noted, Decls, Forms, none, more, encode}

-- the words of what is left of a node
abbrev pub left_words : Option Form → List ℕ
left_words (some f) = encode f
left_words absent = []

abbrev pub is_gone : Option Form → Bool
is_gone (some f) = false
is_gone absent = true

-- a form that is a not has one child and nothing else, and so has a not that is this child
pub data Neat : Form → Type 0 where
  neat-not : {f : Form} → Neat f → Neat (node 8 [] [] (more f none))
  neat-other : {t : ℕ} {o ds : List ℕ} {ks : Forms} → (t ≡ 8 → ⊥) → Neat (node t o ds ks)
  neat-noted : {t : ℕ} {o : List ℕ} {ds : Decls} {ks : Forms} → (t ≡ 8 → ⊥) → Neat (noted t o ds ks)

pub data Neats : Forms → Type 0 where
  no_more : Neats none
  and-more : {f : Form} {fs : Forms} → Neat f → Neats fs → Neats (more f fs)
