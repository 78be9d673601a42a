-- What a row says: the form at its front, and whether it is exactly one form within the limits.
use Rattle.std.specs.Prelude.{Bool, true, false, ◌&&◌, ◌||◌, List, [], ◌∷◌, ℕ, zero, suc, leb, eqb, length, get_or}
use Rattle.tree.specs.Form.{Leaf, free, bound, Form, leaf, node, noted, Decls, undeclared, bare, typed, any_typed, Forms, none, more, pick, between}
use Rattle.tree.specs.Tag.{Sort, expr, pred, Own, ask, kids, flags, wrong, own, sorts}
use Rattle.form.specs.declared.answer.Kind.{Kind}
use Rattle.form.specs.declared.answer.Kind.TheVariants.{Expression, Predicate, Either, Named}

-- what was read after a tag: own words, declared names, the numbers of predicates and of expressions, and the words left; where the
-- names have flags, only their number
pub data Head : Type 0 where
  head : List ℕ → List ℕ → ℕ → ℕ → List ℕ → Head
  flagged : List ℕ → ℕ → ℕ → ℕ → List ℕ → Head
  bad : Head

abbrev pub add_word : ℕ → Head → Head
add_word w = elim [ head o ds p e r ↦ head (w ∷ o) ds p e r | flagged o n p e r ↦ flagged (w ∷ o) n p e r | bad ↦ bad ]

abbrev pub add_name : ℕ → Head → Head
add_name w = elim [ head o ds p e r ↦ head o (w ∷ ds) p e r | flagged o n p e r ↦ bad | bad ↦ bad ]

abbrev pub only : Bool → Head → Head
only x h = elim x [ true ↦ h | false ↦ bad ]

abbrev pub names : ℕ → ℕ → ℕ → List ℕ → Head
names zero p e ws = head [] [] p e ws
names (suc n) p e [] = bad
names (suc n) p e (w ∷ ws) = let h = add_name w (names n p e ws) in only (between 0 65535 w) h

unfoldable pub read : Own → List ℕ → Head
read (ask lo hi k) [] = bad
read (ask lo hi k) (w ∷ ws) = let h = add_word w (read (k w) ws) in only (between lo hi w) h
read (kids n p e) ws = names n p e ws
read (flags n p e) ws = flagged [] n p e ws
read wrong ws = bad

-- a form and the words after it; several forms and the words after them
pub data Got : Type 0 where
  got : Form → List ℕ → Got
  no-form : Got

pub data Gots : Type 0 where
  gots : Forms → List ℕ → Gots
  no-forms : Gots

abbrev pub leaf_at : ℕ → ℕ → Leaf
leaf_at t n = pick (eqb t 1) (free n) (bound n)

abbrev pub is_leaf : ℕ → Bool
is_leaf t = eqb t 1 || eqb t 2

abbrev pub make : ℕ → List ℕ → List ℕ → Forms → Form
make t o ds ks = pick (is_leaf t) (leaf (leaf_at t (get_or o 0 0))) (node t o ds ks)

abbrev pub add_form : Form → Gots → Gots
add_form f = elim [ gots fs r ↦ gots (more f fs) r | no-forms ↦ no-forms ]

abbrev pub close : ℕ → List ℕ → List ℕ → Gots → Got
close t o ds = elim [ gots ks r ↦ got (make t o ds ks) r | no-forms ↦ no-form ]

abbrev pub chain : Got → (List ℕ → Gots) → Gots
chain x k = elim x [ got f r ↦ add_form f (k r) | no-form ↦ no-forms ]

unfoldable pub decode_all : (Sort → List ℕ → Got) → List Sort → List ℕ → Gots
decode_all rec [] ws = gots none ws
decode_all rec (s ∷ ss) ws = chain (rec s ws) (λ r. decode_all rec ss r)

-- a declaration with its flag: a name and 0, or a name, 1 and an expression; and the words after it
pub data GotDecl : Type 0 where
  got_bare : ℕ → List ℕ → GotDecl
  got_typed : ℕ → Form → List ℕ → GotDecl
  no-decl : GotDecl

abbrev pub note_of : ℕ → Got → GotDecl
note_of w = elim [ got f r ↦ got_typed w f r | no-form ↦ no-decl ]

abbrev pub by_flag : (Sort → List ℕ → Got) → ℕ → ℕ → List ℕ → GotDecl
by_flag rec w zero ws = got_bare w ws
by_flag rec w (suc zero) ws = note_of w (rec expr ws)
by_flag rec w (suc (suc x)) ws = no-decl

unfoldable pub decl_at : (Sort → List ℕ → Got) → List ℕ → GotDecl
decl_at rec [] = no-decl
decl_at rec (w ∷ []) = no-decl
decl_at rec (w ∷ x ∷ ws) = pick (between 0 65535 w) (by_flag rec w x ws) no-decl

-- n such declarations, and the words after them
pub data GotDecls : Type 0 where
  declared : Decls → List ℕ → GotDecls
  no-decls : GotDecls

abbrev pub add_bare : ℕ → GotDecls → GotDecls
add_bare w = elim [ declared ds r ↦ declared (bare w ds) r | no-decls ↦ no-decls ]

abbrev pub add_typed : ℕ → Form → GotDecls → GotDecls
add_typed w f = elim [ declared ds r ↦ declared (typed w f ds) r | no-decls ↦ no-decls ]

abbrev pub add_decl : GotDecl → (List ℕ → GotDecls) → GotDecls
add_decl x k = elim x [ got_bare w r ↦ add_bare w (k r) | got_typed w f r ↦ add_typed w f (k r) | no-decl ↦ no-decls ]

unfoldable pub decls : (Sort → List ℕ → Got) → ℕ → List ℕ → GotDecls
decls rec zero ws = declared undeclared ws
decls rec (suc n) ws = add_decl (decl_at rec ws) (λ r. decls rec n r)

-- at least one of them has an annotation
abbrev pub close_noted : ℕ → List ℕ → Decls → Gots → Got
close_noted t o ds = elim [ gots ks r ↦ pick (any_typed ds) (got (noted t o ds ks) r) no-form | no-forms ↦ no-form ]

abbrev pub with_decls : (Sort → List ℕ → Got) → ℕ → List ℕ → ℕ → ℕ → GotDecls → Got
with_decls rec t o p e = elim [ declared ds r ↦ close_noted t o ds (decode_all rec (sorts p e) r) | no-decls ↦ no-form ]

abbrev pub branch : (Sort → List ℕ → Got) → ℕ → Head → Got
branch rec t =
    elim
    [ head o ds p e r ↦ close t o ds (decode_all rec (sorts p e) r) | flagged o n p e r ↦ with_decls rec t o p e (decls rec n r) | bad ↦ no-form ]

-- the form of the sort at the front of the row, at most so deep (a leaf is 1)
unfoldable pub decode : ℕ → Sort → List ℕ → Got
decode zero s ws = no-form
decode (suc d) s [] = no-form
decode (suc d) s (t ∷ ws) = branch (λ s' ws'. decode d s' ws') t (read (own s t) ws)

-- a row that is exactly one form of the sort: at most 8,192 words, at most 64 deep
pub data Whole : Type 0 where
  one : Form → Whole
  not-one : Whole

abbrev pub whole : Got → Whole
whole (got f []) = one f
whole (got f (w ∷ r)) = not-one
whole no-form = not-one

unfoldable pub row_form : Sort → List ℕ → Whole
row_form s row = let w = whole (decode 64 s row) in pick (leb (length row) 8192) w not-one

-- no index stands in the form
unfoldable mutual
  pub index_free : Form → Bool
  index_free (leaf x) = elim x [ free n ↦ true | bound i ↦ false ]
  index_free (node t o ds ks) = index_free_all ks
  index_free (noted t o ds ks) = index_free_decls ds && index_free_all ks

  pub index_free_decls : Decls → Bool
  index_free_decls undeclared = true
  index_free_decls (bare n ds) = index_free_decls ds
  index_free_decls (typed n f ds) = index_free f && index_free_decls ds

  pub index_free_all : Forms → Bool
  index_free_all none = true
  index_free_all (more f fs) = index_free f && index_free_all fs

-- a row that is one form of the kind asked for, and its sort
pub data Found : Type 0 where
  found : Sort → Form → Found
  missing : Found

abbrev pub as_sort : Sort → Whole → Found
as_sort s = elim [ one f ↦ found s f | not-one ↦ missing ]

abbrev pub either : Found → Found → Found
either x o = elim x [ found s f ↦ found s f | missing ↦ o ]

-- a named row has no index
abbrev pub only_names : Found → Found
only_names = elim [ found s f ↦ pick (index_free f) (found s f) missing | missing ↦ missing ]

unfoldable pub form_of : Kind → List ℕ → Found
form_of Expression row = as_sort expr (row_form expr row)
form_of Predicate row = as_sort pred (row_form pred row)
form_of Either row = either (as_sort expr (row_form expr row)) (as_sort pred (row_form pred row))
form_of Named row = only_names (either (as_sort expr (row_form expr row)) (as_sort pred (row_form pred row)))
