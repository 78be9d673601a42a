-- What the readers answer, by what is read at a position of the row; and the marks of a form: at the tag of each name and index one
-- more than the number of declarations that are open there.
use Rattle.std.specs.Prelude.{◌≡◌, List, [], ◌∷◌, ℕ, suc, ◌+◌, Bool, true, false, ◌&&◌, leb, eqb, length, set, take, replicate, Some, None, Option as Maybe}
use Rattle.std.proofs.Math.Option.{Option, none as absent, some}
use Rattle.tree.specs.Form.{Form, leaf, node, noted, Decls, undeclared, bare, typed, names_of, any_typed, Forms, none, more, pick, encode, encode_decls, encode_all}
use Rattle.form.specs.Decode.{Got, got, no-form, Gots, gots, no-forms, GotDecl, got_bare, got_typed, no-decl, GotDecls, declared, no-decls, is_leaf, decode, decls, Found, found, missing}
use Rattle.tree.specs.Tag.{Sort, expr, shape_of}
use Rattle.form.specs.Break.{break_at}
use Rattle.form.specs.Lists.{Place, kept, filled, Entry, entry, word_of, entry_words, distinct}
use Rattle.form.specs.declared.answer.Kind.{Kind}
use Rattle.form.specs.declared.answer.Kind.TheVariants.{Expression, Predicate, Either, Named}
use Rattle.tree.specs.declared.tag.Shape.{Shape}
use Rattle.tree.specs.declared.tag.Shape.TheVariants.{Unknown, Plain, Name, Value, Exprs, Preds, Apply, Compr, Quant, NotedCompr, NotedQuant}
use Rattle.reader.specs.declared.lists.Table.{Table}

-- the list l with the marks of a form that stands at `at` under u declarations
unfoldable mutual
  pub mark : Form → ℕ → ℕ → List ℕ → List ℕ
  mark (leaf x) at u l = set l at (suc u)
  mark (node t o ds ks) at u l = mark_all ks (at + suc (length o + length ds)) (length ds + u) l
  mark (noted t o ds ks) at u l =
      mark_all ks (at + suc (length o + length (encode_decls ds))) (length (names_of ds) + u) (mark_decls ds (at + suc (length o)) u l)

  pub mark_decls : Decls → ℕ → ℕ → List ℕ → List ℕ
  mark_decls undeclared at u l = l
  mark_decls (bare n ds) at u l = mark_decls ds (at + 2) u l
  mark_decls (typed n f ds) at u l = mark_decls ds (at + 2 + length (encode f)) u (mark f (at + 2) u l)

  pub mark_all : Forms → ℕ → ℕ → List ℕ → List ℕ
  mark_all none at u l = l
  mark_all (more f fs) at u l = mark_all fs (at + length (encode f)) u (mark f at u l)

unfoldable pub mark_tag : ℕ → ℕ → ℕ → List ℕ → List ℕ
mark_tag t at u l = pick (is_leaf t) (set l at (suc u)) l

-- a reader at `at` answers r and leaves the marks b, where they were a
unfoldable pub Told : ℕ → ℕ → Got → List ℕ → List ℕ → Maybe ℕ → Type 0
Told at u (got f x) a b r = (r ≡ Some (at + length (encode f))) × (b ≡ mark f at u a)
Told at u no-form a b r = r ≡ None

unfoldable pub ToldAll : ℕ → ℕ → Gots → List ℕ → List ℕ → Maybe ℕ → Type 0
ToldAll at u (gots fs x) a b r = (r ≡ Some (at + length (encode_all fs))) × (b ≡ mark_all fs at u a)
ToldAll at u no-forms a b r = r ≡ None

-- a declaration with its flag; several; several, one of which at least has an annotation, and what k reads after them
unfoldable pub ToldDecl : ℕ → ℕ → GotDecl → List ℕ → List ℕ → Maybe ℕ → Type 0
ToldDecl at u (got_bare w x) a b r = (r ≡ Some (at + 2)) × (b ≡ a)
ToldDecl at u (got_typed w f x) a b r = (r ≡ Some (at + 2 + length (encode f))) × (b ≡ mark f (at + 2) u a)
ToldDecl at u no-decl a b r = r ≡ None

unfoldable pub ToldDecls : ℕ → ℕ → GotDecls → List ℕ → List ℕ → Maybe ℕ → Type 0
ToldDecls at u (declared ds x) a b r = (r ≡ Some (at + length (encode_decls ds))) × (b ≡ mark_decls ds at u a)
ToldDecls at u no-decls a b r = r ≡ None

unfoldable pub ToldNoted : ℕ → ℕ → GotDecls → (List ℕ → Gots) → List ℕ → List ℕ → Maybe ℕ → Type 0
ToldNoted at u (declared ds x) k a b r =
    pick (any_typed ds) (ToldAll (at + length (encode_decls ds)) (u + length (names_of ds)) (k x) (mark_decls ds at u a) b r) (r ≡ None)
ToldNoted at u no-decls k a b r = r ≡ None

-- no form is read where the depth or the number of open declarations is over 65,535
unfoldable pub decode_in : ℕ → ℕ → Sort → List ℕ → Got
decode_in d u s ws = pick (leb d 65535 && leb u 65535) (decode d s ws) no-form

-- nor declarations, where there are more than 65,535
unfoldable pub decls_within : ℕ → ℕ → ℕ → List ℕ → GotDecls
decls_within d u n ws = pick (leb d 65535 && (leb u 65535 && leb n 65535)) (decls (λ s l. decode d s l) n ws) no-decls

-- whether a form was found, and its marks if it was
abbrev pub has_form : Found → Bool
has_form (found s f) = true
has_form missing = false

unfoldable pub Marked : Found → List ℕ → List ℕ → Type 0
Marked (found s f) a b = b ≡ mark f 0 0 a
Marked missing a b = Unit {0}

-- which sort a row is read as
abbrev pub known : Shape → Bool
known Unknown = false
known (Plain p e) = true
known Name = true
known Value = true
known (Exprs m) = true
known (Preds m) = true
known Apply = true
known Compr = true
known Quant = true
known NotedCompr = true
known NotedQuant = true

abbrev pub known_at : List ℕ → Bool
known_at [] = false
known_at (t ∷ ws) = known (shape_of expr t)

unfoldable pub as_expr : Kind → List ℕ → Bool
as_expr Expression row = true
as_expr Predicate row = false
as_expr Either row = known_at row
as_expr Named row = known_at row

-- whether a row that is one form of its sort is of the kind
unfoldable pub of_kind : Kind → List ℕ → Bool
of_kind Expression row = true
of_kind Predicate row = true
of_kind Either row = true
of_kind Named row = eqb (break_at Named row) (length row)

-- entries of lists: their marks, their table, and what the code's parts answer
abbrev pub mark_place : Place → ℕ → List ℕ → List ℕ
mark_place kept at l = l
mark_place (filled f) at l = mark f at 0 l

unfoldable pub mark_entry : Entry → ℕ → List ℕ → List ℕ
mark_entry (entry w p) at l = mark_place p (at + 1) l

unfoldable pub mark_entries : List Entry → ℕ → List ℕ → List ℕ
mark_entries [] at l = l
mark_entries (e ∷ es) at l = mark_entries es (at + length (entry_words e)) (mark_entry e at l)

unfoldable pub ToldEntry : ℕ → Option (Entry × List ℕ) → List ℕ → List ℕ → Maybe ℕ → Type 0
ToldEntry at (some x) a b r = (r ≡ Some (at + length (entry_words x.0))) × (b ≡ mark_entry x.0 at a)
ToldEntry at absent a b r = r ≡ None

-- the table of n entries whose rows are lent
abbrev pub table_of : ℕ → List ℕ → List ℕ → List ℕ → Table
table_of n ws ss es = record { words = ws; starts = ss; ends = es; n = n }

-- a table as if it had no entries; and one that has none
abbrev pub emptied : Table → Table
emptied t = table_of 0 t.words t.starts t.ends

unfoldable pub empty_table : Table
empty_table = table_of 0 (replicate 32 0) (replicate 32 0) (replicate 32 0)

-- one row more; past 32 only their number grows
unfoldable pub add_row : Table → ℕ → ℕ → ℕ → Table
add_row t w s e = pick (leb 32 t.n) (table_of (t.n + 1) t.words t.starts t.ends) (table_of (t.n + 1) (set t.words t.n w) (set t.starts t.n s) (set t.ends t.n e))

unfoldable pub tabled : List Entry → ℕ → Table → Table
tabled [] at t = t
tabled (e ∷ es) at t = tabled es (at + length (entry_words e)) (add_row t (word_of e) (at + 1) (at + length (entry_words e)))

-- the entries from a position on, if there are such, turn the table t into u and the marks a into b
unfoldable pub ListingFrom : ℕ → Option (List Entry) → Table → Table → List ℕ → List ℕ → Bool → Type 0
ListingFrom at (some es) t u a b ok = (ok ≡ true) × (u ≡ tabled es at t) × (b ≡ mark_entries es at a)
ListingFrom at absent t u a b ok = ok ≡ false

abbrev pub Listing : Option (List Entry) → Table → Table → List ℕ → List ℕ → Bool → Type 0
Listing o t u a b ok = ListingFrom 0 o t u a b ok

-- whether the first n words, of at most 32, can be names of one list
unfoldable pub good_words : ℕ → List ℕ → Bool
good_words n ws = leb n 32 && distinct (take n ws)
