-- What the reader of names answers by what it finds at a position of the row, and what it writes: the words of the nameless form.
use Rattle.std.specs.Prelude.{◌≡◌, Bool, List, [], ◌∷◌, ◌++◌, ℕ, suc, ◌+◌, ◌≤◌, length, take, replicate, Some, None, Option}
use Rattle.tree.specs.Form.{Decls, names_of, any_typed, pick, encode, encode_decls, encode_all}
use Rattle.tree.specs.Tag.{Sort, expr, pred}
use Rattle.form.specs.Decode.{Got, got, no-form, Gots, gots, no-forms, GotDecl, got_bare, got_typed, no-decl, GotDecls, declared, no-decls, decode, index_free}
use Rattle.rules.specs.Named.{opened, nameless, nameless_decls, nameless_all}
use Rattle.shift.specs.Internal.Items.{store}
use Rattle.named.specs.Internal.Scope.{Sized, scope_of, Held}

-- a form at the front of the words in which no index stands
abbrev pub indexless : Got → Got
indexless (got f x) = pick (index_free f) (got f x) no-form
indexless no-form = no-form

unfoldable pub read_names : ℕ → Sort → List ℕ → Got
read_names d s ws = indexless (decode d s ws)

abbrev pub sort_of : Bool → Sort
sort_of b = pick b expr pred

-- the rows are long enough, and the slots hold the u declarations that are open at the position
pub record Ready (row made sc : List ℕ) (at u : ℕ) : Type 0 where
  pub sized : Sized (length row) (length sc)
  pub fits : length row ≤ length made
  pub short : length row ≤ 8192
  pub low : u ≤ at
  pub held : Held sc u

-- rows for a form that nothing is known of: nothing is open
pub record Blank (row made sc : List ℕ) : Type 0 where
  pub sized : Sized (length row) (length sc)
  pub fits : length row ≤ length made
  pub short : length row ≤ 8192
  pub zeros : sc ≡ replicate (length sc) 0

-- the reader at `at`, in a scope, answers r, where the words that are made were a and are b
unfoldable pub Wrote : ℕ → List ℕ → Got → List ℕ → List ℕ → Option ℕ → Type 0
Wrote at scope (got f x) a b r = (r ≡ Some (at + length (encode f))) × (b ≡ store a at (encode (nameless scope f)))
Wrote at scope no-form a b r = r ≡ None

-- a leaf, at any depth
abbrev pub WroteLeaf : ℕ → List ℕ → Sort → List ℕ → List ℕ → List ℕ → Option ℕ → Type 0
WroteLeaf at scope s ws a b r = (d : ℕ) → Wrote at scope (read_names (suc d) s ws) a b r

unfoldable pub WroteAll : ℕ → List ℕ → Gots → List ℕ → List ℕ → Option ℕ → Type 0
WroteAll at scope (gots fs x) a b r = (r ≡ Some (at + length (encode_all fs))) × (b ≡ store a at (encode_all (nameless_all scope fs)))
WroteAll at scope no-forms a b r = r ≡ None

-- a declaration with its flag
unfoldable pub WroteDecl : ℕ → List ℕ → GotDecl → List ℕ → List ℕ → Option ℕ → Type 0
WroteDecl at scope (got_bare w x) a b r = (r ≡ Some (at + 2)) × (b ≡ store a at (w ∷ 0 ∷ []))
WroteDecl at scope (got_typed w f x) a b r = (r ≡ Some (at + 2 + length (encode f))) × (b ≡ store a at (w ∷ 1 ∷ encode (nameless scope f)))
WroteDecl at scope no-decl a b r = r ≡ None

-- several, whose names are then the first of c
unfoldable pub WroteDecls : ℕ → List ℕ → GotDecls → List ℕ → List ℕ → List ℕ → Option ℕ → Type 0
WroteDecls at scope (declared ds x) a b c r =
    (r ≡ Some (at + length (encode_decls ds))) × (b ≡ store a at (encode_decls (nameless_decls scope ds))) × (take (length (names_of ds)) c ≡ names_of ds)
WroteDecls at scope no-decls a b c r = r ≡ None

-- and the children that k reads after them, where one of them at least has an annotation
unfoldable pub WroteUnder : ℕ → List ℕ → Decls → Gots → List ℕ → List ℕ → Option ℕ → Type 0
WroteUnder at scope ds (gots fs x) a b r =
    (r ≡ Some (at + (length (encode_decls ds) + length (encode_all fs))))
    × (b ≡ store a at (encode_decls (nameless_decls scope ds) ++ encode_all (nameless_all (opened (names_of ds) scope) fs)))
WroteUnder at scope ds no-forms a b r = r ≡ None

unfoldable pub WroteNoted : ℕ → List ℕ → GotDecls → (List ℕ → Gots) → List ℕ → List ℕ → Option ℕ → Type 0
WroteNoted at scope (declared ds x) k a b r = pick (any_typed ds) (WroteUnder at scope ds (k x) a b r) (r ≡ None)
WroteNoted at scope no-decls k a b r = r ≡ None

-- after an answer the same declarations are open; after a refusal the row of open declarations is free
unfoldable pub Kept : Option ℕ → ℕ → List ℕ → List ℕ → Type 0
Kept (Some q) u sc sc' = Held sc' u × (scope_of sc' u ≡ scope_of sc u)
Kept None u sc sc' = Unit {0}
