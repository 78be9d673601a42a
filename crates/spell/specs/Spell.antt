-- The canonical spelling, in bytes ('[' is 91, ']' 93, ' ' 32, the digits 48 to 57): decimal words, forms, lists and refusals.
use Rattle.std.specs.Prelude.{Bool, true, false, List, [], ◌∷◌, ◌++◌, ℕ, zero, suc, ◌+◌, ◌/◌, ◌%◌, leb, ltb, eqb, length}
use Rattle.std.proofs.Math.Option.{Option, none as absent, some}
use Rattle.tree.specs.Form.{Leaf, free, bound, Form, leaf, node, noted, Decls, undeclared, bare, typed, Forms, none, more, pick}
use Rattle.form.specs.Decode.{Found, found, missing, form_of}
use Rattle.form.specs.Lists.{kept, filled, Entry, entry, list_of}
use Rattle.form.specs.Answer.{Outcome, answer, with_form, needs}
use Rattle.form.specs.declared.answer.Kind.TheVariants.{Either}
use Rattle.form.specs.declared.answer.ListKind.{ListKind}
use Rattle.form.specs.declared.answer.ListKind.TheVariants.{Pairs, Places}
use Rattle.form.specs.declared.answer.Refusal.TheVariants.{OutputTooShort}

-- the digits of n, at most so many: those of its tenth, then the last
unfoldable pub digits : ℕ → ℕ → List ℕ
digits zero n = []
digits (suc k) n = pick (ltb n 10) ((48 + n) ∷ []) (digits k (n / 10) ++ ((48 + n % 10) ∷ []))

-- a word below 2 ^ 32 has at most ten digits
unfoldable pub decimal : ℕ → List ℕ
decimal n = digits 10 n

-- words, each after a space
unfoldable pub spaced : List ℕ → List ℕ
spaced [] = []
spaced (w ∷ ws) = 32 ∷ (decimal w ++ spaced ws)

-- a node: its tag, its words and its children, which are spelled already
unfoldable pub bracket : ℕ → List ℕ → List ℕ → List ℕ
bracket t ws ks = 91 ∷ (decimal t ++ (spaced ws ++ (ks ++ (93 ∷ []))))

unfoldable pub spell_leaf : Leaf → List ℕ
spell_leaf (free n) = bracket 1 (n ∷ []) []
spell_leaf (bound i) = bracket 2 (i ∷ []) []

unfoldable mutual
  pub spell : Form → List ℕ
  spell (leaf x) = spell_leaf x
  spell (node t o ds ks) = bracket t (o ++ ds) (spell_all ks)
  spell (noted t o ds ks) = bracket t o (spell_decls ds ++ spell_all ks)

  -- declarations: name and flag, and the annotation after a space
  pub spell_decls : Decls → List ℕ
  spell_decls undeclared = []
  spell_decls (bare n ds) = spaced (n ∷ 0 ∷ []) ++ spell_decls ds
  spell_decls (typed n f ds) = spaced (n ∷ 1 ∷ []) ++ (32 ∷ (spell f ++ spell_decls ds))

  -- children, each after a space
  pub spell_all : Forms → List ℕ
  spell_all none = []
  spell_all (more f fs) = 32 ∷ (spell f ++ spell_all fs)

-- a pair is a name and its expression; a place is `[]` or its expression
unfoldable pub spell_entry : ListKind → Entry → List ℕ
spell_entry Pairs (entry w kept) = 91 ∷ (decimal w ++ (93 ∷ []))
spell_entry Pairs (entry w (filled f)) = 91 ∷ (decimal w ++ (32 ∷ (spell f ++ (93 ∷ []))))
spell_entry Places (entry w kept) = 91 ∷ 93 ∷ []
spell_entry Places (entry w (filled f)) = spell f

-- entries, the first after the byte b, the others after a space
unfoldable pub entries_after : ℕ → ListKind → List Entry → List ℕ
entries_after b kind [] = []
entries_after b kind (e ∷ es) = b ∷ (spell_entry kind e ++ entries_after 32 kind es)

unfoldable pub spell_list : ListKind → List Entry → List ℕ
spell_list kind [] = 91 ∷ 93 ∷ []
spell_list kind (e ∷ es) = entries_after 91 kind (e ∷ es) ++ (93 ∷ [])

-- a list of names
unfoldable pub spell_names : List ℕ → List ℕ
spell_names [] = 91 ∷ 93 ∷ []
spell_names (n ∷ ns) = bracket n ns []

-- `[no k]`, and `[no 2 p]`
unfoldable pub ending : ℕ → ℕ → List ℕ
ending k p = pick (eqb k 2) (32 ∷ (decimal p ++ (93 ∷ []))) (93 ∷ [])

unfoldable pub spell_no : ℕ → ℕ → List ℕ
spell_no k p = 91 ∷ 110 ∷ 111 ∷ 32 ∷ (decimal k ++ ending k p)

-- printing a row that is one form: its spelling, if it fits
unfoldable pub print_outcome : List ℕ → ℕ → Outcome
print_outcome row room = with_form Either row (λ s f. needs OutputTooShort (leb (length (spell f)) room) (answer (spell f)))

unfoldable pub print_no : ℕ → ℕ → ℕ → Outcome
print_no k p room = needs OutputTooShort (leb (length (spell_no k p)) room) (answer (spell_no k p))

-- the late 8 of a form: whether a group's bytes are the spelling of the form that its row is
unfoldable pub same_bytes : List ℕ → List ℕ → Bool
same_bytes [] [] = true
same_bytes [] (b ∷ bs) = false
same_bytes (a ∷ aa) [] = false
same_bytes (a ∷ aa) (b ∷ bs) = pick (eqb a b) (same_bytes aa bs) false

abbrev pub spells : List ℕ → Found → Bool
spells text (found s f) = same_bytes text (spell f)
spells text missing = false

unfoldable pub fits_form : List ℕ → List ℕ → Bool
fits_form text row = pick (leb (length text) 65535) (spells text (form_of Either row)) false

-- the same of lists
abbrev pub lists : ListKind → List ℕ → Option (List Entry) → Bool
lists kind text (some es) = same_bytes text (spell_list kind es)
lists kind text absent = false

unfoldable pub fits_list : ListKind → List ℕ → List ℕ → Bool
fits_list kind text row = pick (leb (length text) 65535) (pick (leb (length row) 8192) (lists kind text (list_of kind row)) false) false

unfoldable pub fits_names : List ℕ → List ℕ → Bool
fits_names text row = pick (leb (length text) 65535) (pick (leb (length row) 8192) (same_bytes text (spell_names row)) false) false
