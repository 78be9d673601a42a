-- What must still come of a node as the code holds it, and what the search for the break answers.
use Rattle.std.specs.Prelude.{◌≡◌, Bool, true, false, ◌&&◌, List, [], ◌∷◌, ℕ, zero, suc, ◌+◌, ◌-◌, ◌≤◌, ◌<◌, leb, eqb, get_or, drop, Option, Some, None, Result, Ok, Err, is_ok}
use Rattle.tree.specs.Form.{pick, between}
use Rattle.tree.specs.Tag.{Sort, expr, pred}
use Rattle.form.specs.Break.{Next, word, note, parts, never, low_flag, decls_next, next_of, own_in, Open, rest, least, least_all, break_from}
use Rattle.form.specs.Decode.{is_leaf}
use Rattle.form.specs.Internal.Heads.{starts_leaf}
use Rattle.form.specs.declared.answer.ListKind.{ListKind}
use Rattle.form.specs.declared.answer.ListKind.TheVariants.{Pairs, Places}
use Rattle.broken.specs.declared.due.Due.{Due}
use Rattle.broken.specs.declared.due.Due.TheVariants.{Kids, Ask, Note, Wrong}
use Rattle.broken.specs.declared.due.Then.{Then}
use Rattle.broken.specs.declared.due.Then.TheVariants.{Nothing, Exprs, Preds, Count, Declared, Names, NotedDeclared, Noted, Flag, Decl}

-- after a flag, and the flag of a name, where an annotation came before or none did
abbrev pub after_flag : Bool → ℕ → ℕ → ℕ → Next
after_flag came n e flag = pick (eqb flag 0) (decls_next came n 1 e) (note (decls_next true n 1 e))

abbrev pub flag_next : Bool → ℕ → ℕ → Next
flag_next came n e = word (low_flag came n) 1 (λ f. after_flag came n e f)

unfoldable pub next_then : Then → ℕ → Next
next_then Nothing w = parts 0 0 0
next_then Exprs w = parts 0 0 w
next_then Preds w = parts 0 w 0
next_then Count w = word 0 4294967295 (λ n. parts 0 0 n)
next_then Declared w = word 1 32 (λ n. parts n 1 1)
next_then (Names e) w = parts w 1 e
next_then NotedDeclared w = word 1 32 (λ n. decls_next false n 1 1)
next_then (Noted e) w = decls_next false w 1 e
next_then (Flag came n e) w = flag_next came n e
next_then (Decl came n e) w = after_flag came n e w

unfoldable pub next_due : Due → Next
next_due (Kids n p e) = parts n p e
next_due (Ask lo hi t) = word lo hi (λ w. next_then t w)
next_due (Note n e) = note (decls_next true n 1 e)
next_due Wrong = never

unfoldable pub is_own : Next → Bool
is_own (word lo hi k) = true
is_own (parts zero p e) = false
is_own (parts (suc n) p e) = true
is_own (note k) = false
is_own never = true

-- the words of an entry that is 0, or a word and a name or an index, if it has room; 0 for any other
abbrev pub leaf_entry : ℕ → List ℕ → ℕ
leaf_entry at ws = pick (leb (at + 3) 8192 && starts_leaf 64 ws) 3 0

unfoldable pub quick_entry : ListKind → ℕ → List ℕ → ℕ
quick_entry kind at [] = 0
quick_entry Pairs at (w ∷ ws) = leaf_entry at ws
quick_entry Places at (zero ∷ ws) = pick (leb (at + 1) 8192) 1 0
quick_entry Places at (suc zero ∷ ws) = leaf_entry at ws
quick_entry Places at (suc (suc w) ∷ ws) = 0

-- children: the sort of the first where so many predicates must come; whether there are none; the expressions after the first child
unfoldable pub sort_of : ℕ → Sort
sort_of zero = expr
sort_of (suc p) = pred

unfoldable pub no_kids : ℕ → ℕ → Bool
no_kids zero zero = true
no_kids zero (suc e) = false
no_kids (suc p) e = false

unfoldable pub exprs_after : ℕ → ℕ → ℕ
exprs_after zero e = e - 1
exprs_after (suc p) e = e

-- the tag of a name or, where the row is not named, of an index
abbrev pub leaf_in : Bool → ℕ → Bool
leaf_in named t = pick named (eqb t 1) (is_leaf t)

-- whether only expressions must come, the first has this tag, which is such a tag, and there is room for its word
unfoldable pub leaf_next : Bool → ℕ → ℕ → ℕ → ℕ → ℕ → ℕ → Bool
leaf_next named d p e need at tag = leb p 0 && (leb (suc (at + (least d (parts 0 0 e) + need))) 8192 && leaf_in named tag)

unfoldable pub after_word : Next → ℕ → Next
after_word (word lo hi k) w = pick (between lo hi w) (k w) never
after_word (parts zero p e) w = parts zero p e
after_word (parts (suc n) p e) w = pick (between 0 65535 w) (parts n p e) never
after_word (note k) w = never
after_word never w = never

-- the search has come from `at` and the rest o to p and the rest o'
pub record Reaches (named : Bool) (row : List ℕ) (at d : ℕ) (o : Next) (need p : ℕ) (o' : Next) : Type 0 where
  pub same : (z : ℕ → Next) (x : Open) → least_all x ≡ need → break_from named z at (rest d o x) (drop at row) ≡ break_from named z p (rest d o' x) (drop p row)
  pub up : at ≤ p
  pub room : p + (least d o' + need) ≤ 8192

-- what the search answers: where a part ends, or where the row breaks
abbrev pub Sought : Type 0
Sought = Result ℕ ℕ

abbrev pub place_of : Sought → ℕ
place_of = elim [ Ok p ↦ p | Err p ↦ p ]

-- the search from `at` on answers r: where the rest of a node is there, the break is the one from its end on
pub record Seeks (named : Bool) (row : List ℕ) (at d : ℕ) (o : Next) (need : ℕ) (r : Sought) : Type 0 where
  pub breaks : (z : ℕ → Next) (x : Open) → least_all x ≡ need
      → break_from named z at (rest d o x) (drop at row) ≡ pick (is_ok r) (break_from named z (place_of r) x (drop (place_of r) row)) (place_of r)
  pub rises : at ≤ place_of r
  pub low : place_of r ≤ 8192
  pub room : is_ok r ≡ true → place_of r + need ≤ 8192

-- the search for own words has come to what must come after them, or it has found the break
abbrev pub SeeksOwn : List ℕ → ℕ → ℕ → Next → ℕ → Result (ℕ × Due) ℕ → Type 0
SeeksOwn row at d o need (Ok x) = ((named : Bool) → Reaches named row at d o need x.0 (next_due x.1)) × (is_own (next_due x.1) ≡ false)
SeeksOwn row at d o need (Err p) = (named : Bool) → Seeks named row at d o need (Err p)

-- the children of a node may be sought from a place on
abbrev pub Starts : List ℕ → ℕ → ℕ → Next → ℕ → Option (ℕ × ℕ × ℕ) → Type 0
Starts row at d o need (Some x) = (at + (least d o + need) ≤ 8192) × ((named : Bool) → Reaches named row at d o need x.0 (parts 0 x.1 x.2))
Starts row at d o need None = Unit {0}

-- the search for a child of the sort whose tag stands at `at` answers r: where the child is there, the break is the one from its end on
pub record SeeksChild (named : Bool) (row : List ℕ) (at d : ℕ) (s : Sort) (need : ℕ) (r : Sought) : Type 0 where
  pub breaks : (z : ℕ → Next) (x : Open) → least_all x ≡ need
      → pick (leb (at + 1 + (least d (next_of (own_in named s (get_or row at 0))) + need)) 8192) (break_from named z (at + 1) (rest d (next_of (own_in named s (get_or row at 0))) x) (drop (at + 1) row)) at
      ≡ pick (is_ok r) (break_from named z (place_of r) x (drop (place_of r) row)) (place_of r)
  pub rises : at ≤ place_of r
  pub passes : is_ok r ≡ true → at < place_of r
  pub low : place_of r ≤ 8192
  pub room : is_ok r ≡ true → place_of r + need ≤ 8192
