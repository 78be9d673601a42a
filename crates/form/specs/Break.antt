-- Where a row breaks: the position of the first word at which no row of the kind can go on within the limits, or the row's length. It goes word
-- by word, with what must still come and the fewest words that this takes.
use Rattle.std.specs.Prelude.{Bool, true, false, ◌&&◌, List, [], ◌∷◌, ℕ, zero, suc, ◌+◌, ◌-◌, ◌*◌, leb, eqb}
use Rattle.tree.specs.Form.{pick, between}
use Rattle.tree.specs.Tag.{Sort, expr, pred, Own, ask, kids, flags, wrong, own}
use Rattle.form.specs.declared.answer.Kind.{Kind}
use Rattle.form.specs.declared.answer.Kind.TheVariants.{Expression, Predicate, Either, Named}
use Rattle.form.specs.declared.answer.ListKind.{ListKind}
use Rattle.form.specs.declared.answer.ListKind.TheVariants.{Pairs, Places}

-- what must still come of a node: a word between limits, and what follows it; an annotation, and what follows it; names, predicates and
-- expressions, so many of each; what cannot come
pub data Next : Type 0 where
  word : ℕ → ℕ → (ℕ → Next) → Next
  note : Next → Next
  parts : ℕ → ℕ → ℕ → Next
  never : Next

-- declarations with flags, by whether an annotation came: the last flag is 1 if none did
abbrev pub low_flag : Bool → ℕ → ℕ
low_flag true n = 0
low_flag false zero = 1
low_flag false (suc n) = 0

unfoldable pub decls_next : Bool → ℕ → ℕ → ℕ → Next
decls_next came zero p e = pick came (parts 0 p e) never
decls_next came (suc n) p e =
    word 0 65535 (λ name. word (low_flag came n) 1 (λ flag. pick (eqb flag 0) (decls_next came n p e) (note (decls_next true n p e))))

unfoldable pub next_of : Own → Next
next_of (ask lo hi k) = word lo hi (λ w. next_of (k w))
next_of (kids n p e) = parts n p e
next_of (flags n p e) = decls_next false n p e
next_of wrong = never

-- what follows a tag; in a named row the tag of an index is none
abbrev pub own_in : Bool → Sort → ℕ → Own
own_in named s t = pick (named && eqb t 2) wrong (own s t)

-- what must still come of the nodes that are open, the innermost first: how deep its children may be, and its rest
pub data Open : Type 0 where
  nothing : Open
  rest : ℕ → Next → Open → Open

-- the fewest words of a form at most so deep: one, or more than a row has
abbrev pub least_form : ℕ → ℕ
least_form zero = 8193
least_form (suc d) = 1

unfoldable pub least : ℕ → Next → ℕ
least d (word lo hi k) = suc (least d (k lo))
least d (note k) = least_form d + least d k
least d (parts n p e) = n + (p + e) * least_form d
least d never = 8193

unfoldable pub least_all : Open → ℕ
least_all nothing = 0
least_all (rest d o x) = least d o + least_all x

-- what must come after the next word, in a named row or in another; where nothing is open, z says it
unfoldable pub after : Bool → (ℕ → Next) → Open → ℕ → Open
after named z nothing w = rest 64 (z w) nothing
after named z (rest d (word lo hi k) x) w = rest d (pick (between lo hi w) (k w) never) x
after named z (rest d (note k) x) w = rest (d - 1) (next_of (own_in named expr w)) (rest d k x)
after named z (rest d (parts (suc n) p e) x) w = rest d (pick (between 0 65535 w) (parts n p e) never) x
after named z (rest d (parts zero (suc p) e) x) w = rest (d - 1) (next_of (own_in named pred w)) (rest d (parts zero p e) x)
after named z (rest d (parts zero zero (suc e)) x) w = rest (d - 1) (next_of (own_in named expr w)) (rest d (parts zero zero e) x)
after named z (rest d (parts zero zero zero) x) w = after named z x w
after named z (rest d never x) w = rest d never x

-- from a position on: a word is taken if what must come after it has room
unfoldable pub break_from : Bool → (ℕ → Next) → ℕ → Open → List ℕ → ℕ
break_from named z at x [] = at
break_from named z at x (w ∷ ws) = pick (leb (suc at + least_all (after named z x w)) 8192) (break_from named z (suc at) (after named z x w) ws) at

abbrev pub break_sort : Bool → Sort → List ℕ → ℕ
break_sort named s row = break_from named (λ w. never) 0 (rest 64 (elim s [ expr ↦ parts 0 0 1 | pred ↦ parts 0 1 0 ]) nothing) row

abbrev pub break_either : Bool → List ℕ → ℕ
break_either named row = pick (leb (break_sort named expr row) (break_sort named pred row)) (break_sort named pred row) (break_sort named expr row)

unfoldable pub break_at : Kind → List ℕ → ℕ
break_at Expression row = break_sort false expr row
break_at Predicate row = break_sort false pred row
break_at Either row = break_either false row
break_at Named row = break_either true row

-- a list has any number of entries
abbrev pub entry_next : ListKind → ℕ → Next
entry_next Pairs w = parts 0 0 1
entry_next Places w = pick (leb w 1) (parts 0 0 w) never

unfoldable pub break_list : ListKind → List ℕ → ℕ
break_list kind row = break_from false (entry_next kind) 0 nothing row
