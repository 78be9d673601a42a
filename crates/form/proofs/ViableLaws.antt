-- Where a row breaks, without a word of how it is found. Words are viable where some acceptable row begins with them; parsing calls them a
-- viable prefix. The words before the break are viable, with the word at the break they are not, and an accepted row has no break before its
-- end. Only one number is such a break (`row-break-only`, `list-break-only`), so these theorems fix it without a look at its definition. Assumes
-- nothing.
use mathlib.Core.Path.{◌≡◌, refl, sym}
use mathlib.Core.Bool.{Bool, true, false}
use mathlib.Core.List.{List, [], ◌∷◌, ◌++◌, append-nil, append_assoc}
use mathlib.Core.Option.{Option, none as absent, some}
use Prim.Native.Nat.{ℕ, suc, ◌+◌, ◌≤◌, ◌<◌}
use native.Mathlib.Nat.{le_refl}
use native.Mathlib.Omega.{arith}
use borrow.Author.Tests.{leb-true, leb-false}
use lib.Dec.{leb}
use lib.ListN.{length, take, drop, take-append-drop}
use lib.Seq.{take-length, take-take}
use Rattle.tree.specs.Form.{Form, pick}
use Rattle.tree.specs.Tag.{Sort, expr, pred}
use Rattle.form.specs.Decode.{Found, found, missing, form_of}
use Rattle.form.specs.Lists.{Entry, list_of}
use Rattle.form.specs.Break.{Next, Open, least_all, after, break_from, break_sort, break_either, break_at, break_list}
use Rattle.form.specs.declared.answer.Kind.{Kind}
use Rattle.form.specs.declared.answer.Kind.TheVariants.{Expression, Predicate, Either, Named}
use Rattle.form.specs.declared.answer.ListKind.{ListKind}
use Rattle.form.proofs.DecodeLaws.{clash}
use Rattle.form.proofs.RowLaws.{found-exact, at_most_one, no_longer}
use Rattle.form.proofs.PositionLaws.{row-goes-on, row-breaks}
use Rattle.form.proofs.ListPositionLaws.{list-goes-on, list-breaks}

-- words that some form of the kind, or some list of the kind, begins with
abbrev pub Viable : Kind → List ℕ → Type 0
Viable kind ws = (v : List ℕ) × (s : Sort) × (f : Form) × (form_of kind (ws ++ v) ≡ found s f)

abbrev pub ViableList : ListKind → List ℕ → Type 0
ViableList kind ws = (v : List ℕ) × (es : List Entry) × (length (ws ++ v) ≤ 8192) × (list_of kind (ws ++ v) ≡ some es)

-- the row breaks at n: the words before n are viable, and with the word at n, if there is one, they are not
pub record BreaksAt (viable : List ℕ → Type 0) (row : List ℕ) (n : ℕ) : Type 0 where
  pub within : n ≤ length row
  pub before : viable (take n row)
  pub there : n < length row → viable (take (suc n) row) → ⊥

-- where the beginning of viable words is viable, a row breaks at one place only
module _ (viable : List ℕ → Type 0) (shorter : (a b : List ℕ) → viable (a ++ b) → viable a) (row : List ℕ) where
  no-later : (n m : ℕ) → BreaksAt viable row n → BreaksAt viable row m → n < m → ⊥
  no-later n m x y h =
      let l = y.within in
      let front = take-take (suc n) m row h in
      let whole = take-append-drop (suc n) (take m row) in
      x.there (omega arith) (shorter (take (suc n) row) (drop (suc n) (take m row)) (rw (← front, whole) y.before))

  pub one-break : (n m : ℕ) → BreaksAt viable row n → BreaksAt viable row m → n ≡ m
  one-break n m x y = go (leb n m) refl (leb m n) refl
    where
      go : (b : Bool) → leb n m ≡ b → (d : Bool) → leb m n ≡ d → n ≡ m
      go true e true f = let h = leb-true n m e in let k = leb-true m n f in omega arith
      go true e false f = absurd (no-later n m x y (leb-false m n f))
      go false e d f = absurd (no-later m n y x (leb-false n m e))

viable-shorter : (kind : Kind) (a b : List ℕ) → Viable kind (a ++ b) → Viable kind a
viable-shorter kind a b (v, s, f, e) = (b ++ v, s, f, rw (← append_assoc a b v) e)

viable-list-shorter : (kind : ListKind) (a b : List ℕ) → ViableList kind (a ++ b) → ViableList kind a
viable-list-shorter kind a b (v, es, l, e) = (b ++ v, es, rw (← append_assoc a b v) l, rw (← append_assoc a b v) e)

-- no break stands past the end of the row
break-within : (named : Bool) (z : ℕ → Next) (at : ℕ) (x : Open) (ws : List ℕ) → break_from named z at x ws ≤ at + length ws
unfolding break_from
break-within named z at x [] = omega arith
break-within named z at x (w ∷ ws) = go (leb (suc at + least_all (after named z x w)) 8192) (break-within named z (suc at) (after named z x w) ws)
  where
    go : (b : Bool) → break_from named z (suc at) (after named z x w) ws ≤ suc at + length ws → pick b (break_from named z (suc at) (after named z x w) ws) at ≤ at + length (w ∷ ws)
    go true h = omega arith
    go false h = omega arith

from_start : (named : Bool) (z : ℕ → Next) (x : Open) (row : List ℕ) → break_from named z 0 x row ≤ length row
from_start named z x row = let h : break_from named z 0 x row ≤ 0 + length row = break-within named z 0 x row in omega arith

sort-within : (named : Bool) (s : Sort) (row : List ℕ) → break_sort named s row ≤ length row
sort-within named s row = from_start _ _ _ row

either-within : (named : Bool) (row : List ℕ) → break_either named row ≤ length row
either-within named row = go (leb (break_sort named expr row) (break_sort named pred row))
  where
    go : (b : Bool) → pick b (break_sort named pred row) (break_sort named expr row) ≤ length row
    go true = sort-within named pred row
    go false = sort-within named expr row

row_within : (kind : Kind) (row : List ℕ) → break_at kind row ≤ length row
unfolding break_at
row_within Expression row = sort-within false expr row
row_within Predicate row = sort-within false pred row
row_within Either row = either-within false row
row_within Named row = either-within true row

list-within : (kind : ListKind) (row : List ℕ) → break_list kind row ≤ length row
unfolding break_list
list-within kind row = from_start _ _ _ row

-- what it means that a row breaks there, of forms and of lists
pub row-breaks-at : (kind : Kind) (row : List ℕ) → BreaksAt (Viable kind) row (break_at kind row)
row-breaks-at kind row = record { within = row_within kind row; before = row-goes-on kind row; there = λ h (v, s, f, e). clash-found (row-breaks kind row h v) e }
  where
    clash-found : {o : Found} {s : Sort} {f : Form} → o ≡ missing → o ≡ found s f → ⊥
    clash-found a b = clash cc

pub list-breaks-at : (kind : ListKind) (row : List ℕ) → BreaksAt (ViableList kind) row (break_list kind row)
list-breaks-at kind row = record { within = list-within kind row; before = list-goes-on kind row; there = λ h (v, es, l, e). clash-some (list-breaks kind row h v l) e }
  where
    clash-some : {o : Option (List Entry)} {es : List Entry} → o ≡ absent → o ≡ some es → ⊥
    clash-some a b = clash cc

-- no other number is such a place
pub row-break-only : (kind : Kind) (row : List ℕ) (n : ℕ) → BreaksAt (Viable kind) row n → n ≡ break_at kind row
row-break-only kind row n x = one-break (Viable kind) (viable-shorter kind) row n (break_at kind row) x (row-breaks-at kind row)

pub list-break-only : (kind : ListKind) (row : List ℕ) (n : ℕ) → BreaksAt (ViableList kind) row n → n ≡ break_list kind row
list-break-only kind row n x = one-break (ViableList kind) (viable-list-shorter kind) row n (break_list kind row) x (list-breaks-at kind row)

-- an accepted row has no such place: it breaks nowhere before its end
at-end : (viable : List ℕ → Type 0) (row : List ℕ) → viable row → BreaksAt viable row (length row)
at-end viable row h = record { within = le_refl (length row); before = rw (take-length row) h; there = λ l. absurd (omega arith) }

pub row-unbroken : (kind : Kind) (row : List ℕ) (s : Sort) (f : Form) → form_of kind row ≡ found s f → break_at kind row ≡ length row
row-unbroken kind row s f e = sym (row-break-only kind row (length row) (at-end (Viable kind) row ([], s, f, rw (append-nil row) e)))

-- a form that breaks nowhere before its end as a named row has no index
pub named-unbroken : (row : List ℕ) (s : Sort) (f : Form) → form_of Either row ≡ found s f → break_at Named row ≡ length row → form_of Named row ≡ found s f
named-unbroken row s f e q =
    let (v, s', g, k) = row-goes-on Named row in
    let longer : form_of Named (row ++ v) ≡ found s' g = rw (q, take-length row) at k in
    let none = no_longer row v s s' f g (found-exact Either row s f e) (found-exact Named (row ++ v) s' g longer) in
    let named : form_of Named row ≡ found s' g = rw (none, append-nil row) at longer in
    let (same, form) = at_most_one Either Named row s s' f g e named in
    rw (same, form) named

pub list-unbroken : (kind : ListKind) (row : List ℕ) (es : List Entry) → length row ≤ 8192 → list_of kind row ≡ some es → break_list kind row ≡ length row
list-unbroken kind row es l e = sym (list-break-only kind row (length row) (at-end (ViableList kind) row ([], es, rw (append-nil row) l, rw (append-nil row) e)))
