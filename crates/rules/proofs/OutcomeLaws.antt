-- What holds of every outcome, by the parts that outcomes are made of: a refusal has a number from 1 on and a position of at most 8,192, which only
-- a refusal by 2 has. And of the outcome of every command: an answer is the row of one form. Assumes nothing.
use mathlib.Core.Path.{◌≡◌, refl}
use mathlib.Core.Bool.{Bool, true, false, not}
use mathlib.Core.List.{List, [], ◌∷◌, map}
use mathlib.Core.Option.{Option, none as absent, some}
use Prim.Native.Nat.{ℕ, suc, ◌+◌, ◌≤◌}
use native.Mathlib.Omega.{arith}
use borrow.Author.Tests.{leb-true}
use lib.Dec.{leb, eqb}
use lib.IntN.{ℤ}
use lib.ListN.{length}
use Rattle.tree.specs.Form.{Form, pick, encode}
use Rattle.tree.specs.Tag.{Sort, pred, expr}
use Rattle.form.specs.Decode.{Whole, one, not-one, row_form, Found, found, missing, form_of}
use Rattle.form.specs.Break.{Next, Open, least_all, after, break_from, break_sort, break_either, break_at, break_list, entry_next}
use Rattle.form.specs.Lists.{Entry, word_of, list_of, good_names}
use Rattle.form.specs.Answer.{Outcome, answer, stop, of_found, of_list, with_form, with_list, needs, is_one, finish}
use Rattle.form.specs.declared.answer.Kind.{Kind}
use Rattle.form.specs.declared.answer.Kind.TheVariants.{Either, Expression, Predicate, Named as NamedRow}
use Rattle.form.specs.declared.answer.ListKind.{ListKind}
use Rattle.form.specs.declared.answer.ListKind.TheVariants.{Pairs, Places}
use Rattle.form.proofs.RowLaws.{found-exact, row_one}
use Rattle.rules.specs.Shift.{shift, of_shifted, shift_outcome}
use Rattle.rules.specs.Bind.{bind, bind_outcome}
use Rattle.rules.specs.Free.{substitute, free_outcome}
use Rattle.rules.specs.Fill.{Decl, Quantified, quantifier, other, quantified, kept_count, fill, of_quantified, places_for, fill_outcome}
use Rattle.rules.specs.Prune.{used_places, prune, prune_outcome}
use Rattle.rules.specs.Point.{of_result, one_point, point_outcome}
use Rattle.rules.specs.Member.{membership, member_outcome}
use Rattle.rules.specs.Named.{nameless, named_outcome}
use Rattle.rules.specs.Command.{outcome_of, numbered, of_numbered, number_outcome}
use Rattle.rules.specs.declared.command.Command.{Command}
use Rattle.rules.specs.declared.command.Command.TheVariants.{Shift, Free, Bind, Fill, Prune, Point, Member, Named}
use Rattle.form.specs.Refusal.{number_of, position_of}
use Rattle.form.specs.declared.answer.Refusal.{Refusal}
use Rattle.form.specs.declared.answer.Refusal.TheVariants.{TooLong, NotQuantified, BadNames, TooManyPlaces, Captured, OutOfLimits, NotACommand, NothingToRewrite, NoEquality, NoDeclaration, NotAbove, AlreadyFilled, OutputTooShort, WorkTooShort, Broken}
use Rattle.std.specs.Prelude.{Option as Maybe, Some, None}

-- where a row breaks
break-by : (named : Bool) (z : ℕ → Next) (at : ℕ) (x : Open) (ws : List ℕ) → at ≤ 8192 → break_from named z at x ws ≤ 8192
unfolding break_from
break-by named z at x [] h = h
break-by named z at x (w ∷ ws) h = go (leb (suc at + least_all (after named z x w)) 8192) refl (λ k. break-by named z (suc at) (after named z x w) ws k)
  where
    go : (b : Bool) → leb (suc at + least_all (after named z x w)) 8192 ≡ b → (suc at ≤ 8192 → break_from named z (suc at) (after named z x w) ws ≤ 8192) → pick b (break_from named z (suc at) (after named z x w) ws) at ≤ 8192
    go true e f = let k = leb-true (suc at + least_all (after named z x w)) 8192 e in f (omega arith)
    go false e f = h

sort-low : (named : Bool) (s : Sort) (row : List ℕ) → break_sort named s row ≤ 8192
sort-low named s row = break-by named _ 0 _ row (omega arith)

later-low : (b : Bool) (m n : ℕ) → m ≤ 8192 → n ≤ 8192 → pick b m n ≤ 8192
later-low true m n h k = h
later-low false m n h k = k

either-low : (named : Bool) (row : List ℕ) → break_either named row ≤ 8192
either-low named row =
    later-low (leb (break_sort named expr row) (break_sort named pred row)) (break_sort named pred row) (break_sort named expr row) (sort-low named pred row) (sort-low named expr row)

pub break-low : (kind : Kind) (row : List ℕ) → break_at kind row ≤ 8192
unfolding break_at
break-low Expression row = sort-low false expr row
break-low Predicate row = sort-low false pred row
break-low Either row = either-low false row
break-low NamedRow row = either-low true row

break-list-low : (kind : ListKind) (row : List ℕ) → break_list kind row ≤ 8192
unfolding break_list
break-list-low kind row = break-by false (entry_next kind) 0 _ row (omega arith)

-- the number and the position of a refusal
pub record Refused (k p : ℕ) : Type 0 where
  pub numbered : 1 ≤ k
  pub low : p ≤ 8192
  pub only_two : (k ≡ 2 → ⊥) → p ≡ 0

-- what holds of an outcome whose answers are of a kind
abbrev pub Settled : (List ℕ → Type 0) → Outcome → Type 0
Settled P (answer ws) = P ws
Settled P (stop r) = Refused (number_of r) (position_of r)

pub settled-map : (P Q : List ℕ → Type 0) → ((ws : List ℕ) → P ws → Q ws) → (o : Outcome) → Settled P o → Settled Q o
settled-map P Q f (answer ws) h = f ws h
settled-map P Q f (stop k) h = h

has-number : (r : Refusal) → 1 ≤ number_of r
has-number TooLong = omega arith
has-number (Broken p) = omega arith
has-number NotQuantified = omega arith
has-number BadNames = omega arith
has-number TooManyPlaces = omega arith
has-number Captured = omega arith
has-number OutOfLimits = omega arith
has-number NotACommand = omega arith
has-number NothingToRewrite = omega arith
has-number NoEquality = omega arith
has-number NoDeclaration = omega arith
has-number NotAbove = omega arith
has-number AlreadyFilled = omega arith
has-number OutputTooShort = omega arith
has-number WorkTooShort = omega arith

no-position : (r : Refusal) → position_of r ≡ 0 → Refused (number_of r) (position_of r)
no-position r h = record { numbered = has-number r; low = omega (arith, h); only_two = λ n. h }

broke : (p : ℕ) → p ≤ 8192 → Refused (number_of (Broken p)) p
broke p h = record { numbered = omega arith; low = h; only_two = λ n. absurd (n refl) }

-- the parts
module _ (P : List ℕ → Type 0) where
  pub refused : (r : Refusal) → position_of r ≡ 0 → Settled P (stop r)
  refused r h = no-position r h

  pub tested : (r : Refusal) → position_of r ≡ 0 → (b : Bool) (o : Outcome) → Settled P o → Settled P (needs r b o)
  tested k n true o h = h
  tested k n false o h = refused k n

  pub form-settled : (kind : Kind) (row : List ℕ) (go : Sort → Form → Outcome) → ((s : Sort) (f : Form) → row_form s row ≡ one f → Settled P (go s f)) → Settled P (with_form kind row go)
  form-settled kind row go h = tested TooLong refl (leb (length row) 8192) (of_found (break_at kind row) go (form_of kind row)) (by (form_of kind row) refl)
    where
      by : (o : Found) → form_of kind row ≡ o → Settled P (of_found (break_at kind row) go o)
      by (found s f) e = h s f (found-exact kind row s f e)
      by missing e = broke (break_at kind row) (break-low kind row)

  pub list-settled : (kind : ListKind) (row : List ℕ) (go : List Entry → Outcome) → ((es : List Entry) → Settled P (go es)) → Settled P (with_list kind row go)
  list-settled kind row go h = tested TooLong refl (leb (length row) 8192) (of_list (break_list kind row) go (list_of kind row)) (by (list_of kind row))
    where
      by : (o : Option (List Entry)) → Settled P (of_list (break_list kind row) go o)
      by (some es) = h es
      by absent = broke (break_list kind row) (break-list-low kind row)

  quantified-settled : (go : ℕ → List Decl → Form → Outcome) (r : Refusal) → position_of r ≡ 0 → (q : Quantified) → ((t : ℕ) (ns : List Decl) (b : Form) → Settled P (go t ns b)) → Settled P (of_quantified go r q)
  quantified-settled go k n (quantifier t ns b) h = h t ns b
  quantified-settled go k n other h = refused k n

-- the row of one form
abbrev pub OneForm : List ℕ → Type 0
OneForm ws = (s : Sort) × (f : Form) × (row_form s ws ≡ one f)

pub one-short : (ws : List ℕ) → OneForm ws → length ws ≤ 8192
one-short ws (s, f, e) = (row_one s ws f e).0

pub finished : (s : Sort) (room : ℕ) (g : Form) → Settled OneForm (finish s room g)
unfolding finish
finished s room g = by (row_form s (encode g)) refl (leb (length (encode g)) room)
  where
    by : (x : Whole) → row_form s (encode g) ≡ x → (b : Bool) → Settled OneForm (needs OutOfLimits (is_one x) (needs OutputTooShort b (answer (encode g))))
    by (one f) e true = (s, f, e)
    by (one f) e false = no-position OutputTooShort refl
    by not-one e b = no-position OutOfLimits refl

-- the commands
shift-settled : (row : List ℕ) (z : ℤ) (room : ℕ) → Settled OneForm (shift_outcome row z room)
unfolding shift_outcome
shift-settled row z room = form-settled OneForm Either row _ (λ s f e. by s (shift z f))
  where
    by : (s : Sort) (g : Option Form) → Settled OneForm (of_shifted s room g)
    by s (some g) = finished s room g
    by s absent = no-position Captured refl

free-settled : (list row : List ℕ) (work room : ℕ) → Settled OneForm (free_outcome list row work room)
unfolding free_outcome
free-settled list row work room =
    tested OneForm WorkTooShort refl (leb 16384 work) _
    (form-settled OneForm Either row _ (λ s f e. list-settled OneForm Pairs list _ (λ es. tested OneForm BadNames refl (good_names (map word_of es)) _ (finished s room (substitute es f)))))

bind-settled : (names row : List ℕ) (room : ℕ) → Settled OneForm (bind_outcome names row room)
unfolding bind_outcome
bind-settled names row room =
    form-settled OneForm Either row _
    (λ s f e. tested OneForm TooLong refl (leb (length names) 8192) _ (tested OneForm BadNames refl (good_names names) _ (finished s room (bind names f))))

fill-settled : (list row : List ℕ) (work room : ℕ) → Settled OneForm (fill_outcome list row work room)
unfolding fill_outcome
fill-settled list row work room =
    tested OneForm WorkTooShort refl (leb 16384 work) _
    (form-settled OneForm Predicate row _
    (λ s f e. list-settled OneForm Places list _ (λ es. quantified-settled OneForm _ NotQuantified refl (quantified f) (λ t ns b. tested OneForm TooManyPlaces refl (leb (length es) (length ns)) _ (finished pred room (fill t ns (places_for (length ns) es) b))))))

prune-settled : (row : List ℕ) (room : ℕ) → Settled OneForm (prune_outcome row room)
unfolding prune_outcome
prune-settled row room =
    form-settled OneForm Predicate row _
    (λ s f e. quantified-settled OneForm _ NotQuantified refl (quantified f) (λ t ns b. tested OneForm NothingToRewrite refl (not (eqb (kept_count (used_places ns b)) (length ns))) _ (finished pred room (prune t ns b))))

result-settled : (room : ℕ) (o : Option Form) → Settled OneForm (of_result room o)
result-settled room (some g) = finished pred room g
result-settled room absent = no-position NothingToRewrite refl

point-settled : (row : List ℕ) (work room : ℕ) → Settled OneForm (point_outcome row work room)
unfolding point_outcome
point-settled row work room =
    tested OneForm WorkTooShort refl (leb 16384 work) _ (form-settled OneForm Predicate row _ (λ s f e. result-settled room (one_point f)))

member_settled : (row : List ℕ) (work room : ℕ) → Settled OneForm (member_outcome row work room)
unfolding member_outcome
member_settled row work room =
    tested OneForm WorkTooShort refl (leb 16384 work) _ (form-settled OneForm Predicate row _ (λ s f e. result-settled room (membership f)))

named-settled : (row : List ℕ) (room : ℕ) → Settled OneForm (named_outcome row room)
unfolding named_outcome
named-settled row room = form-settled OneForm NamedRow row _ (λ s f e. finished s room (nameless [] f))

pub outcome-settled : (c : Command) (z : ℤ) (list row : List ℕ) (work room : ℕ) → Settled OneForm (outcome_of c z list row work room)
outcome-settled Shift z list row work room = shift-settled row z room
outcome-settled Free z list row work room = free-settled list row work room
outcome-settled Bind z list row work room = bind-settled list row room
outcome-settled Fill z list row work room = fill-settled list row work room
outcome-settled Prune z list row work room = prune-settled row room
outcome-settled Point z list row work room = point-settled row work room
outcome-settled Member z list row work room = member_settled row work room
outcome-settled Named z list row work room = named-settled row room

pub number-settled : (n : ℕ) (z : ℤ) (list row : List ℕ) (work room : ℕ) → Settled OneForm (number_outcome n z list row work room)
unfolding number_outcome
number-settled n z list row work room = by (numbered n)
  where
    by : (x : Maybe Command) → Settled OneForm (of_numbered x z list row work room)
    by (Some c) = outcome-settled c z list row work room
    by None = no-position NotACommand refl
