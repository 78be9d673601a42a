-- A row's refusals before its command: 1, 2 and the 8 of its brackets. Assumes nothing.
use mathlib.Core.Path.{◌≡◌, refl, ap, sym, ◌∙◌}
use mathlib.Core.Bool.{Bool, true, false, not, beq}
use mathlib.Core.List.{List, []}
use mathlib.Core.Logic.{⊎_elim}
use mathlib.Core.Option.{Option, none as absent, some}
use Prim.Native.Nat.{ℕ, ◌≤◌, ◌<◌}
use native.Mathlib.Omega.{arith}
use borrow.Author.Tests.{le-leb, lt-leb}
use lib.Dec.{leb}
use lib.IntN.{ℤ}
use lib.ListN.{length, take}
use Rattle.tree.specs.Form.{Form, pick}
use Rattle.tree.specs.Tag.{Sort}
use Rattle.form.specs.Decode.{row_form, Found, found, missing, form_of}
use Rattle.form.specs.Break.{break_at, break_list}
use Rattle.form.specs.Lists.{Entry, list_of}
use Rattle.form.specs.Answer.{Outcome, answer, stop, told, within, of_found, of_list, with_form, needs, check_outcome}
use Rattle.reader.specs.Internal.Reads.{as_expr, of_kind, Listing}
use Rattle.form.specs.declared.answer.Kind.{Kind}
use Rattle.form.specs.declared.answer.Kind.TheVariants.{Either}
use Rattle.form.specs.Answer.{Answer}
use Rattle.std.specs.Prelude.{Ok, Err}
use Rattle.form.specs.declared.answer.ListKind.{ListKind}
use Rattle.form.specs.declared.answer.ListKind.TheVariants as list-of
use Rattle.reader.specs.declared.lists.Table.{Table}
use Rattle.form.proofs.DecodeLaws.{clash}
use Rattle.reader.proofs.CheckLaws.{sort_for, form-of, kind-found}
use Rattle.form.proofs.RowLaws.{row-short, found-exact}
use Rattle.form.proofs.PositionLaws.{of-sort}
use Rattle.tree.proofs.Ranges.{split}
use Rattle.reader.proofs.TableLaws.{listing-no, listing-yes}
use Rattle.spell.specs.Spell.{spells, fits_form, fits_list, fits_names}
use Rattle.line.specs.Line.{list_row}
use Rattle.calls.proofs.CallLaws.{Said, said-no, said_same}
use Rattle.rules.specs.Command.{args_of, kind_of, outcome_of}
use Rattle.rules.specs.declared.command.Args.{Args}
use Rattle.rules.specs.declared.command.Args.TheVariants.{Nothing, Offset, Names, Pairs, Places}
use Rattle.line.specs.declared.line.Part.{Part}
use Rattle.line.specs.declared.line.Parts.{Parts}
use Rattle.reply.specs.Reply.{text_of, spelled_form, spelled_list, spelled_names, spelled_args}
use Rattle.reply.specs.Internal.Parts.{Held, Bare, HeldBoth, form_words, parts_test}
use Rattle.form.specs.declared.answer.Refusal.{Refusal}
use Rattle.form.specs.declared.answer.Refusal.TheVariants.{TooLong, NotACommand, Broken}

-- a test before a command: it passes every outcome on, or refuses them all by one refusal
pub data Gate (g : Outcome → Outcome) : Type 0 where
  passes : ((o : Outcome) → g o ≡ o) → Gate g
  refuses : (n : Refusal) → ((o : Outcome) → g o ≡ stop n) → Gate g

gate-pick : (b : Bool) (n : Refusal) (g : Outcome → Outcome) → Gate g → Gate (λ o. pick b (g o) (stop n))
gate-pick true n g h = h
gate-pick false n g h = refuses n (λ o. refl)

gate-found : (p : ℕ) (x : Found) (g : Outcome → Outcome) → Gate g → Gate (λ o. of_found p (λ s f. g o) x)
gate-found p (found s f) g h = h
gate-found p missing g h = refuses (Broken p) (λ o. refl)

gate-list : (p : ℕ) (x : Option (List Entry)) (g : Outcome → Outcome) → Gate g → Gate (λ o. of_list p (λ es. g o) x)
gate-list p (some es) g h = h
gate-list p absent g h = refuses (Broken p) (λ o. refl)

gate-8 : (b : Bool) → Gate (needs NotACommand b)
gate-8 b = gate-pick b NotACommand (λ o. o) (passes (λ o. refl))

-- a test of a row, whose first refusal is 1
pub record Tests (row : List ℕ) (g : Outcome → Outcome) : Type 0 where
  pub gate : Gate g
  pub long : 8192 < length row → (o : Outcome) → g o ≡ stop TooLong

within-tests : (row : List ℕ) (g : Outcome → Outcome) → Gate g → Tests row (λ o. within row (g o))
within-tests row g h = record { gate = gate-pick (leb (length row) 8192) TooLong g h; long = λ l o. rw (lt-leb (length row) 8192 l) }

pub check-tests : (kind : Kind) (row : List ℕ) → Tests row (λ o. with_form kind row (λ s f. o))
check-tests kind row = within-tests row _ (gate-found (break_at kind row) (form_of kind row) (λ o. o) (passes (λ o. refl)))

pub form-tests : (kind : Kind) (text row : List ℕ) → Tests row (spelled_form kind text row)
unfolding spelled_form
form-tests kind text row = within-tests row _ (gate-found (break_at kind row) (form_of kind row) _ (gate-8 (fits_form text row)))

pub list-tests : (kind : ListKind) (text row : List ℕ) → Tests row (spelled_list kind text row)
unfolding spelled_list
list-tests kind text row = within-tests row _ (gate-list (break_list kind row) (list_of kind row) _ (gate-8 (fits_list kind text row)))

pub names-tests : (text row : List ℕ) → Tests row (spelled_names text row)
unfolding spelled_names
names-tests text row = within-tests row _ (gate-8 (fits_names text row))

-- what a test answers for the empty answer it answers for all
module _ (g : Outcome → Outcome) (r : Answer) (e : r ≡ told (g (answer []))) where
  pub gate-refused : (n : Refusal) → Gate g → r ≡ Err n → (o : Outcome) → g o ≡ stop n
  gate-refused n (passes h) q o = let z = rw (h (answer [])) at e in absurd (clash cc)
  gate-refused n (refuses m h) q o = let z = rw (h (answer [])) at e in let x : m ≡ n = cc in h o ∙ rw x

  pub gate-done : (n : ℕ) → Gate g → r ≡ Ok n → (o : Outcome) → g o ≡ o
  gate-done n (passes h) q o = h o
  gate-done n (refuses m h) q o = let z = rw (h (answer [])) at e in absurd (clash cc)

pub told-long : (row : List ℕ) (g : Outcome → Outcome) → Tests row g → 8192 < length row → (o : Outcome) → Err TooLong ≡ told (g o)
told-long row g t l o = ap told (sym (t.long l o))

-- a form's check, then its 8
module _ (kind : Kind) (row : List ℕ) (b : Bool) (r : Answer) (e : r ≡ told (check_outcome kind row)) where
  pub late-refused : (n : Refusal) → r ≡ Err n → Err n ≡ told (with_form kind row (λ s f. needs NotACommand b (answer [])))
  unfolding check_outcome
  late-refused n q = sym (ap told (gate-refused _ r e n (check-tests kind row).gate q (needs NotACommand b (answer []))))

  pub late-told : (n : ℕ) → r ≡ Ok n → (x : Bool) → x ≡ b → told (needs NotACommand x (answer [])) ≡ told (with_form kind row (λ s f. needs NotACommand b (answer [])))
  unfolding check_outcome
  late-told n q x t = rw t (sym (ap told (gate-done _ r e n (check-tests kind row).gate q (needs NotACommand b (answer [])))))

not-other : (x y : Bool) → not (beq x y) ≡ false → x ≡ y
not-other true true e = refl
not-other true false e = absurd (clash cc)
not-other false true e = absurd (clash cc)
not-other false false e = refl

fits-found : (x : Bool) (text : List ℕ) (o : Found) → pick x (spells text o) false ≡ true → (s : Sort) × (f : Form) × (o ≡ found s f)
fits-found x text (found s f) e = (s, f, refl)
fits-found true text missing e = absurd (clash cc)
fits-found false text missing e = absurd (clash cc)

module _ (kind : Kind) (text row : List ℕ) where
  pub late-row : (b : Bool) → b ≡ fits_form text row → told (with_form kind row (λ s f. needs NotACommand b (answer []))) ≡ told (spelled_form kind text row (answer []))
  unfolding spelled_form
  late-row b t = rw t

  form-there : true ≡ fits_form text row → (s : Sort) × (f : Form) × (form_of Either row ≡ found s f)
  unfolding fits_form
  form-there t = fits-found (leb (length text) 65535) text (form_of Either row) (sym t)

  pub late-fits : true ≡ fits_form text row → (x y : Bool) → x ≡ as_expr kind row → y ≡ as_expr Either row → not (beq x y) ≡ false → of_kind kind row ≡ true → Ok 0 ≡ told (spelled_form kind text row (answer []))
  unfolding spelled_form
  late-fits t x y h k e i =
      let (s, f, o) = form-there t in
      let one = found-exact Either row s f o in
      let sort : sort_for (as_expr kind row) ≡ s = rw (← h, not-other x y e) (of-sort (sort_for y) s (row_form (sort_for y) row) f (sym (form-of Either row y k) ∙ o)) in
      rw (le-leb (length row) 8192 (row-short s row f one), kind-found kind row s f sort one i, sym t) refl

-- a list's
module _ (kind : ListKind) (text row : List ℕ) (short : length row ≤ 8192) (u v : Table) (a b : List ℕ) (ok : Bool) (t : Listing (list_of kind row) u v a b ok) where
  pub list-none : ok ≡ false → (q : ℕ) → q ≡ break_list kind row → Err (Broken q) ≡ told (spelled_list kind text row (answer []))
  unfolding spelled_list
  list-none e q k = rw (le-leb (length row) 8192 short, listing-no _ _ _ _ _ _ t e, k)

  pub list-told : ok ≡ true → (c : Bool) → c ≡ fits_list kind text row → told (needs NotACommand c (answer [])) ≡ told (spelled_list kind text row (answer []))
  unfolding spelled_list
  list-told e c f = let (es, o, r, m) = listing-yes _ _ _ _ _ _ t e in rw (le-leb (length row) 8192 short, o, f)

-- the names'
pub names-told : (text row : List ℕ) → length row ≤ 8192 → (c : Bool) → c ≡ fits_names text row → told (needs NotACommand c (answer [])) ≡ told (spelled_names text row (answer []))
unfolding spelled_names
names-told text row short c f = rw (le-leb (length row) 8192 short, f)

-- the words of a part at the front of its row
module _ (line row ws : List ℕ) (p : Part) (h : Held line row ws p) where
  pub held-long : 8192 < p.count → 8192 < length ws
  held-long l = let c = h.counted in omega arith

  pub held-row : p.count ≤ 8192 → take p.count row ≡ ws
  held-row l = let c = h.counted in rw c (h.front (omega arith))

  pub held_fits : p.count ≤ 8192 → p.count ≤ length row
  held_fits l = let c = h.room in omega arith

pub row-holds : (line row ws : List ℕ) (p : Part) → Held line row ws p → (n : ℕ) → n ≤ 8192 → n ≤ length row
row-holds line row ws p h n l = let c = h.room in omega arith

-- one test after another
after-gate : (f g : Outcome → Outcome) → Gate f → Gate g → Gate (λ o. f (g o))
after-gate f g (refuses m h) k = refuses m (λ o. h (g o))
after-gate f g (passes h) (passes k) = passes (λ o. h (g o) ∙ k o)
after-gate f g (passes h) (refuses m k) = refuses m (λ o. h (g o) ∙ k o)

pub test-no : (row : List ℕ) (g : Outcome → Outcome) → Tests row g → (r : Answer) → r ≡ told (g (answer [])) → (n : Refusal) → r ≡ Err n → (o : Outcome) → Err n ≡ told (g o)
test-no row g t r e n q o = sym (ap told (gate-refused g r e n t.gate q o))

pub test-yes : (row : List ℕ) (g : Outcome → Outcome) → Tests row g → (r : Answer) → r ≡ told (g (answer [])) → (n : ℕ) → r ≡ Ok n → (o : Outcome) (r' : Answer) → r' ≡ told o → r' ≡ told (g o)
test-yes row g t r e n q o r' k = k ∙ sym (ap told (gate-done g r e n t.gate q o))

-- a command's list
pub args-gate : (x : Args) (text list : List ℕ) → Gate (spelled_args x text list)
args-gate Nothing text list = passes (λ o. refl)
args-gate Offset text list = passes (λ o. refl)
args-gate Names text list = (names-tests text list).gate
args-gate Pairs text list = (list-tests list-of.Pairs text list).gate
args-gate Places text list = (list-tests list-of.Places text list).gate

test_short : (row : List ℕ) (g : Outcome → Outcome) → Tests row g → (r : Answer) (n : ℕ) → r ≡ told (g (answer [])) → r ≡ Ok n → length row ≤ 8192
test_short row g t r n e q = ⊎_elim (λ low. omega arith) (λ high. absurd (clash (let z = told-long row g t (omega arith) (answer []) in cc))) (split 8193 (length row))

args-short : (x : Args) (text list : List ℕ) → Bare x list → (r : Answer) (n : ℕ) → r ≡ told (spelled_args x text list (answer [])) → r ≡ Ok n → length list ≤ 8192
args-short Nothing text list b r n e q = rw b (omega arith)
args-short Offset text list b r n e q = rw b (omega arith)
args-short Names text list b r n e q = test_short list _ (names-tests text list) r n e q
args-short Pairs text list b r n e q = test_short list _ (list-tests list-of.Pairs text list) r n e q
args-short Places text list b r n e q = test_short list _ (list-tests list-of.Places text list) r n e q

-- a command after its checks
module _ (line : List ℕ) (p : Parts) (r : Answer) (e : r ≡ told (parts_test line p (answer []))) where
  parts-tests : Tests (form_words line) (parts_test line p)
  parts-tests =
      let t = form-tests (kind_of p.command) (text_of line p.form) (form_words line) in
      record { gate = after-gate _ _ t.gate (args-gate (args_of p.command) (text_of line p.list) (list_row line)); long = λ l o. t.long l _ }

  pub parts-refused : (n : Refusal) → r ≡ Err n → (o : Outcome) (result : List ℕ) → Said (Err n) (parts_test line p o) result result
  parts-refused n q o result = said-no _ n result (gate-refused _ r e n parts-tests.gate q o)

  module _ (n : ℕ) (q : r ≡ Ok n) where
    -- the list's checks pass too
    listed : r ≡ told (spelled_args (args_of p.command) (text_of line p.list) (list_row line) (answer []))
    listed = go (form-tests (kind_of p.command) (text_of line p.form) (form_words line)).gate
      where
        go : Gate (spelled_form (kind_of p.command) (text_of line p.form) (form_words line)) → r ≡ told (spelled_args (args_of p.command) (text_of line p.list) (list_row line) (answer []))
        go (passes h) = e ∙ ap told (h _)
        go (refuses m h) = let z = rw h at e in absurd (clash cc)

    module _ (z : ℤ) (list row : List ℕ) (held : HeldBoth line list row p) (work room a b : ℕ) (la : p.list.count ≤ 8192 → a ≡ p.list.count) (lb : p.form.count ≤ 8192 → b ≡ p.form.count) where
      form-part : take b row ≡ form_words line
      form-part =
          let s = test_short (form_words line) _ parts-tests r n e q in
          let c = held.formed.counted in
          let k : p.form.count ≤ 8192 = omega arith in
          rw (lb k) (held-row line row (form_words line) p.form held.formed k)

      list-part : take a list ≡ list_row line
      list-part =
          let s = args-short (args_of p.command) (text_of line p.list) (list_row line) held.bare r n listed q in
          let c = held.listed.counted in
          let k : p.list.count ≤ 8192 = omega arith in
          rw (la k) (held-row line list (list_row line) p.list held.listed k)

      run_is : outcome_of p.command z (take a list) (take b row) work room ≡ parts_test line p (outcome_of p.command z (list_row line) (form_words line) work room)
      run_is = rw (form-part, list-part) (sym (gate-done _ r e n parts-tests.gate q _))

      pub parts-passed : (r' : Answer) (result result' : List ℕ) → Said r' (outcome_of p.command z (take a list) (take b row) work room) result result'
          → Said r' (parts_test line p (outcome_of p.command z (list_row line) (form_words line) work room)) result result'
      parts-passed r' result result' h = said_same _ _ r' result result' run_is h
