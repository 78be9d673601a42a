-- The words that a plan makes, checked and answered. Assumes nothing.
use mathlib.Core.Path.{◌≡◌, refl, ap, sym, ◌∙◌}
use mathlib.Core.Bool.{Bool, true, false}
use mathlib.Core.List.{List, ◌++◌}
use Prim.Native.Nat.{ℕ, ◌+◌, ◌-◌, ◌≤◌, ◌<◌}
use native.Mathlib.Nat.{zero-add, le_refl}
use native.Mathlib.Omega.{arith}
use borrow.Author.Tests.{le-leb, lt-leb, leb-true, leb-false}
use lib.Dec.{leb}
use lib.ListN.{length, take, drop, length-append, length-drop}
use lib.Seq.{take_at, take_all}
use Rattle.tree.specs.Form.{Form, encode, pick}
use Rattle.tree.specs.Tag.{Sort, expr, pred}
use Rattle.form.specs.Decode.{Whole, one, not-one, row_form, Found, found, missing, as_sort, form_of}
use Rattle.form.specs.Answer.{answer, stop, told, written, is_one, finish}
use Rattle.form.specs.declared.answer.Kind.{Kind}
use Rattle.form.specs.declared.answer.Kind.TheVariants.{Expression, Predicate}
use Rattle.std.specs.Prelude.{Ok, Err, Result}
use Rattle.shift.specs.Internal.Items.{items, store}
use Rattle.form.proofs.RowLaws.{found-row}
use Rattle.shift.proofs.CheckedLaws.{not_found}
use Rattle.shift.proofs.ItemLaws.{stored, store-append}
use Rattle.replace.specs.Internal.Pieces.{sizes, checked_length, InRow, has_form, fitted, short_words, emitted, replaced_words, replaced}
use Rattle.replace.specs.declared.pieces.Plan.{Plan}
use Rattle.replace.proofs.LengthLaws.{length-fits, length-over}
use Rattle.replace.proofs.PieceLaws.{planned-length}
use Rattle.form.specs.declared.answer.Refusal.TheVariants.{OutOfLimits, OutputTooShort}
use Rattle.form.specs.declared.answer.Refusal.{Refusal}
use Rattle.form.proofs.DecodeLaws.{clash}

module _ (kind : Kind) (ws : List ℕ) where
  long-missing : 8192 < length ws → form_of kind ws ≡ missing
  long-missing h = go (form_of kind ws) refl
    where
      go : (o : Found) → form_of kind ws ≡ o → form_of kind ws ≡ missing
      go (found s f) q = let l = (found-row ws s f kind q).0 in absurd (omega arith)
      go missing q = q

  missing-emitted : (room : ℕ) → form_of kind ws ≡ missing → emitted false kind ws room ≡ stop OutOfLimits
  unfolding emitted
  missing-emitted room q = rw q

  emit-long : (room : ℕ) → 8192 < length ws → emitted false kind ws room ≡ stop OutOfLimits
  emit-long room h = missing-emitted room (long-missing h)

  pub emit-no : (room : ℕ) (v : Bool) → v ≡ has_form (form_of kind ws) → v ≡ false → emitted false kind ws room ≡ stop OutOfLimits
  emit-no room v e n = missing-emitted room (not_found (form_of kind ws) v e n)

  module _ (v : Bool) (e : v ≡ has_form (form_of kind ws)) (n : v ≡ true) where
    is_found : has_form (form_of kind ws) ≡ true
    is_found = sym e ∙ n

    pub emit-fits : (room : ℕ) → fitted ws room ≡ emitted false kind ws room
    unfolding emitted
    emit-fits room = rw is_found

-- by the sort of the result
abbrev pub kind_of : Sort → Kind
kind_of expr = Expression
kind_of pred = Predicate

found-one : (s : Sort) (w : Whole) → has_form (as_sort s w) ≡ is_one w
found-one s (one f) = refl
found-one s not-one = refl

pub emit-form : (s : Sort) (room : ℕ) (g : Form) → emitted false (kind_of s) (encode g) room ≡ finish s room g
unfolding emitted finish form_of
emit-form expr room g = rw (found-one expr (row_form expr (encode g)))
emit-form pred room g = rw (found-one pred (row_form pred (encode g)))

-- where the words, if they are not too many, are a form
row-long : (s : Sort) (ws : List ℕ) → 8192 < length ws → is_one (row_form s ws) ≡ false
unfolding row_form
row-long s ws h = rw (lt-leb (length ws) 8192 h)

pub emit-sure : (sure : Bool) (s : Sort) (room : ℕ) (g : Form) → (sure ≡ true → length (encode g) ≤ 8192 → is_one (row_form s (encode g)) ≡ true) → emitted sure (kind_of s) (encode g) room ≡ finish s room g
unfolding emitted finish
emit-sure false s room g h = emit-form s room g
emit-sure true s room g h = go (leb (length (encode g)) 8192) refl
  where
    go : (b : Bool) → leb (length (encode g)) 8192 ≡ b → emitted true (kind_of s) (encode g) room ≡ finish s room g
    go true q = rw (q, h refl (leb-true (length (encode g)) 8192 q))
    go false q = rw (q, row-long s (encode g) (leb-false (length (encode g)) 8192 q))

-- words of which only the length is checked
short-not : (ws : List ℕ) (room : ℕ) {k : Refusal} {r : Result (Unit {0}) Refusal} → r ≡ checked_length (length ws) room → r ≡ Err k → short_words ws room ≡ stop k
unfolding checked_length
short-not ws room {k} {r} e z = go (leb (length ws) 8192) (leb (length ws) room) (sym e ∙ z)
  where
    go : (b c : Bool) → pick b (pick c (Ok (tt {0})) (Err OutputTooShort)) (Err OutOfLimits) ≡ Err k → pick b (pick c (answer ws) (stop OutputTooShort)) (stop OutOfLimits) ≡ stop k
    go true true q = absurd (clash cc)
    go true false q = ap stop cc
    go false c q = ap stop cc

module _ (ws : List ℕ) where
  pub short-many : (room : ℕ) → 8192 < length ws → short_words ws room ≡ stop OutOfLimits
  short-many room h = rw (lt-leb (length ws) 8192 h)

  pub short-fits : (room : ℕ) → length ws ≤ 8192 → fitted ws room ≡ short_words ws room
  short-fits room h = rw (le-leb (length ws) 8192 h)

  pub fit-not : (room : ℕ) → room < length ws → fitted ws room ≡ stop OutputTooShort
  fit-not room l = rw (lt-leb (length ws) room l)

  pub fit-done : (out out' : List ℕ) → length ws ≤ length out → out' ≡ store out 0 ws → (Ok (length ws) ≡ told (fitted ws (length out))) × (out' ≡ written (fitted ws (length out)) out)
  fit-done out out' l w = rw (le-leb (length ws) (length out) l, w) (refl, stored out ws l)

-- the head and the words after it
pub built-fits : {n a b c : ℕ} → a ≡ b → b ≡ c → n ≤ c → n ≤ a
built-fits p q h = omega arith

pub stored-after : (out out' out'' head body : List ℕ) → out' ≡ store out 0 head → out'' ≡ store out' (length head) body → out'' ≡ store out 0 (head ++ body)
stored-after out out' out'' head body e e' = rw (store-append out 0 head body, zero-add, ← e) e'

module _ (head : List ℕ) (p : Plan) (list lm row marks : List ℕ) (inside : InRow p (length list)) where
  abbrev all : List ℕ
  all = replaced_words head p list lm row marks

  replaced-length : length all ≡ length head + sizes p (items row marks)
  replaced-length = rw (length-append, planned-length p list lm inside)

  -- checked in a work row
  module _ (kind : Kind) (room : ℕ) where
    pub built-row : (work work' : List ℕ) (n : ℕ) → work' ≡ store work 0 all → n ≡ length head + sizes p (items row marks) → n ≤ length work
        → emitted false kind (take n work') room ≡ replaced false kind head p list lm row marks room
    unfolding replaced
    built-row work work' n e k h =
        let l : length all ≡ n = replaced-length ∙ sym k in
        rw (e, stored work all (rw l h), take_at all (drop (length all) work) n l)

    pub long-row : {k : Refusal} {r : Result (Unit {0}) Refusal} → r ≡ checked_length (length head + sizes p (items row marks)) 8192 → r ≡ Err k → replaced false kind head p list lm row marks room ≡ stop k
    unfolding replaced
    long-row e z =
        let (l, q) = length-over (length head + sizes p (items row marks)) e z in
        rw q (emit-long kind all room (rw replaced-length l))

  pub short-built : (room : ℕ) (work work' : List ℕ) (n : ℕ) → work' ≡ store work 0 all → n ≡ length head + sizes p (items row marks) → n ≤ length work → short_words (take n work') room ≡ short_words all room
  short-built room work work' n e k h =
      let l : length all ≡ n = replaced-length ∙ sym k in
      rw (e, stored work all (rw l h), take_at all (drop (length all) work) n l)

  -- stored in the output row
  pub sure-not : (room : ℕ) {k : Refusal} {r : Result (Unit {0}) Refusal} → r ≡ checked_length (length head + sizes p (items row marks)) room → r ≡ Err k → short_words all room ≡ stop k
  sure-not room e z = short-not all room (rw replaced-length e) z

  pub sure-done : (out out' : List ℕ) {x : Unit {0}} {r : Result (Unit {0}) Refusal} → r ≡ checked_length (length head + sizes p (items row marks)) (length out) → r ≡ Ok x → (n : ℕ) → n ≡ length head + sizes p (items row marks) → out' ≡ store out 0 all
      → (Ok n ≡ told (short_words all (length out))) × (out' ≡ written (short_words all (length out)) out)
  sure-done out out' e z n k w =
      let (a, b) = length-fits (length all) (length out) (rw replaced-length e) z in
      rw (le-leb (length all) 8192 a, le-leb (length all) (length out) b) (ap Ok (k ∙ sym replaced-length), w ∙ stored out all b)

pub short-sure : (kind : Kind) (head : List ℕ) (p : Plan) (list lm row marks : List ℕ) (room : ℕ) (sure : Bool) → sure ≡ true → short_words (replaced_words head p list lm row marks) room ≡ replaced sure kind head p list lm row marks room
unfolding replaced emitted
short-sure kind head p list lm row marks room sure y = rw y

-- the words of a row from n on, as a part
pub rest_part : (l : List ℕ) (n : ℕ) → take (length l - n) (drop n l) ≡ drop n l
rest_part l n = take_all (length l - n) (drop n l) (rw length-drop (le_refl _))

pub same-replaced : (sure sure' : Bool) (kind kind' : Kind) (head : List ℕ) (p : Plan) (list lm lm' row marks : List ℕ) (room : ℕ) → sure ≡ sure' → kind ≡ kind' → lm ≡ lm'
    → replaced sure kind head p list lm row marks room ≡ replaced sure' kind' head p list lm' row marks room
same-replaced sure sure' kind kind' head p list lm lm' row marks room a b c = rw (a, b, c)
