-- What one point answers is the row of the reduced form: it decodes to that form. Assumes nothing.
use mathlib.Core.Path.{◌≡◌, refl, ap, sym, ◌∙◌}
use mathlib.Core.Bool.{Bool, true, false}
use mathlib.Core.Option.{Option, none as absent, some}
use mathlib.Core.List.{List, []}
use Prim.Native.Nat.{ℕ}
use lib.Dec.{leb}
use lib.ListN.{length, take, drop}
use lib.Seq.{take_at}
use Rattle.tree.specs.Form.{Form, pick, encode}
use Rattle.tree.specs.Tag.{Sort, pred}
use Rattle.form.specs.Break.{break_at}
use Rattle.form.specs.Decode.{Whole, one, not-one, row_form, Found, found, missing, form_of}
use Rattle.form.specs.Answer.{Outcome, answer, stop, told, written, of_found, needs, is_one, finish}
use Rattle.form.specs.declared.answer.Kind.TheVariants.{Predicate}
use Rattle.std.specs.Prelude.{Ok as Done}
use Rattle.form.proofs.DecodeLaws.{clash, Ok, decode-encode}
use Rattle.form.proofs.RowLaws.{row_one, found-row}
use Rattle.replace.proofs.QuantLaws.{pred-sort}
use Rattle.rules.specs.Point.{one_point, of_result, point_outcome}
use Rattle.one_point.proofs.ShapeLaws.{Shaped, shaped-decode}
use Rattle.one_point.proofs.PointShape.{point-shaped}
use Rattle.form.specs.declared.answer.Refusal.TheVariants.{TooLong, OutOfLimits, OutputTooShort, WorkTooShort}

-- a row that decodes at all decodes to the form that it was written from
same-form : (g h : Form) → Shaped pred g → encode g ≡ encode h → Ok 64 pred h → h ≡ g
same-form g h s e ok = (shaped-decode s 64 [] h [] (rw e (decode-encode ok []))).0

shaped-found : (g : Form) → Shaped pred g → is_one (row_form pred (encode g)) ≡ true → form_of Predicate (encode g) ≡ found pred g
unfolding form_of
shaped-found g s i = go (row_form pred (encode g)) refl
  where
    go : (w : Whole) → row_form pred (encode g) ≡ w → form_of Predicate (encode g) ≡ found pred g
    go (one h) e =
        let (l, q, ok) = row_one pred (encode g) h e in
        rw e (ap (λ (z : Form). found pred z) (same-form g h s q ok))
    go not-one e = absurd (let z = rw e at i in clash cc)

-- an answer of finish
module _ (room : ℕ) (g : Form) (ws : List ℕ) where
  finish-answer : finish pred room g ≡ answer ws → (ws ≡ encode g) × (is_one (row_form pred (encode g)) ≡ true)
  unfolding finish
  finish-answer e = go (is_one (row_form pred (encode g))) (leb (length (encode g)) room) e
    where
      go : (a b : Bool) → needs OutOfLimits a (needs OutputTooShort b (answer (encode g))) ≡ answer ws → (ws ≡ encode g) × (a ≡ true)
      go true true e = (cc, refl)
      go true false e = absurd (clash cc)
      go false b e = absurd (clash cc)

-- the form in the row, the reduced form, and the row that was answered
pub record Pointed (row ws : List ℕ) : Type 0 where
  pub form : Form
  pub result : Form
  pub is_read : form_of Predicate row ≡ found pred form
  pub is_said : form_of Predicate ws ≡ found pred result
  pub reduced : one_point form ≡ some result

module _ (row : List ℕ) (ws : List ℕ) (room : ℕ) where
  pointed-of : (s : Sort) (f : Form) → form_of Predicate row ≡ found s f → (o : Option Form) → one_point f ≡ o → of_result room o ≡ answer ws → Pointed row ws
  pointed-of s f q (some g) r e =
      let (l, w, ok) = found-row row s f Predicate q in
      let p = pred-sort row s f q in
      let (v, i) = finish-answer room g ws e in
      let z = point-shaped f g (rw p at ok) (rw w at l) r in
      record { form = f; result = g; is_read = q ∙ ap (λ (u : Sort). found u f) p; is_said = rw v (shaped-found g z i); reduced = r }
  pointed-of s f q absent r e = absurd (clash cc)

  found-pointed : (o : Found) → form_of Predicate row ≡ o → of_found (break_at Predicate row) (λ s f. of_result room (one_point f)) o ≡ answer ws → Pointed row ws
  found-pointed (found s f) q e = pointed-of s f q (one_point f) refl e
  found-pointed missing q e = absurd (clash cc)

  pub pointed : (work : ℕ) → point_outcome row work room ≡ answer ws → Pointed row ws
  unfolding point_outcome
  pointed work e = go (leb 16384 work) (leb (length row) 8192) e
    where
      go : (a b : Bool) → pick a (pick b (of_found (break_at Predicate row) (λ s f. of_result room (one_point f)) (form_of Predicate row)) (stop TooLong)) (stop WorkTooShort) ≡ answer ws → Pointed row ws
      go true true e = found-pointed (form_of Predicate row) refl e
      go true false e = absurd (clash cc)
      go false b e = absurd (clash cc)

-- an outcome that was told as an answer of n words, and written into the output row
pub told-words : (o : Outcome) (out out' : List ℕ) (n : ℕ) → Done n ≡ told o → out' ≡ written o out → o ≡ answer (take n out')
told-words (answer ws) out out' n e w =
    let l : length ws ≡ n = cc in
    rw w (ap (λ (z : List ℕ). answer z) (sym (take_at ws (drop (length ws) out) n l)))
told-words (stop k) out out' n e w = absurd (clash cc)
