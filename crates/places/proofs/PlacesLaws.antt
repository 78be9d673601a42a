-- What an offer answers, from the row's words to the definition. Assumes nothing.
use mathlib.Core.Path.{◌≡◌, refl, ap, sym, ◌∙◌}
use mathlib.Core.Bool.{Bool, true, false}
use mathlib.Core.List.{List, [], ◌∷◌, ◌++◌, append-nil}
use Prim.Native.Nat.{ℕ, suc, ◌+◌, ◌-◌, ◌≤◌, ◌<◌}
use native.Mathlib.Omega.{arith}
use borrow.Author.Tests.{le-leb, lt-leb, eqb-true}
use lib.Dec.{eqb}
use lib.ListN.{length, take, drop, length-append}
use lib.Seq.{drop-append_seam}
use Rattle.tree.specs.Form.{Form, node, noted, Decls, Forms, none, more, encode}
use Rattle.tree.specs.Tag.{expr, pred, shape_of, pred_tags}
use Rattle.form.specs.Break.{break_at}
use Rattle.form.specs.Decode.{Whole, one, not-one, row_form, Found, found, missing, as_sort, form_of}
use Rattle.form.specs.Answer.{answer, told, of_found, check_outcome}
use Rattle.form.specs.declared.answer.Kind.TheVariants.{Predicate}
use Rattle.form.specs.declared.answer.Refusal.TheVariants.{TooLong, Broken, TooManyPlaces, NoEquality}
use Rattle.form.specs.Answer.{Answer}
use Rattle.form.proofs.DecodeLaws.{clash, Ok, ok-node, ok-noted, decode-encode}
use Rattle.reader.specs.Internal.Reads.{has_form}
use Rattle.shift.proofs.CheckedLaws.{not_found}
use Rattle.form.proofs.RowLaws.{row_one}
use Rattle.rules.proofs.OkLaws.{ok-deep}
use Rattle.rules.specs.Replacement.{left, right, Offer, offer, no-offer, offered}
use Rattle.rules.specs.Split.{equal}
use Rattle.places.specs.Places.{offer_form, offer_result}
use Rattle.places.specs.Internal.Positions.{end_at}
use Rattle.places.specs.Internal.Sides.{equality_words, left_for, right_for, replacement_words, above_words, offer_part}
use Rattle.std.specs.Prelude.{Some, None, Ok as accepts, Err}
use Rattle.places.specs.declared.sides.Sides.{Sides}
use Rattle.places.specs.declared.sides.Replacement.{Replacement}
use Rattle.places.specs.declared.replacements.Replacements.{Replacements}
use Rattle.places.proofs.ViewLaws.{Equal, equal-node, plain-noted}
use Rattle.places.proofs.SidesLaws.{placed, rule-words, above-words, part-words}

-- what is no equality offers nothing
no-equality : (p : Replacements) (t : ℕ) (o ds : List ℕ) (ks : Forms) → eqb t 101 ≡ false → offer_form p (node t o ds ks) ≡ Err NoEquality
no-equality p t o ds none e = refl
no-equality p t o ds (more l none) e = refl
no-equality p t o ds (more l (more r none)) e = rw e
no-equality p t o ds (more l (more r (more f fs))) e = refl

-- the sides of an equality in its row
abbrev sides_in : Form → Form → Sides
sides_in l r = record { left = 1; middle = 1 + length (encode l); right = 1 + length (encode l); end = suc (length (encode l) + length (encode r)) }

module _ (p : Replacements) (l r : Form) (h : Ok 63 expr l) (k : Ok 63 expr r) where
  row_of : encode (equal l r) ≡ 101 ∷ (encode l ++ encode r)
  unfolding encode
  row_of = rw append-nil

  equality-row : equality_words (encode (equal l r)) ≡ Some (sides_in l r)
  unfolding equality_words end_at
  equality-row = rw (row_of, decode-encode h (encode r), length-append)

  right-words : drop (1 + length (encode l)) (encode (equal l r)) ≡ encode r
  right-words =
      let n : 1 + length (encode l) ≡ suc (length (encode l)) = omega arith in
      rw (n, row_of) (drop-append_seam (encode l) (encode r))

  rule-row : replacement_words (sides_in l r) (encode (equal l r)) ≡ placed (sides_in l r) (offered l r)
  rule-row = rule-words (sides_in l r) (encode (equal l r)) l r (encode r) [] h k (rw row_of refl) (rw append-nil right-words)

  module _ (short : length (encode (equal l r)) ≤ 8192) where
    words : length (encode (equal l r)) ≡ suc (length (encode l) + length (encode r))
    words = rw (row_of, length-append)

    abbrev Goes : Replacement → Type 0
    Goes x = (offer_form p (equal l r) ≡ offer_part p (encode (equal l r)) x) × (x.start ≤ x.end) × (x.end ≤ length (encode (equal l r)))

    above-left : (i : ℕ) → above_words i (take (1 + length (encode l) - 1) (drop 1 (encode (equal l r)))) ≡ above_words i (encode l)
    above-left i = ap (above_words i) (part-words (encode (equal l r)) (encode l) (encode r) 1 (1 + length (encode l)) (rw row_of refl) refl)

    above-right : (i : ℕ) → above_words i (take (suc (length (encode l) + length (encode r)) - (1 + length (encode l))) (drop (1 + length (encode l)) (encode (equal l r)))) ≡ above_words i (encode r)
    above-right i =
        ap (above_words i)
        (part-words (encode (equal l r)) (encode r) [] (1 + length (encode l)) (suc (length (encode l) + length (encode r))) (rw append-nil right-words) (omega arith))

    goes : (o : Offer) → offered l r ≡ o → (x : Replacement) → placed (sides_in l r) o ≡ Some x → Goes x
    unfolding offer_part
    goes (offer j left) q x e =
        let y : left_for (sides_in l r) j ≡ x = cc in
        rw (← y, q, above-left j, above-words j l (ok-deep h 64 (omega arith)) (omega (arith, words))) (refl, omega arith, omega (arith, words))
    goes (offer j right) q x e =
        let y : right_for (sides_in l r) j ≡ x = cc in
        let w : 1 + length (encode l) + length (encode r) ≡ suc (length (encode l) + length (encode r)) = omega arith in
        rw (← y, q, above-right j, above-words j r (ok-deep k 64 (omega arith)) (omega (arith, words)), w) (refl, omega arith, omega (arith, words))
    goes no-offer q x e = absurd (clash cc)

    goes-not : (o : Offer) → offered l r ≡ o → placed (sides_in l r) o ≡ None → offer_form p (equal l r) ≡ Err NoEquality
    goes-not (offer j left) q e = absurd (clash cc)
    goes-not (offer j right) q e = absurd (clash cc)
    goes-not no-offer q e = rw q

-- an equality, or a predicate that offers nothing
data View (p : Replacements) : Form → Type 0 where
  sides : {f : Form} → Equal 63 f → View p f
  neither : {f : Form} → equality_words (encode f) ≡ None → offer_form p f ≡ Err NoEquality → View p f

view-tag : (p : Replacements) (t : ℕ) (o ds : List ℕ) (ks : Forms) → Ok 64 pred (node t o ds ks) → (b : Bool) → eqb t 101 ≡ b → View p (node t o ds ks)
unfolding equality_words encode
view-tag p t o ds ks h true e =
    let q : t ≡ 101 = eqb-true t 101 e in
    rw q (sides (equal-node {d = 63} (rw q at h)))
view-tag p t o ds ks h false e = neither {f = node t o ds ks} (rw e) (no-equality p t o ds ks e)

equal-noted : {o : List ℕ} {ds : Decls} {ks : Forms} → Ok 64 pred (noted 101 o ds ks) → ⊥
unfolding shape_of pred_tags
equal-noted w = plain-noted {d = 63} w 0 2 refl

view-noted : (p : Replacements) (t : ℕ) (o : List ℕ) (ds : Decls) (ks : Forms) → Ok 64 pred (noted t o ds ks) → (b : Bool) → eqb t 101 ≡ b → View p (noted t o ds ks)
unfolding equality_words encode
view-noted p t o ds ks h true e = let q : t ≡ 101 = eqb-true t 101 e in absurd (equal-noted (rw q at h))
view-noted p t o ds ks h false e = neither {f = noted t o ds ks} (rw e) refl

view_of : (p : Replacements) {f : Form} → Ok 64 pred f → View p f
view_of p (ok-node {t = t} {o = o} {ds = ds} {ks = ks} l h k) = view-tag p t o ds ks (ok-node l h k) (eqb t 101) refl
view_of p (ok-noted {t = t} {o = o} {ds = ds} {ks = ks} a h v k) = view-noted p t o ds ks (ok-noted a h v k) (eqb t 101) refl

module _ (p : Replacements) {f : Form} (short : length (encode f) ≤ 8192) where
  none-view : View p f → equality_words (encode f) ≡ None → offer_form p f ≡ Err NoEquality
  none-view (sides x) e = let z : equality_words (encode f) ≡ Some (sides_in x.left x.right) = rw x.is (equality-row p x.left x.right x.ok-left x.ok-right) in absurd (clash cc)
  none-view (neither a b) e = b

  equality-from : (x : Equal 63 f) (s : Sides) → equality_words (encode f) ≡ Some s → s ≡ sides_in x.left x.right
  equality-from x s e =
      let z : equality_words (encode f) ≡ Some (sides_in x.left x.right) = rw x.is (equality-row p x.left x.right x.ok-left x.ok-right) in
      cc

  rule-from : (x : Equal 63 f) (s : Sides) → equality_words (encode f) ≡ Some s → replacement_words s (encode f) ≡ placed (sides_in x.left x.right) (offered x.left x.right)
  rule-from x s e = rw (equality-from x s e, x.is) (rule-row p x.left x.right x.ok-left x.ok-right)

  not-view : View p f → (s : Sides) → equality_words (encode f) ≡ Some s → replacement_words s (encode f) ≡ None → offer_form p f ≡ Err NoEquality
  not-view (sides x) s e n =
      rw x.is (goes-not p x.left x.right x.ok-left x.ok-right (rw x.is at short) (offered x.left x.right) refl (sym (rule-from x s e) ∙ n))
  not-view (neither a b) s e n = b

  is_view : View p f → (s : Sides) → equality_words (encode f) ≡ Some s → (z : Replacement) → replacement_words s (encode f) ≡ Some z
      → (offer_form p f ≡ offer_part p (encode f) z) × (z.start ≤ z.end) × (z.end ≤ length (encode f))
  is_view (sides x) s e z n =
      rw x.is (goes p x.left x.right x.ok-left x.ok-right (rw x.is at short) (offered x.left x.right) refl z (sym (rule-from x s e) ∙ n))
  is_view (neither a b) s e z n = absurd (clash cc)

-- a row that the check took as a predicate
pub record PredRow (row : List ℕ) : Type 0 where
  pub form : Form
  pub is_found : form_of Predicate row ≡ found pred form
  pub words : row ≡ encode form
  pub ok : Ok 64 pred form

pub pred-form : (row : List ℕ) (v : Bool) → v ≡ has_form (form_of Predicate row) → v ≡ true → PredRow row
unfolding form_of
pred-form row v q e = go (row_form pred row) refl (sym q ∙ e)
  where
    go : (w : Whole) → row_form pred row ≡ w → has_form (as_sort pred w) ≡ true → PredRow row
    go (one f) r t = let (l, w, k) = row_one pred row f r in record { form = f; is_found = rw r; words = w; ok = k }
    go not-one r t = absurd (clash cc)

-- the same of a row that the check took
pub pred-row : (row : List ℕ) (a : Answer) (j : ℕ) → length row ≤ 8192 → a ≡ told (check_outcome Predicate row) → a ≡ accepts j → PredRow row
unfolding check_outcome
pred-row row a j short q e = pred-form row true (go (form_of Predicate row) (sym e ∙ (rw (le-leb (length row) 8192 short) at q))) refl
  where
    go : (o : Found) → accepts j ≡ told (of_found (break_at Predicate row) (λ s f. answer []) o) → true ≡ has_form o
    go (found s f) t = refl
    go missing t = absurd (clash cc)

module _ (p : Replacements) (row : List ℕ) where
  pub offer-long : 8192 < length row → Err TooLong ≡ offer_result p row
  unfolding offer_result
  offer-long h = rw (lt-leb (length row) 8192 h)

  module _ (short : length row ≤ 8192) where
    pub offer-missing : (v : Bool) → v ≡ has_form (form_of Predicate row) → v ≡ false → (q : ℕ) → q ≡ break_at Predicate row → Err (Broken q) ≡ offer_result p row
    unfolding offer_result
    offer-missing v q e j l = rw (le-leb (length row) 8192 short, not_found (form_of Predicate row) v q e, l)

    module _ (x : PredRow row) where
      pub offer-many : 32 < p.n → Err TooManyPlaces ≡ offer_result p row
      unfolding offer_result
      offer-many h = rw (le-leb (length row) 8192 short, x.is_found, lt-leb p.n 32 h)

      module _ (few : p.n ≤ 32) where
        offers : offer_form p x.form ≡ offer_result p row
        unfolding offer_result
        offers = rw (le-leb (length row) 8192 short, x.is_found, le-leb p.n 32 few)

        short-form : length (encode x.form) ≤ 8192
        short-form = rw x.words at short

        pub offer-none : equality_words row ≡ None → Err NoEquality ≡ offer_result p row
        offer-none e = sym (none-view p short-form (view_of p x.ok) (rw x.words at e)) ∙ offers

        pub offer-not : (s : Sides) → equality_words row ≡ Some s → replacement_words s row ≡ None → Err NoEquality ≡ offer_result p row
        offer-not s e n = sym (not-view p short-form (view_of p x.ok) s (rw x.words at e) (rw x.words at n)) ∙ offers

        pub offer-is : (s : Sides) → equality_words row ≡ Some s → (z : Replacement) → replacement_words s row ≡ Some z → (offer_part p row z ≡ offer_result p row) × (z.start ≤ z.end) × (z.end ≤ length row)
        offer-is s e z n =
            let v = is_view p short-form (view_of p x.ok) s (rw x.words at e) z (rw x.words at n) in
            (sym (rw (← x.words) at v.0) ∙ offers, v.1, rw x.words v.2)

-- the place of an index, as the code counts it
pub place-from : (n i : ℕ) → n - suc i ≡ n - 1 - i
place-from n i = omega arith
