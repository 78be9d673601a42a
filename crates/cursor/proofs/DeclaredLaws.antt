-- The number of declarations, from the opening of a row that the check took. Assumes nothing.
use mathlib.Core.Path.{◌≡◌, refl, sym, ◌∙◌}
use mathlib.Core.Bool.{Bool, true, false}
use mathlib.Core.List.{List, [], map}
use Prim.Native.Nat.{ℕ}
use native.Mathlib.Omega.{arith}
use borrow.Author.Tests.{eq-eqb, ne_eqb}
use lib.Dec.{leb, eqb}
use lib.ListN.{length, length-map}
use Rattle.tree.specs.Form.{Form, pick, encode}
use Rattle.tree.specs.Tag.{pred}
use Rattle.form.specs.Break.{break_at}
use Rattle.form.specs.Decode.{Whole, one, not-one, row_form, Found, found, missing, as_sort, form_of}
use Rattle.form.specs.Answer.{Outcome, answer, stop, told, of_found, check_outcome}
use Rattle.form.specs.declared.answer.Kind.TheVariants.{Predicate}
use Rattle.form.specs.Answer.{Answer}
use Rattle.std.specs.Prelude.{Ok as Done, Err}
use Rattle.form.proofs.DecodeLaws.{clash, Ok}
use Rattle.form.proofs.RowLaws.{row-exact}
use Rattle.rules.specs.Fill.{name_of, Quantified, quantifier, other, of_quantified, quantified}
use Rattle.shift.proofs.AroundLaws.{quant-of}
use Rattle.decls.specs.Internal.Noted.{count_in}
use Rattle.decls.proofs.CountLaws.{quant-count, other-count}
use Rattle.cursor.specs.Read.{declared_outcome}
use Rattle.form.specs.declared.answer.Refusal.{Refusal}
use Rattle.form.specs.declared.answer.Refusal.TheVariants.{TooLong, NotQuantified}

abbrev go : Form → Outcome
go f = of_quantified (λ t ds b. answer (map name_of ds)) NotQuantified (quantified f)

-- 3 where there are none, which no quantified predicate has
abbrev by_count : ℕ → Answer
by_count n = pick (eqb n 0) (Err NotQuantified) (Done n)

form-count : (f : Form) → Ok 64 pred f → told (go f) ≡ by_count (count_in (encode f))
form-count f ok = by (quantified f) refl
  where
    by : (z : Quantified) → quantified f ≡ z → told (go f) ≡ by_count (count_in (encode f))
    by other e = rw (e, other-count f ok e)
    by (quantifier t ds b) e =
        let y = quant-of ok t ds b e in
        let l = y.least in
        rw (y.is, quant-count f y, ne_eqb (length y.decls) 0 (λ h. omega arith), length-map y.decls name_of)

module _ (row : List ℕ) (r : Answer) (q : r ≡ told (check_outcome Predicate row)) where
  pub count-refused : (k : Refusal) → r ≡ Err k → Err k ≡ told (declared_outcome row)
  unfolding check_outcome declared_outcome
  count-refused k e = sym e ∙ by (leb (length row) 8192) (form_of Predicate row) q
    where
      by : (b : Bool) (z : Found) → r ≡ told (pick b (of_found (break_at Predicate row) (λ s f. answer []) z) (stop TooLong)) → r ≡ told (pick b (of_found (break_at Predicate row) (λ s f. go f) z) (stop TooLong))
      by false z p = p
      by true missing p = p
      by true (found s f) p = absurd (clash cc)

  module _ (j : ℕ) (e : r ≡ Done j) (n : ℕ) (c : n ≡ count_in row) where
    counted : told (declared_outcome row) ≡ by_count n
    unfolding check_outcome declared_outcome form_of
    counted = by (leb (length row) 8192) (row_form pred row) refl q
      where
        by : (b : Bool) (w : Whole) → row_form pred row ≡ w → r ≡ told (pick b (of_found (break_at Predicate row) (λ s f. answer []) (as_sort pred w)) (stop TooLong)) → told (pick b (of_found (break_at Predicate row) (λ s f. go f) (as_sort pred w)) (stop TooLong)) ≡ by_count n
        by true (one f) y p = let (a, ok) = row-exact pred row f y in rw (c, a) (form-count f ok)
        by true not-one y p = absurd (clash cc)
        by false w y p = absurd (clash cc)

    pub count_none : n ≡ 0 → Err NotQuantified ≡ told (declared_outcome row)
    count_none h = sym (counted ∙ rw (eq-eqb n 0 h) refl)

    pub count-some : (n ≡ 0 → ⊥) → Done n ≡ told (declared_outcome row)
    count-some h = sym (counted ∙ rw (ne_eqb n 0 h) refl)
