-- One point: the whole call. Assumes nothing.
use mathlib.Core.Path.{◌≡◌, refl, ap, sym, ◌∙◌}
use mathlib.Core.Bool.{Bool, true, false}
use mathlib.Core.Option.{Option, none as absent, some}
use mathlib.Core.List.{List, [], append-nil}
use Prim.Native.Nat.{ℕ, ◌-◌, ◌≤◌, ◌<◌}
use native.Mathlib.Omega.{arith}
use borrow.Author.Tests.{le-leb, lt-leb}
use lib.Dec.{leb}
use lib.ListN.{length, take, drop, length-take}
use Rattle.tree.specs.Form.{Form, encode}
use Rattle.tree.specs.Tag.{Sort, pred}
use Rattle.form.specs.Decode.{got, decode, Whole, one, not-one, whole as whole_of, row_form, as_sort, form_of}
use Rattle.form.specs.Break.{break_at}
use Rattle.form.specs.Answer.{Outcome, answer, stop, told, written, number, of_found, needs, is_one, finish, check_outcome}
use Rattle.form.specs.declared.answer.Kind.TheVariants.{Predicate}
use Rattle.form.specs.Answer.{Answer}
use Rattle.std.specs.Prelude.{Option as Maybe, Some, None, Err}
use Rattle.form.specs.declared.answer.Refusal.{Refusal}
use Rattle.form.proofs.DecodeLaws.{clash, Ok, decode-encode}
use Rattle.shift.proofs.CheckedLaws.{check-refuses, too_long, form-there}
use Rattle.shift.proofs.AroundLaws.{quant-of}
use Rattle.rules.specs.Fill.{Decl, around, Quantified, quantifier, other, quantified}
use Rattle.rules.proofs.JoinLaws.{quantified-around}
use Rattle.replace.proofs.BuildLaws.{rest_part}
use Rattle.rules.specs.Scan.{scan}
use Rattle.rules.specs.Point.{polarity, reduce, one_point, of_result, point_outcome}
use Rattle.decls.specs.Internal.Noted.{count_in}
use Rattle.decls.proofs.CountLaws.{quant-count}
use Rattle.one_point.specs.Internal.Reduce.{is_quantifier, quantifier_in, operator_in, decls_in, reduced_in, body_outcome, told_if, written_if, Reducing}
use Rattle.places.proofs.PlacesLaws.{PredRow}
use Rattle.one_point.proofs.HeadLaws.{around_whole, HeadRead, no-head}
use Rattle.form.specs.declared.answer.Refusal.TheVariants.{TooLong, NothingToRewrite, OutOfLimits, OutputTooShort, WorkTooShort, Broken}

-- the whole call
abbrev point_go : ℕ → Sort → Form → Outcome
point_go room s f = of_result room (one_point f)

-- what a body is reduced to is refused because nothing is to be rewritten, it is outside the limits or it has no room, never as broken
pub never-bad : (room : ℕ) (o : Option Form) (q : ℕ) → of_result room o ≡ stop (Broken q) → ⊥
unfolding finish
never-bad room (some g) q e = go (is_one (row_form pred (encode g))) (leb (length (encode g)) room) (ap (λ o. number (told o)) e)
  where
    go : (a b : Bool) → number (told (needs OutOfLimits a (needs OutputTooShort b (answer (encode g))))) ≡ 2 → ⊥
    go true true e = omega arith
    go true false e = omega arith
    go false b e = omega arith
never-bad room absent q e = go (ap (λ o. number (told o)) e)
  where
    go : ◌≡◌ {A = ℕ} 9 2 → ⊥
    go e = omega arith

-- a form whose row counts no declarations is not quantified
uncounted : {f : Form} → Ok 64 pred f → count_in (encode f) ≡ 0 → quantified f ≡ other
uncounted {f} ok e = go (quantified f) refl
  where
    go : (z : Quantified) → quantified f ≡ z → z ≡ other
    go other q = refl
    go (quantifier t ds b) q =
        let y = quant-of ok t ds b q in
        let c = quant-count f y in
        let l = y.least in
        absurd (omega arith)

-- one point of declarations put round a body
around-point : (t : ℕ) → is_quantifier t ≡ true → (ds : List Decl) (f : Form) → one_point (around t ds f) ≡ reduce t ds (scan (length ds) (polarity t) f)
unfolding one_point
around-point t w ds f = rw (quantified-around t w ds f)

module _ (row : List ℕ) (wl room : ℕ) where
  pub point-small : wl < 16384 → point_outcome row wl room ≡ stop WorkTooShort
  unfolding point_outcome
  point-small h = rw (lt-leb 16384 wl h)

  module _ (enough : 16384 ≤ wl) where
    pub point-long : 8192 < length row → point_outcome row wl room ≡ stop TooLong
    unfolding point_outcome
    point-long h = rw (le-leb 16384 wl enough) (too_long Predicate row (point_go room) h)

    module _ (short : length row ≤ 8192) where
      pub point-refused : (a : Answer) (k : Refusal) → a ≡ told (check_outcome Predicate row) → a ≡ Err k → point_outcome row wl room ≡ stop k
      unfolding point_outcome
      point-refused a k e n = rw (le-leb 16384 wl enough) (check-refuses Predicate row (point_go room) a k e n)

      pub point-other : PredRow row → (q : Maybe ℕ) → q ≡ quantifier_in row → q ≡ None → point_outcome row wl room ≡ stop NothingToRewrite
      unfolding point_outcome one_point
      point-other x q e n =
          let d : decode 64 pred row ≡ got x.form [] = rw (x.words, ← append-nil (encode x.form)) (decode-encode x.ok []) in
          let z = uncounted x.ok (ap count_in (sym x.words) ∙ no-head row x.form d (sym e ∙ n)) in
          rw (le-leb 16384 wl enough) (form-there Predicate row (point_go room) pred x.form short x.is_found ∙ rw z)

      module _ (p : ℕ) (h : HeadRead row p) where
        pub reducing : Reducing (take p row) (take (length row - p) (drop p row)) wl
        reducing =
            let l = length-take (length row - p) (drop p row) in
            record { heading = h.heading short; short = omega arith; enough = enough }

        abbrev body : Maybe Outcome
        body = body_outcome 63 (operator_in (take p row)) (decls_in (take p row)) (take (length row - p) (drop p row)) room

        pub point-body : (o : Outcome) → body ≡ Some o → o ≡ point_outcome row wl room
        unfolding body_outcome point_outcome form_of row_form
        point-body o e = rw (le-leb 16384 wl enough, le-leb (length row) 8192 short, h.whole) (go (whole_of (decode 63 pred (drop p row))) (rw (h.operator-is, h.decls-are, rest_part row p) at e))
          where
            go : (w : Whole) → reduced_in h.op h.decls room w ≡ Some o → o ≡ of_found (break_at Predicate row) (point_go room) (as_sort pred (around_whole h.op h.decls w))
            go (one f) e =
                let q : of_result room (reduce h.op h.decls (scan (length h.decls) (polarity h.op) f)) ≡ o = cc in
                sym q ∙ ap (of_result room) (sym (around-point h.op h.which h.decls f))
            go not-one e = absurd (clash cc)

        -- a body that is no predicate: the row breaks
        pub point-broken : body ≡ None → point_outcome row wl room ≡ stop (Broken (break_at Predicate row))
        unfolding body_outcome point_outcome form_of row_form
        point-broken e = rw (le-leb 16384 wl enough, le-leb (length row) 8192 short, h.whole) (go (whole_of (decode 63 pred (drop p row))) (rw (h.operator-is, h.decls-are, rest_part row p) at e))
          where
            go : (w : Whole) → reduced_in h.op h.decls room w ≡ None → of_found (break_at Predicate row) (point_go room) (as_sort pred (around_whole h.op h.decls w)) ≡ stop (Broken (break_at Predicate row))
            go (one f) e = absurd (clash cc)
            go not-one e = refl

        -- from what is told of the body
        module _ (r : Maybe Answer) (out out' : List ℕ) (u : (r ≡ told_if body) × (out' ≡ written_if body out)) where
          pub point-told : (a : Answer) → r ≡ Some a → (a ≡ told (point_outcome row wl room)) × (out' ≡ written (point_outcome row wl room) out)
          point-told a e = go body refl u.0 u.1
            where
              go : (m : Maybe Outcome) → body ≡ m → r ≡ told_if m → out' ≡ written_if m out → (a ≡ told (point_outcome row wl room)) × (out' ≡ written (point_outcome row wl room) out)
              go (Some o) q v z = let k : a ≡ told o = cc in rw (← point-body o q) (k, z)
              go None q v z = absurd (clash cc)

          pub point-bad : r ≡ None → (q : ℕ) → q ≡ break_at Predicate row → (Err (Broken q) ≡ told (point_outcome row wl room)) × (out' ≡ written (point_outcome row wl room) out)
          point-bad e q k = go body refl u.0 u.1
            where
              go : (m : Maybe Outcome) → body ≡ m → r ≡ told_if m → out' ≡ written_if m out → (Err (Broken q) ≡ told (point_outcome row wl room)) × (out' ≡ written (point_outcome row wl room) out)
              go (Some o) b v z = absurd (clash cc)
              go None b v z = rw (point-broken b, k) (refl, z)
