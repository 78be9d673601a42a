-- The whole row: one form of the kind asked for, or a refusal. Assumes nothing.
use mathlib.Core.Path.{◌≡◌, refl, ap, sym, ◌∙◌}
use mathlib.Core.Bool.{Bool, true, false}
use mathlib.Core.List.{List, [], ◌∷◌}
use Prim.Native.Nat.{ℕ, ◌≤◌, ◌<◌}
use native.Mathlib.Omega.{arith}
use borrow.Author.Tests.{le-leb, lt-leb, eqb-true, eq-eqb}
use lib.Dec.{eqb}
use lib.ListN.{length, get_or, length-append}
use Rattle.tree.specs.Form.{Form, pick, encode}
use Rattle.tree.specs.Tag.{Sort, expr, pred, shape_of}
use Rattle.form.specs.Decode.{got, decode, Whole, one, not-one, whole, row_form, Found, found, missing, as_sort, either, only_names, form_of}
use Rattle.form.specs.Break.{break_at}
use Rattle.form.specs.Answer.{answer, told, of_found, check_outcome}
use Rattle.reader.specs.Internal.Reads.{mark, Told, has_form, Marked, known, known_at, as_expr, of_kind}
use Rattle.form.specs.declared.answer.Kind.{Kind}
use Rattle.form.specs.declared.answer.Kind.TheVariants.{Expression, Predicate, Either, Named}
use Rattle.form.specs.contracts.answer.Kind.{the_type}
use types.Run.{OneOf, miss}
use denote.Enum.Declared.{tag_of}
use Rattle.std.specs.Prelude.{Ok, Err, Some, None, Option}
use Rattle.tree.specs.declared.tag.Shape.{Shape}
use Rattle.tree.specs.declared.tag.Shape.TheVariants.{Unknown, Plain, Name, Value, Exprs, Preds, Apply, Compr, Quant, NotedCompr, NotedQuant}
use Rattle.form.proofs.DecodeLaws.{clash, decode-sound}
use Rattle.reader.proofs.ReaderLaws.{told-end, told-bad}
use Rattle.form.proofs.RowLaws.{unknown-no, no_whole, found-either}
use Rattle.form.proofs.ViableLaws.{row-unbroken, named-unbroken}
use Rattle.tree.proofs.Ranges.{one_table}
use Rattle.form.specs.declared.answer.Refusal.TheVariants.{TooLong, Broken}

-- a kind of either sort, which is the third or the fourth, is read by the first tag
pub either-sort : (k : Kind) (row : List ℕ) (b : Bool) → OneOf (2 ∷ 3 ∷ []) (tag_of the_type k) → b ≡ known_at row → b ≡ as_expr k row
unfolding as_expr
either-sort Expression row b k e = absurd (miss (2 ∷ 3 ∷ []) 0 tt k)
either-sort Predicate row b k e = absurd (miss (2 ∷ 3 ∷ []) 1 tt k)
either-sort Either row b k e = e
either-sort Named row b k e = e

known-not : (x : Shape) → known x ≡ false → x ≡ Unknown
known-not Unknown e = refl
known-not (Plain p q) e = absurd (clash cc)
known-not Name e = absurd (clash cc)
known-not Value e = absurd (clash cc)
known-not (Exprs m) e = absurd (clash cc)
known-not (Preds m) e = absurd (clash cc)
known-not Apply e = absurd (clash cc)
known-not Compr e = absurd (clash cc)
known-not Quant e = absurd (clash cc)
known-not NotedCompr e = absurd (clash cc)
known-not NotedQuant e = absurd (clash cc)

known_is : (x : Shape) → known x ≡ true → x ≡ Unknown → ⊥
known_is x e q = let z : ◌≡◌ {A = ℕ} 0 1 = cc in omega arith

either-missing : (o : Found) → either o missing ≡ o
either-missing (found s f) = refl
either-missing missing = refl

sort-of : (row : List ℕ) (b : Bool) → known_at row ≡ b → either (as_sort expr (row_form expr row)) (as_sort pred (row_form pred row)) ≡ as_sort (pick b expr pred) (row_form (pick b expr pred) row)
unfolding decode
sort-of [] true e = absurd (clash cc)
sort-of [] false e = rw (no_whole expr [] refl)
sort-of (t ∷ ws) true e = rw (no_whole pred (t ∷ ws) (unknown-no pred 64 t ws (one_table t (known_is (shape_of expr t) e)))) (either-missing (as_sort expr (row_form expr (t ∷ ws))))
sort-of (t ∷ ws) false e = rw (no_whole expr (t ∷ ws) (unknown-no expr 64 t ws (known-not (shape_of expr t) e)))

-- by the first tag, if there is one
pub by-none : (row : List ℕ) → length row ≡ 0 → known_at row ≡ false
by-none [] h = refl
by-none (t ∷ ws) h = absurd (omega arith)

pub by-tag : (row : List ℕ) (x : Shape) → (length row ≡ 0 → ⊥) → x ≡ shape_of expr (get_or row 0 0) → known_at row ≡ known x
by-tag [] x h e = absurd (h refl)
by-tag (t ∷ ws) x h e = rw e

-- the sort that the code reads the row as
abbrev pub sort_for : Bool → Sort
sort_for b = pick b expr pred

-- a form of its sort as one of the kind
abbrev as_kind : Kind → Found → Found
as_kind Expression o = o
as_kind Predicate o = o
as_kind Either o = o
as_kind Named o = only_names o

pub form-of : (kind : Kind) (row : List ℕ) (b : Bool) → b ≡ as_expr kind row → form_of kind row ≡ as_kind kind (as_sort (sort_for b) (row_form (sort_for b) row))
unfolding form_of as_expr
form-of Expression row b e = rw e
form-of Predicate row b e = rw e
form-of Either row b e = sort-of row b (sym e)
form-of Named row b e = ap only_names (sort-of row b (sym e))

as_none : (kind : Kind) → as_kind kind missing ≡ missing
as_none Expression = refl
as_none Predicate = refl
as_none Either = refl
as_none Named = refl

-- a row read as one form of a sort, at most d deep
module _ (d : ℕ) (s : Sort) (row a b : List ℕ) (r : Option ℕ) (t : Told 0 0 (decode d s row) a b r) where
  pub read-bad : r ≡ None → whole (decode d s row) ≡ not-one
  read-bad e = rw (told-bad 0 0 (decode d s row) a b r t e)

  pub read_whole : (p : ℕ) → r ≡ Some p → p ≡ length row → (f : Form) × (whole (decode d s row) ≡ one f) × (b ≡ mark f 0 0 a)
  read_whole p e q =
      let (f, y, g, l, m) = told-end 0 0 (decode d s row) a b r p t e in
      let (w, n) = decode-sound d s row f y g in
      (f, go f y g (let n = ap length w ∙ length-append (encode f) y in omega arith), m)
    where
      go : (f : Form) (y : List ℕ) → decode d s row ≡ got f y → length y ≡ 0 → whole (decode d s row) ≡ one f
      go f [] g e = rw g
      go f (w ∷ y) g e = absurd (omega arith)

  pub read-part : (p : ℕ) → r ≡ Some p → (p ≡ length row → ⊥) → whole (decode d s row) ≡ not-one
  read-part p e q =
      let (f, y, g, l, m) = told-end 0 0 (decode d s row) a b r p t e in
      let (w, n) = decode-sound d s row f y g in
      go f y g (λ z. let n = ap length w ∙ length-append (encode f) y in q (omega arith))
    where
      go : (f : Form) (y : List ℕ) → decode d s row ≡ got f y → (length y ≡ 0 → ⊥) → whole (decode d s row) ≡ not-one
      go f [] g e = absurd (e refl)
      go f (w ∷ y) g e = rw g

-- a row that is one form of the sort that the kind says, and is of the kind
pub kind-found : (kind : Kind) (row : List ℕ) (s : Sort) (f : Form) → sort_for (as_expr kind row) ≡ s → row_form s row ≡ one f → of_kind kind row ≡ true → form_of kind row ≡ found s f
unfolding of_kind
kind-found Expression row s f a e o = form-of Expression row (as_expr Expression row) refl ∙ rw (a, e)
kind-found Predicate row s f a e o = form-of Predicate row (as_expr Predicate row) refl ∙ rw (a, e)
kind-found Either row s f a e o = form-of Either row (as_expr Either row) refl ∙ rw (a, e)
kind-found Named row s f a e o = named-unbroken row s f (found-either row s f e) (eqb-true _ _ o)

-- a form without an index is one that breaks nowhere before its end as a named row
named-missing : (row : List ℕ) → (break_at Named row ≡ length row → ⊥) → form_of Named row ≡ missing
named-missing row n = go (form_of Named row) refl
  where
    go : (o : Found) → form_of Named row ≡ o → o ≡ missing
    go missing e = refl
    go (found s f) e = absurd (n (row-unbroken Named row s f e))

module _ (s : Sort) (row : List ℕ) (f : Form) (a b : List ℕ) (m : b ≡ mark f 0 0 a) (v : Bool) where
  named_by : (c : Bool) → eqb (break_at Named row) (length row) ≡ c → v ≡ c → form_of Either row ≡ found s f → (v ≡ has_form (form_of Named row)) × Marked (form_of Named row) a b
  unfolding Marked
  named_by true q o e = rw (named-unbroken row s f e (eqb-true _ _ q)) (o, m)
  named_by false q o e = rw (named-missing row (λ h. let k = eq-eqb _ _ h in clash cc)) (o, tt)

  of-kind : (kind : Kind) → v ≡ of_kind kind row → row_form s row ≡ one f → form_of kind row ≡ as_kind kind (found s f) → (v ≡ has_form (form_of kind row)) × Marked (form_of kind row) a b
  unfolding Marked of_kind
  of-kind Expression o e k = rw k (o, m)
  of-kind Predicate o e k = rw k (o, m)
  of-kind Either o e k = rw k (o, m)
  of-kind Named o e k = named_by (eqb (break_at Named row) (length row)) refl o (found-either row s f e)

-- a row read as a form of the kind: whether it is one, and its marks
module _ (kind : Kind) (row a b : List ℕ) where
  pub row-long : 8192 < length row → (false ≡ has_form (form_of kind row)) × Marked (form_of kind row) a b
  unfolding Marked form_of row_form
  row-long h = by kind
    where
      by : (kind : Kind) → (false ≡ has_form (form_of kind row)) × Marked (form_of kind row) a b
      by Expression = rw (lt-leb (length row) 8192 h) (refl, tt)
      by Predicate = rw (lt-leb (length row) 8192 h) (refl, tt)
      by Either = rw (lt-leb (length row) 8192 h) (refl, tt)
      by Named = rw (lt-leb (length row) 8192 h) (refl, tt)

  module _ (h : length row ≤ 8192) (x : Bool) (k : x ≡ as_expr kind row) (r : Option ℕ) (t : Told 0 0 (decode 64 (sort_for x) row) a b r) where
    as_read : (w : Whole) → whole (decode 64 (sort_for x) row) ≡ w → form_of kind row ≡ as_kind kind (as_sort (sort_for x) w)
    unfolding row_form
    as_read w e = form-of kind row x k ∙ rw (le-leb (length row) 8192 h, e)

    pub row-bad : r ≡ None → (false ≡ has_form (form_of kind row)) × Marked (form_of kind row) a b
    unfolding Marked
    row-bad e = rw (as_read not-one (read-bad 64 (sort_for x) row a b r t e), as_none kind) (refl, tt)

    pub row-whole : (p : ℕ) → r ≡ Some p → p ≡ length row → (v : Bool) → v ≡ of_kind kind row → (v ≡ has_form (form_of kind row)) × Marked (form_of kind row) a b
    unfolding row_form
    row-whole p e q v o =
        let (f, w, m) = read_whole 64 (sort_for x) row a b r t p e q in
        of-kind (sort_for x) row f a b m v kind o (rw (le-leb (length row) 8192 h, w)) (as_read (one f) w)

    pub row-part : (p : ℕ) → r ≡ Some p → (p ≡ length row → ⊥) → (false ≡ has_form (form_of kind row)) × Marked (form_of kind row) a b
    unfolding Marked
    row-part p e n = rw (as_read not-one (read-part 64 (sort_for x) row a b r t p e n), as_none kind) (refl, tt)

-- the check's answer
module _ (kind : Kind) (row : List ℕ) where
  pub check-long : 8192 < length row → Err TooLong ≡ told (check_outcome kind row)
  unfolding check_outcome
  check-long h = rw (lt-leb (length row) 8192 h)

  module _ (h : length row ≤ 8192) (v : Bool) (e : v ≡ has_form (form_of kind row)) where
    pub check_done : v ≡ true → Ok 0 ≡ told (check_outcome kind row)
    unfolding check_outcome
    check_done t = rw (le-leb (length row) 8192 h) (go (form_of kind row) (sym e ∙ t))
      where
        go : (o : Found) → has_form o ≡ true → Ok 0 ≡ told (of_found (break_at kind row) (λ s f. answer []) o)
        go (found s f) q = refl
        go missing q = absurd (clash cc)

    pub check-broken : v ≡ false → (p : ℕ) → p ≡ break_at kind row → Err (Broken p) ≡ told (check_outcome kind row)
    unfolding check_outcome
    check-broken t p k = rw (le-leb (length row) 8192 h, k) (go (form_of kind row) (sym e ∙ t))
      where
        go : (o : Found) → has_form o ≡ false → Err (Broken (break_at kind row)) ≡ told (of_found (break_at kind row) (λ s f. answer []) o)
        go (found s f) q = absurd (clash cc)
        go missing q = refl
