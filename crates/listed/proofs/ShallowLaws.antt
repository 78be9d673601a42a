-- A row read first as a form at most so deep, and then as any form. Assumes nothing.
use mathlib.Core.Path.{◌≡◌, refl, ap, sym, ◌∙◌}
use mathlib.Core.Bool.{Bool, true, false}
use mathlib.Core.List.{List}
use Prim.Native.Nat.{ℕ, ◌≤◌}
use native.Mathlib.Omega.{arith}
use lib.ListN.{length, take, replicate}
use Rattle.tree.specs.Form.{Form, pick, encode}
use Rattle.tree.specs.Tag.{Sort}
use Rattle.form.specs.Break.{break_at}
use Rattle.form.specs.Decode.{decode, Whole, one, not-one, whole, row_form, Found, found, missing, as_sort, form_of}
use Rattle.reader.specs.Internal.Reads.{mark, Told, decode_in, Marked, as_expr, of_kind}
use Rattle.form.specs.declared.answer.Kind.{Kind}
use Rattle.std.specs.Prelude.{Some, None, Option}
use Rattle.form.proofs.DecodeLaws.{clash, Ok}
use Rattle.reader.proofs.ReaderLaws.{in-decode}
use Rattle.reader.proofs.CheckLaws.{sort_for, kind-found, read-bad, read_whole, read-part}
use Rattle.form.proofs.RowLaws.{whole-exact, row-encode}
use Rattle.shift.specs.Internal.Items.{store}
use Rattle.shift.proofs.CheckedLaws.{Checked, marks-of, not_found}
use Rattle.replace.specs.Internal.Pieces.{has_form}
use Rattle.listed.specs.Internal.Listed.{shallow_form, reading_of}
use Rattle.replace.proofs.MarkLaws.{marked-front}
use Rattle.rules.proofs.OkLaws.{ok-deep}
use Rattle.form.specs.declared.answer.Refusal.TheVariants.{TooLong, Broken}

pub told-shallow : (deep : ℕ) → deep ≤ 64 → (s : Sort) (row a b : List ℕ) (r : Option ℕ) → Told 0 0 (decode_in deep 0 s row) a b r → Told 0 0 (decode deep s row) a b r
told-shallow deep most s row a b r t = rw (in-decode s row deep 0 (omega arith) (omega arith)) at t

module _ (deep : ℕ) (most : deep ≤ 64) (kind : Kind) (row : List ℕ) where
  shallow-of : (x : Bool) → x ≡ as_expr kind row → (w : Whole) → whole (decode deep (sort_for x) row) ≡ w → shallow_form deep kind row ≡ pick (of_kind kind row) (as_sort (sort_for x) w) missing
  unfolding shallow_form
  shallow-of x k w e = rw (← k, e)

  shallow-none : (x : Bool) → x ≡ as_expr kind row → whole (decode deep (sort_for x) row) ≡ not-one → shallow_form deep kind row ≡ missing
  shallow-none x k e = shallow-of x k not-one e ∙ go (of_kind kind row)
    where
      go : (b : Bool) → pick b missing missing ≡ missing
      go true = refl
      go false = refl

  -- by the reader's answer
  module _ (a b : List ℕ) (x : Bool) (k : x ≡ as_expr kind row) (r : Option ℕ) (t : Told 0 0 (decode deep (sort_for x) row) a b r) where
    pub shallow-bad : r ≡ None → (false ≡ has_form (shallow_form deep kind row)) × Marked (shallow_form deep kind row) a b
    unfolding Marked
    shallow-bad e = rw (shallow-none x k (read-bad deep (sort_for x) row a b r t e)) (refl, tt)

    pub shallow-part : (p : ℕ) → r ≡ Some p → (p ≡ length row → ⊥) → (false ≡ has_form (shallow_form deep kind row)) × Marked (shallow_form deep kind row) a b
    unfolding Marked
    shallow-part p e n = rw (shallow-none x k (read-part deep (sort_for x) row a b r t p e n)) (refl, tt)

    pub shallow-whole : (p : ℕ) → r ≡ Some p → p ≡ length row → (v : Bool) → v ≡ of_kind kind row → (v ≡ has_form (shallow_form deep kind row)) × Marked (shallow_form deep kind row) a b
    unfolding Marked
    shallow-whole p e q v o =
        let (f, w, m) = read_whole deep (sort_for x) row a b r t p e q in
        rw (shallow-of x k (one f) w) (go f m (of_kind kind row) o)
      where
        go : (f : Form) → b ≡ mark f 0 0 a → (c : Bool) → v ≡ c → (v ≡ has_form (pick c (found (sort_for x) f) missing)) × Marked (pick c (found (sort_for x) f) missing) a b
        go f m true o = (o, m)
        go f m false o = (o, tt)

  -- it is the row's form
  shallow-exact : (s : Sort) (f : Form) → shallow_form deep kind row ≡ found s f → (sort_for (as_expr kind row) ≡ s) × (row ≡ encode f) × Ok deep s f × (of_kind kind row ≡ true)
  shallow-exact s f e = go (whole (decode deep (sort_for (as_expr kind row)) row)) refl (of_kind kind row) refl
    where
      go : (w : Whole) → whole (decode deep (sort_for (as_expr kind row)) row) ≡ w → (c : Bool) → of_kind kind row ≡ c → (sort_for (as_expr kind row) ≡ s) × (row ≡ encode f) × Ok deep s f × (of_kind kind row ≡ true)
      go (one g) q true k =
          let c = shallow-of (as_expr kind row) refl (one g) q in
          let is : found (sort_for (as_expr kind row)) g ≡ found s f = sym (rw k at c) ∙ e in
          let a : sort_for (as_expr kind row) ≡ s = cc in
          let b : g ≡ f = cc in
          let (w, o) = whole-exact deep (sort_for (as_expr kind row)) row g q in
          (a, w ∙ ap encode b, rw (a, b) at o, k)
      go (one g) q false k =
          let c = shallow-of (as_expr kind row) refl (one g) q in
          let none : shallow_form deep kind row ≡ missing = rw k at c in
          absurd (clash cc)
      go not-one q c k = let none = shallow-none (as_expr kind row) refl q in absurd (clash cc)

  shallow-same : length row ≤ 8192 → (s : Sort) (f : Form) → shallow_form deep kind row ≡ found s f → form_of kind row ≡ found s f
  shallow-same h s f e =
      let (a, w, o, k) = shallow-exact s f e in
      kind-found kind row s f a (row-whole w o) k
    where
      row-whole : row ≡ encode f → Ok deep s f → row_form s row ≡ one f
      row-whole w o = rw w (row-encode (ok-deep o 64 (omega arith)) (rw w at h))

  module _ (short : length row ≤ 8192) where
    -- the ends of the reading
    pub taken-shallow : has_form (shallow_form deep kind row) ≡ true → (l l' m : List ℕ) → length row ≤ length l → l' ≡ store l 0 (replicate (length row) 0) → Marked (shallow_form deep kind row) l' m
        → (Some true ≡ reading_of (shallow_form deep kind row) (form_of kind row)) × Marked (form_of kind row) (replicate (length row) 0) (take (length row) m)
    taken-shallow y l l' m h z k = go (shallow_form deep kind row) refl y
      where
        go : (o : Found) → shallow_form deep kind row ≡ o → has_form o ≡ true → (Some true ≡ reading_of (shallow_form deep kind row) (form_of kind row)) × Marked (form_of kind row) (replicate (length row) 0) (take (length row) m)
        go (found s f) e q =
            let c : shallow_form deep kind row ≡ form_of kind row = e ∙ sym (shallow-same short s f e) in
            (rw e, marked-front kind row l l' m h z (rw c at k))
        go missing e q = absurd (clash cc)

    module _ (n : has_form (shallow_form deep kind row) ≡ false) (v : Bool) (e : v ≡ has_form (form_of kind row)) where
      pub taken-deep : v ≡ true → Some false ≡ reading_of (shallow_form deep kind row) (form_of kind row)
      taken-deep d = go (shallow_form deep kind row) (form_of kind row) refl refl n (sym e ∙ d)
        where
          go : (o p : Found) → shallow_form deep kind row ≡ o → form_of kind row ≡ p → has_form o ≡ false → has_form p ≡ true → Some false ≡ reading_of (shallow_form deep kind row) (form_of kind row)
          go (found s f) p a b x y = absurd (clash cc)
          go missing (found s f) a b x y = rw (a, b)
          go missing missing a b x y = absurd (clash cc)

      pub refused-row : v ≡ false → None ≡ reading_of (shallow_form deep kind row) (form_of kind row)
      refused-row d = go (shallow_form deep kind row) refl n
        where
          go : (o : Found) → shallow_form deep kind row ≡ o → has_form o ≡ false → None ≡ reading_of (shallow_form deep kind row) (form_of kind row)
          go (found s f) a x = absurd (clash cc)
          go missing a x = rw (a, not_found (form_of kind row) v e d)

-- the reading taken apart
module _ (deep : ℕ) (most : deep ≤ 64) (kind : Kind) (row : List ℕ) where
  pub reading-missing : (r : Option Bool) → r ≡ reading_of (shallow_form deep kind row) (form_of kind row) → r ≡ None → form_of kind row ≡ missing
  reading-missing r e d = go (shallow_form deep kind row) (form_of kind row) refl refl
    where
      go : (o p : Found) → shallow_form deep kind row ≡ o → form_of kind row ≡ p → form_of kind row ≡ missing
      go (found s f) p a b = let x = rw a at e in absurd (clash cc)
      go missing (found s f) a b = let x = rw (a, b) at e in absurd (clash cc)
      go missing missing a b = b

  taken-found : length row ≤ 8192 → (r : Option Bool) (j : Bool) → r ≡ reading_of (shallow_form deep kind row) (form_of kind row) → r ≡ Some j → (s : Sort) × (f : Form) × (form_of kind row ≡ found s f) × (j ≡ true → Ok deep s f)
  taken-found h r j e d = go (shallow_form deep kind row) (form_of kind row) refl refl
    where
      go : (o p : Found) → shallow_form deep kind row ≡ o → form_of kind row ≡ p → (s : Sort) × (f : Form) × (form_of kind row ≡ found s f) × (j ≡ true → Ok deep s f)
      go (found s f) p a b = (s, f, shallow-same deep most kind row h s f a, λ y. (shallow-exact deep most kind row s f a).2)
      go missing (found s f) a b = let x = rw (a, b) at e in (s, f, b, λ y. absurd (clash cc))
      go missing missing a b = let x = rw (a, b) at e in absurd (clash cc)

  module _ (m : List ℕ) (n : ℕ) (before : List ℕ) (zero-marks : before ≡ replicate n 0) where
    pub reading-checked : (r : Option Bool) (j : Bool) → length row ≤ 8192 → r ≡ reading_of (shallow_form deep kind row) (form_of kind row) → r ≡ Some j → Marked (form_of kind row) before m → Checked kind row m n
    reading-checked r j h e d k =
        let (s, f, q, o) = taken-found h r j e d in
        marks-of kind row m n before zero-marks s f q k

  pub reading-shallow : (m : List ℕ) (n : ℕ) (x : Checked kind row m n) (r : Option Bool) (j : Bool) → r ≡ reading_of (shallow_form deep kind row) (form_of kind row) → r ≡ Some j → j ≡ true → Ok deep x.sort x.form
  reading-shallow m n x r j e d y =
      let (s, f, q, o) = taken-found x.short r j e d in
      go s f q (o y)
    where
      go : (s : Sort) (f : Form) → form_of kind row ≡ found s f → Ok deep s f → Ok deep x.sort x.form
      go s f q o =
          let i = x.is_found in
          let a : s ≡ x.sort = cc in
          let b : f ≡ x.form = cc in
          rw (a, b) at o

-- a list that is too long: the row's own refusal comes first
module _ (kind : Kind) (row : List ℕ) where
  pub list-refused : (v : Bool) → v ≡ has_form (form_of kind row) → v ≡ false → (p : ℕ) → p ≡ break_at kind row → Broken p ≡ pick (has_form (form_of kind row)) TooLong (Broken (break_at kind row))
  list-refused v e d p k = rw (k, sym e ∙ d)

  pub list-long : (v : Bool) → v ≡ has_form (form_of kind row) → v ≡ true → TooLong ≡ pick (has_form (form_of kind row)) TooLong (Broken (break_at kind row))
  list-long v e d = rw (sym e ∙ d)
