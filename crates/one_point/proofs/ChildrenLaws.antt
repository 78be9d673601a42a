-- Children one after another: the first of them, the rest, and those that are copied. Assumes nothing.
use mathlib.Core.Path.{◌≡◌, refl, ap, sym, ◌∙◌}
use mathlib.Core.Bool.{Bool, true, false}
use mathlib.Core.List.{List, ◌++◌}
use Prim.Native.Nat.{ℕ, zero, suc, ◌+◌, ◌-◌, ◌≤◌, ◌<◌}
use native.Mathlib.Numerals.{sub-one}
use native.Mathlib.Omega.{arith}
use lib.ListN.{length, take, drop, replicate, length-append, length-drop}
use Rattle.tree.specs.Form.{Form, Forms, none, more, count, encode, encode_all}
use Rattle.tree.specs.Tag.{pred}
use Rattle.form.specs.Decode.{got, no-form, Gots, gots, no-forms, add_form, decode, decode_all}
use Rattle.form.proofs.DecodeLaws.{clash, OkAll, ok-none, ok-more, all_sound}
use Rattle.reader.specs.Internal.Reads.{mark, mark_all}
use Rattle.places.specs.Internal.Wrote.{Wrote}
use Rattle.one_point.specs.Internal.Writes.{Neats, no_more, and-more}
use Rattle.one_point.specs.Internal.Scans.{read_kids, forms_of, kids_at, is_read, are_kids, end_of_all, KidsCopied}
use Rattle.places.proofs.SidesLaws.{part-words}
use Rattle.places.proofs.PartsLaws.{first-length}
use Rattle.one_point.proofs.ScanLaws.{pred-neat}
use Rattle.std.specs.Prelude.{Some, None, Option}

-- one form more in front
read_more : (f : Form) (g : Gots) → is_read (add_form f g) ≡ is_read g
read_more f (gots fs x) = refl
read_more f no-forms = refl

forms-more : (f : Form) (g : Gots) → is_read g ≡ true → forms_of (add_form f g) ≡ more f (forms_of g)
forms-more f (gots fs x) e = refl
forms-more f no-forms e = absurd (clash cc)

end_more : (f : Form) (at : ℕ) (g : Gots) → end_of_all at (add_form f g) ≡ end_of_all (at + length (encode f)) g
unfolding end_of_all
end_more f at (gots fs x) = ap Some (let l = first-length f fs in omega arith)
end_more f at no-forms = refl

module _ (row : List ℕ) (d : ℕ) where
  -- the first child, and the others
  module _ (q : ℕ) (f : Form) (stands : decode d pred (drop q row) ≡ got f (drop (q + length (encode f)) row)) where
    kids-more : (n : ℕ) → 0 < n → read_kids row d q n ≡ add_form f (read_kids row d (q + length (encode f)) (n - 1))
    unfolding decode_all
    kids-more zero h = absurd (omega arith)
    kids-more (suc n) h = rw (stands, sub-one)

    module _ (n : ℕ) (some : 0 < n) where
      pub kids-same : are_kids row d q n ≡ are_kids row d (q + length (encode f)) (n - 1)
      unfolding are_kids
      kids-same = ap is_read (kids-more n some) ∙ read_more f (read_kids row d (q + length (encode f)) (n - 1))

      pub kids-split : are_kids row d (q + length (encode f)) (n - 1) ≡ true → kids_at row d q n ≡ more f (kids_at row d (q + length (encode f)) (n - 1))
      unfolding are_kids kids_at
      kids-split e = ap forms_of (kids-more n some) ∙ forms-more f (read_kids row d (q + length (encode f)) (n - 1)) e

      pub kids-length : are_kids row d (q + length (encode f)) (n - 1) ≡ true → length (encode_all (kids_at row d q n)) ≡ length (encode f) + length (encode_all (kids_at row d (q + length (encode f)) (n - 1)))
      kids-length e = ap (λ z. length (encode_all z)) (kids-split e) ∙ first-length f (kids_at row d (q + length (encode f)) (n - 1))

      -- their marks, made from w on
      pub kids-marks : are_kids row d (q + length (encode f)) (n - 1) ≡ true → (w : ℕ) (ms : List ℕ)
          → mark_all (kids_at row d (q + length (encode f)) (n - 1)) (w + length (encode f)) 0 (mark f w 0 ms) ≡ mark_all (kids_at row d q n) w 0 ms
      unfolding mark
      kids-marks e w ms = rw (kids-split e) refl

      pub kids-next : (p w w' : ℕ) (ms ms' all : List ℕ) → p ≡ q + length (encode f) → w' ≡ w + length (encode f) → ms' ≡ mark f w 0 ms → (are_kids row d q n ≡ true → mark_all (kids_at row d q n) w 0 ms ≡ all)
          → are_kids row d p (n - 1) ≡ true → mark_all (kids_at row d p (n - 1)) w' 0 ms' ≡ all
      kids-next p w w' ms ms' all a b m h e =
          let e' : are_kids row d (q + length (encode f)) (n - 1) ≡ true = rw a at e in
          rw (a, b, m) (kids-marks e' w ms ∙ h (kids-same ∙ e'))

      pub end-next : (p : ℕ) → p ≡ q + length (encode f) → end_of_all p (read_kids row d p (n - 1)) ≡ end_of_all q (read_kids row d q n)
      end-next p e = rw e (sym (ap (end_of_all q) (kids-more n some) ∙ end_more f q (read_kids row d (q + length (encode f)) (n - 1))))

  -- a first child that is no predicate
  module _ (q : ℕ) (lost : decode d pred (drop q row) ≡ no-form) where
    kids-lost : (n : ℕ) → 0 < n → read_kids row d q n ≡ no-forms
    unfolding decode_all
    kids-lost zero h = absurd (omega arith)
    kids-lost (suc n) h = rw lost

    pub kids-no : (n : ℕ) → 0 < n → are_kids row d q n ≡ false
    unfolding are_kids
    kids-no n h = rw (kids-lost n h)

    pub end-bad : (n : ℕ) → 0 < n → None ≡ end_of_all q (read_kids row d q n)
    unfolding end_of_all
    end-bad n h = rw (kids-lost n h)

  pub kids-none : (q n : ℕ) → n ≤ 0 → kids_at row d q n ≡ none
  unfolding kids_at decode_all
  kids-none q zero h = refl
  kids-none q (suc n) h = absurd (omega arith)

  pub marks-none : (q n w : ℕ) (ms : List ℕ) → n ≤ 0 → mark_all (kids_at row d q n) w 0 ms ≡ ms
  unfolding mark
  marks-none q n w ms h = rw (kids-none q n h) refl

  pub end_none : (q n : ℕ) → n ≤ 0 → Some q ≡ end_of_all q (read_kids row d q n)
  unfolding end_of_all decode_all encode
  end_none q zero h = ap Some (omega arith)
  end_none q (suc n) h = absurd (omega arith)

  -- where children end that are read
  pub kids-bad : (q n : ℕ) (r : Option ℕ) → r ≡ end_of_all q (read_kids row d q n) → r ≡ None → are_kids row d q n ≡ false
  unfolding end_of_all are_kids
  kids-bad q n r e k = go (read_kids row d q n) e
    where
      go : (g : Gots) → r ≡ end_of_all q g → is_read g ≡ false
      go (gots fs x) e = absurd (clash cc)
      go no-forms e = refl

  module _ (q n : ℕ) (r : Option ℕ) (to : ℕ) (e : r ≡ end_of_all q (read_kids row d q n)) (k : r ≡ Some to) where
    pub kids-read : (are_kids row d q n ≡ true) × (to ≡ q + length (encode_all (kids_at row d q n)))
    unfolding end_of_all are_kids kids_at
    kids-read = go (read_kids row d q n) e
      where
        go : (g : Gots) → r ≡ end_of_all q g → (is_read g ≡ true) × (to ≡ q + length (encode_all (forms_of g)))
        go (gots fs x) e = (refl, cc)
        go no-forms e = absurd (clash cc)

  pub kids-lost-all : (at n q m : ℕ) → are_kids row d at n ≡ are_kids row d q m → are_kids row d q m ≡ false → are_kids row d at n ≡ true → ⊥
  kids-lost-all at n q m a b e = go (are_kids row d at n) (a ∙ b) e
    where
      go : (c : Bool) → c ≡ false → c ≡ true → ⊥
      go true x y = clash cc
      go false x y = clash cc

  counted : (n : ℕ) {fs : Forms} → OkAll d (replicate n pred) fs → count fs ≡ n
  counted zero ok-none = refl
  counted (suc n) (ok-more h k) = ap suc (counted n k)

  neats : (n : ℕ) {fs : Forms} → OkAll d (replicate n pred) fs → Neats fs
  neats zero ok-none = no_more
  neats (suc n) (ok-more {f = f} h k) = and-more (pred-neat d f h) (neats n k)

  -- children copied
  module _ (q n : ℕ) (are : are_kids row d q n ≡ true) where
    kids-words : (x : List ℕ) × (drop q row ≡ encode_all (kids_at row d q n) ++ x) × OkAll d (replicate n pred) (kids_at row d q n)
    unfolding are_kids kids_at
    kids-words = go (read_kids row d q n) refl are
      where
        go : (g : Gots) → read_kids row d q n ≡ g → is_read g ≡ true → (x : List ℕ) × (drop q row ≡ encode_all (forms_of g) ++ x) × OkAll d (replicate n pred) (forms_of g)
        go (gots fs x) e h = let (v, o) = all_sound d (replicate n pred) (drop q row) fs x e in (x, v, o)
        go no-forms e h = absurd (clash cc)

    pub kids-copied : (w k to end : ℕ) (out out' : List ℕ) → to ≡ q + length (encode_all (kids_at row d q n)) → Wrote w out (take (to - q) (drop q row)) end out' → KidsCopied (kids_at row d q n) w out k end (k + n) out'
    unfolding KidsCopied
    kids-copied w k to end out out' l t =
        let (x, v, o) = kids-words in
        let c : take (to - q) (drop q row) ≡ encode_all (kids_at row d q n) = part-words row (encode_all (kids_at row d q n)) x q to v l in
        (rw c at t, ap (λ z. k + z) (sym (counted n o)), neats n o)

    pub kids-inside : q ≤ length row → q + length (encode_all (kids_at row d q n)) ≤ length row
    kids-inside h =
        let (x, v, o) = kids-words in
        let l = ap length v ∙ length-append (encode_all (kids_at row d q n)) x in
        let m = length-drop q row in
        omega arith
