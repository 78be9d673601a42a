-- One declaration filled, those after it kept: the value of what is filled. Assumes nothing.
use mathlib.Core.Path.{◌≡◌, refl, ap, ◌∙◌, sym}
use mathlib.Core.Bool.{true}
use mathlib.Core.List.{List, [], ◌∷◌, ◌++◌, reverse, reverse_aux-eq}
use Prim.Native.Nat.{ℕ, zero, suc, ◌+◌, ◌-◌, ◌≤◌}
use native.Mathlib.Nat.{zero-add, add-zero}
use native.Mathlib.Omega.{arith}
use borrow.Author.Tests.{leb-true}
use lib.IntN.{ℤ, pos}
use lib.ListN.{length, replicate, length-replicate}
use Rattle.tree.specs.Form.{bound, Form, leaf}
use Rattle.form.specs.Lists.{kept, filled}
use Rattle.rules.specs.Walk.{Outer, named, dangling, walk, up, lift, put, subst}
use Rattle.rules.specs.Shift.{reaches, fall, lower}
use Rattle.rules.specs.Fill.{fill_index, fill_for}
use Rattle.rules.proofs.WalkLaws.{binding-add, self, undo}
use Rattle.rules.specs.Replacement.{above}
use Rattle.rules.proofs.FrontLaws.{reverse-kept, kept-count}
use Rattle.reading.specs.Reading.{Reading, Env, cons, value}
use Rattle.reading.specs.Premise.{push, read_in_body}
use Rattle.reading.proofs.ValueLaws.{outer_value, push-add, lift-value, subst-value}

-- index j, with b the values of the declarations kept inside the filled one
module _ (R : Reading) (e : Form) (η ρ : Env) (m : ℕ) (there : value R ρ (lift m e) ≡ value R η e) (past : (x : ℕ) → ρ (m + x) ≡ η x) where
  fill_index-value : (b : List ℤ) (k : ℕ) → ((x : ℕ) → ρ (k + x) ≡ push b η x) → (j : ℕ)
      → value R ρ (fill_index m k (replicate (length b) kept ++ (filled e ∷ [])) j) ≡ push b (cons (value R η e) η) j
  unfolding value
  fill_index-value [] k h zero = there
  fill_index-value [] k h (suc j) = past j
  fill_index-value (v ∷ b) k h zero = rw add-zero at (h 0)
  fill_index-value (v ∷ b) k h (suc j) =
      fill_index-value b (suc k)
      (λ x.
      let z : suc k + x ≡ k + suc x = omega arith in
      rw z (h (suc x)))
      j

-- the places from the innermost outwards
reverse-filled : (e : Form) (n : ℕ) → reverse (filled e ∷ replicate n kept) ≡ replicate n kept ++ (filled e ∷ [])
reverse-filled e n = reverse_aux-eq (replicate n kept) (filled e ∷ []) ∙ ap (λ z. z ++ (filled e ∷ [])) (reverse-kept n)

-- the filled form under the values c of what is kept: the form, with the replacement's value put in
module _ (R : Reading) (e : Form) (η : Env) (c : List ℤ) where
  fill_for-value : (x : Outer) → value R (push c η) (fill_for (filled e ∷ replicate (length c) kept) x) ≡ outer_value R (push c (cons (value R η e) η)) x
  unfolding value
  fill_for-value (named n) = refl
  fill_for-value (dangling j) =
      rw (reverse-filled e (length c), kept-count (length c))
      (fill_index-value R e η (push c η) (length c) (lift-value R c η e) (push-add c η) c 0 (λ x. rw zero-add) j)

  pub fill-value : (f : Form)
      → value R (push c η) (subst (fill_for (filled e ∷ replicate (length c) kept)) f) ≡ value R (push c (cons (value R η e) η)) f
  fill-value f = subst-value R (fill_for (filled e ∷ replicate (length c) kept)) (push c (cons (value R η e) η)) (push c η) fill_for-value f

-- shifted down and lifted again: the same, where no index is below
fall-lift : (n k : ℕ) (x : Outer) → reaches n k x ≡ true → walk (up n) k (put (fall n) k x) ≡ self k x
unfolding walk
fall-lift n k (named m) q = refl
fall-lift n k (dangling j) q =
    let a : 0 + (j - n + k) ≡ k + (j - n) = omega arith in
    let l : n ≤ j = leb-true n j q in
    rw (a, binding-add) (ap (λ z. leaf (bound z)) (omega arith))

pub lift-lower : (i : ℕ) (e : Form) → above i e ≡ true → lift (suc i) (lower (suc i) e) ≡ e
lift-lower i e h = undo (up (suc i)) (put (fall (suc i))) (reaches (suc i)) (fall-lift (suc i)) 0 e h

-- the replacement read in the body, whatever the target and what follows it have, has the value of what stands for the target
read_under : (R : Reading) (i : ℕ) (e : Form) (η : Env) → above i e ≡ true → (c : List ℤ) → length c ≡ suc i
    → value R (push c η) e ≡ value R η (lower (suc i) e)
read_under R i e η h c q = ap (value R (push c η)) (sym (lift-lower i e h)) ∙ (rw q at (lift-value R c η (lower (suc i) e)))

pub read-lowered : (R : Reading) (i : ℕ) (e : Form) (η : Env) → above i e ≡ true → read_in_body R i e η ≡ value R η (lower (suc i) e)
read-lowered R i e η h = read_under R i e η h (replicate (suc i) (pos 0)) (length-replicate (suc i) (pos 0))

-- so the zeros of the premise stand for any values
pub read-any : (R : Reading) (i : ℕ) (e : Form) (η : Env) → above i e ≡ true → (c : List ℤ) → length c ≡ suc i → value R (push c η) e ≡ read_in_body R i e η
read-any R i e η h c q = read_under R i e η h c q ∙ sym (read-lowered R i e η h)
