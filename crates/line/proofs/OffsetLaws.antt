-- Signed offsets, as the code computes them. Assumes nothing.
use mathlib.Core.Path.{◌≡◌, refl, ap, sym, ◌∙◌}
use mathlib.Core.Bool.{Bool, true, false}
use mathlib.Core.List.{List, [], ◌∷◌}
use Prim.Native.Nat.{ℕ, zero, suc, ◌+◌, ◌-◌, ◌≤◌, ◌<◌}
use native.Mathlib.Numerals.{sub-one}
use native.Mathlib.Omega.{arith}
use borrow.Author.Tests.{le-leb, lt-leb, leb-true, eq-eqb, ne_eqb}
use lib.Dec.{leb, eqb}
use lib.IntN.{ℤ, pos, negsuc, ◌-ℤ◌}
use lib.ListN.{length, get_or, drop}
use mir.Syntax.{w32}
use mir.Val.{SFits, to_z, of_z}
use mir.ValLaws.{to_z-of_z, to_z_pos}
use Rattle.std.specs.Prelude.{Option, Some, None}
use Rattle.tree.specs.Form.{pick}
use Rattle.form.proofs.DecodeLaws.{clash}
use Rattle.form.proofs.HeadLaws.{gone, here}
use Rattle.line.specs.Scan.{Decimal, found, none, number, Signed, signed, unsigned, below_zero, from_zero, negative, positive, offset}
use Rattle.line.specs.Internal.Places.{number_at, offset_at}
use Rattle.line.specs.declared.turn.State.TheVariants.{Spaced}

pub pair-is : {A : Type 0} {x x' : A} {y y' : ℕ} → ◌≡◌ {A = Option (A × ℕ)} (Some (x, y)) (Some (x', y')) → (x ≡ x') × (y ≡ y')
pair-is {A} {x} {x'} {y} {y'} e =
    let z : ◌≡◌ {A = A × ℕ} (x, y) (x', y') = cc in
    (ap (λ p. p.0) z, ap (λ p. p.1) z)

minus_one : (n : ℕ) → (negsuc 0 -ℤ pos n) ≡ negsuc n
minus_one zero = refl
minus_one (suc n) = ap negsuc (omega arith)

-- the offset with the magnitude v, below zero
pub below_less : (v : ℕ) → (v ≡ 0 → ⊥) → v ≤ 2147483648 → (negsuc 0 -ℤ to_z w32 (v - 1)) ≡ negsuc (v - 1)
below_less zero n h = absurd (n refl)
below_less (suc v) n h = rw (sub-one, to_z_pos w32 v (omega arith)) (minus_one v)

pub below-fits : (v : ℕ) → (v ≡ 0 → ⊥) → v ≤ 2147483648 → SFits w32 (negsuc 0 -ℤ to_z w32 (v - 1))
below-fits v n h = rw (below_less v n h) (record { sfits = omega arith })

pub below_none : (v at : ℕ) → v ≡ 0 → None ≡ offset_at at (below_zero v 0)
unfolding offset_at below_zero
below_none v at e = rw e

pub below-far : (v at : ℕ) → 2147483648 < v → None ≡ offset_at at (below_zero v 0)
unfolding offset_at below_zero
below-far zero at h = absurd (omega arith)
below-far (suc v) at h = rw (lt-leb v 2147483647 (omega arith))

pub below-is : (v at : ℕ) → (v ≡ 0 → ⊥) → v ≤ 2147483648 → ◌≡◌ {A = Option (ℤ × ℕ)} (Some (to_z w32 (of_z w32 (negsuc 0 -ℤ to_z w32 (v - 1))), at)) (offset_at at (below_zero v 0))
unfolding offset_at below_zero
below-is zero at n h = absurd (n refl)
below-is (suc v) at n h =
    toward (suc v) n h ∙ rw (sub-one, le-leb v 2147483647 (omega arith)) (ap (λ m. Some (negsuc v, m)) (omega arith))
  where
    toward : (v : ℕ) → (v ≡ 0 → ⊥) → v ≤ 2147483648 → ◌≡◌ {A = Option (ℤ × ℕ)} (Some (to_z w32 (of_z w32 (negsuc 0 -ℤ to_z w32 (v - 1))), at)) (Some (negsuc (v - 1), at))
    toward v n h = ap (λ z. Some (z, at)) (to_z-of_z w32 _ (below-fits v n h) ∙ below_less v n h)

pub from-far : (v at : ℕ) → 2147483647 < v → None ≡ offset_at at (from_zero v 0)
unfolding offset_at from_zero
from-far v at h = rw (lt-leb v 2147483647 h)

pub from_is : (v at : ℕ) → v ≤ 2147483647 → Some (to_z w32 v, at) ≡ offset_at at (from_zero v 0)
unfolding offset_at from_zero
from_is v at h = rw (le-leb v 2147483647 h, to_z_pos w32 v (omega arith)) (ap (λ m. Some (pos v, m)) (omega arith))

-- from the number's end to the offset's start
picked : (b : Bool) (z : ℤ) (k at : ℕ) → offset_at at (pick b (signed z k) unsigned) ≡ offset_at (at + k) (pick b (signed z 0) unsigned)
unfolding offset_at
picked true z k at = ap (λ m. Some (z, m)) (omega arith)
picked false z k at = refl

below_at : (v k at : ℕ) → offset_at at (below_zero v k) ≡ offset_at (at + k) (below_zero v 0)
unfolding below_zero offset_at
below_at zero k at = refl
below_at (suc v) k at = picked (leb v 2147483647) (negsuc v) k at

from_at : (v k at : ℕ) → offset_at at (from_zero v k) ≡ offset_at (at + k) (from_zero v 0)
unfolding from_zero
from_at v k at = picked (leb v 2147483647) (pos v) k at

neg_is : (z : Decimal) (at v p : ℕ) → number_at (at + 1) z ≡ Some (v, p) → offset_at at (negative z) ≡ offset_at p (below_zero v 0)
unfolding number_at
neg_is (found w k) at v p e =
    let (a, b) = pair-is e in
    rw a (below_at v (suc k) at ∙ ap (λ m. offset_at m (below_zero v 0)) (omega arith))
neg_is none at v p e = absurd (clash cc)

pos-is : (z : Decimal) (at v p : ℕ) → number_at at z ≡ Some (v, p) → offset_at at (positive z) ≡ offset_at p (from_zero v 0)
unfolding number_at
pos-is (found w k) at v p e =
    let (a, b) = pair-is e in
    rw a (from_at v k at ∙ ap (λ m. offset_at m (from_zero v 0)) b)
pos-is none at v p e = absurd (clash cc)

neg-bad : (z : Decimal) (at : ℕ) → number_at (at + 1) z ≡ None → offset_at at (negative z) ≡ None
unfolding number_at offset_at
neg-bad (found w k) at e = absurd (clash cc)
neg-bad none at e = refl

pos-bad : (z : Decimal) (at : ℕ) → number_at at z ≡ None → offset_at at (positive z) ≡ None
unfolding number_at offset_at
pos-bad (found w k) at e = absurd (clash cc)
pos-bad none at e = refl

module _ (line : List ℕ) (at : ℕ) where
  pub offset-past : length line ≤ at → None ≡ offset_at at (offset (drop at line))
  unfolding offset offset_at
  offset-past h = rw (gone line at h)

  minus : at < length line → get_or line at 0 ≡ 45 → offset (drop at line) ≡ negative (number Spaced (drop (at + 1) line))
  unfolding offset
  minus h e = rw (here line at h, eq-eqb (get_or line at 0) 45 e)

  plain : at < length line → (get_or line at 0 ≡ 45 → ⊥) → offset (drop at line) ≡ positive (number Spaced (drop at line))
  unfolding offset
  plain h n = rw (here line at h, ne_eqb (get_or line at 0) 45 n)

  module _ (h : at < length line) {t : Option (ℕ × ℕ)} where
    pub minus_is : get_or line at 0 ≡ 45 → t ≡ number_at (at + 1) (number Spaced (drop (at + 1) line)) → (v p : ℕ) → t ≡ Some (v, p) → offset_at at (offset (drop at line)) ≡ offset_at p (below_zero v 0)
    minus_is e r v p q = rw (minus h e) (neg_is _ at v p (sym r ∙ q))

    pub minus-bad : get_or line at 0 ≡ 45 → t ≡ number_at (at + 1) (number Spaced (drop (at + 1) line)) → t ≡ None → offset_at at (offset (drop at line)) ≡ None
    minus-bad e r q = rw (minus h e) (neg-bad _ at (sym r ∙ q))

    pub plain-is : (get_or line at 0 ≡ 45 → ⊥) → t ≡ number_at at (number Spaced (drop at line)) → (v p : ℕ) → t ≡ Some (v, p) → offset_at at (offset (drop at line)) ≡ offset_at p (from_zero v 0)
    plain-is e r v p q = rw (plain h e) (pos-is _ at v p (sym r ∙ q))

    pub plain-bad : (get_or line at 0 ≡ 45 → ⊥) → t ≡ number_at at (number Spaced (drop at line)) → t ≡ None → offset_at at (offset (drop at line)) ≡ None
    plain-bad e r q = rw (plain h e) (pos-bad _ at (sym r ∙ q))

-- an offset that is read fits 32 bits
abbrev Fit : Signed → Type 0
Fit (signed z k) = SFits w32 z
Fit unsigned = Unit {0}

fit-pick : (b : Bool) (z : ℤ) (k : ℕ) → (b ≡ true → SFits w32 z) → Fit (pick b (signed z k) unsigned)
fit-pick true z k h = h refl
fit-pick false z k h = tt

fit-below : (v k : ℕ) → Fit (below_zero v k)
unfolding below_zero
fit-below zero k = tt
fit-below (suc v) k = fit-pick (leb v 2147483647) (negsuc v) k (λ e. record { sfits = let h = leb-true v 2147483647 e in omega arith })

fit-from : (v k : ℕ) → Fit (from_zero v k)
unfolding from_zero
fit-from v k = fit-pick (leb v 2147483647) (pos v) k (λ e. record { sfits = let h = leb-true v 2147483647 e in omega arith })

fit-negative : (z : Decimal) → Fit (negative z)
fit-negative (found v k) = fit-below v (suc k)
fit-negative none = tt

fit-positive : (z : Decimal) → Fit (positive z)
fit-positive (found v k) = fit-from v k
fit-positive none = tt

fit-either : (b : Bool) (x y : Signed) → Fit x → Fit y → Fit (pick b x y)
fit-either true x y f g = f
fit-either false x y f g = g

fit-offset : (l : List ℕ) → Fit (offset l)
unfolding offset
fit-offset [] = tt
fit-offset (b ∷ bs) = fit-either (eqb b 45) _ _ (fit-negative (number Spaced bs)) (fit-positive (number Spaced (b ∷ bs)))

fit_is : (at : ℕ) (s : Signed) (z : ℤ) (p : ℕ) → offset_at at s ≡ Some (z, p) → Fit s → SFits w32 z
unfolding offset_at
fit_is at (signed y k) z p e f = let (q, l) = pair-is e in rw q at f
fit_is at unsigned z p e f = absurd (clash cc)

pub offset-back : (line : List ℕ) (at : ℕ) {t : Option (ℤ × ℕ)} → t ≡ offset_at at (offset (drop at line)) → (z : ℤ) (p : ℕ) → t ≡ Some (z, p) → to_z w32 (of_z w32 z) ≡ z
offset-back line at o z p e = to_z-of_z w32 z (fit_is at (offset (drop at line)) z p (sym o ∙ e) (fit-offset (drop at line)))
