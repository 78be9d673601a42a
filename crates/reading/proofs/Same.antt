-- The test of equality on whole numbers: it holds exactly of equal numbers, and in both directions alike. Truths read back. Assumes nothing.
use mathlib.Core.Path.{◌≡◌, refl, ap}
use mathlib.Core.Bool.{Bool, true, false}
use Prim.Native.Nat.{ℕ, zero, suc}
use borrow.Author.Tests.{eqb-true, eq-eqb}
use lib.Dec.{eqb, eqb-zero-suc, eqb-suc-zero, eqb-suc-suc}
use lib.IntN.{ℤ, pos, negsuc}
use Rattle.form.proofs.DecodeLaws.{clash}
use Rattle.reading.specs.Reading.{bit, truth, same}

pub truth-bit : (b : Bool) → truth (bit b) ≡ b
truth-bit true = refl
truth-bit false = refl

pub not-true : (b : Bool) → (b ≡ true → ⊥) → b ≡ false
not-true true h = absurd (h refl)
not-true false h = refl

pub same_refl : (a : ℤ) → same a a ≡ true
same_refl (pos a) = eq-eqb a a refl
same_refl (negsuc a) = eq-eqb a a refl

pub same-equal : (a b : ℤ) → same a b ≡ true → a ≡ b
same-equal (pos a) (pos b) e = ap pos (eqb-true a b e)
same-equal (pos a) (negsuc b) e = absurd (clash cc)
same-equal (negsuc a) (pos b) e = absurd (clash cc)
same-equal (negsuc a) (negsuc b) e = ap negsuc (eqb-true a b e)

pub different : (a b : ℤ) → same a b ≡ false → a ≡ b → ⊥
different a b q e =
    let t : same b b ≡ true = same_refl b in
    clash cc

eqb_comm : (a b : ℕ) → eqb a b ≡ eqb b a
eqb_comm zero zero = refl
eqb_comm zero (suc b) = rw (eqb-zero-suc, eqb-suc-zero)
eqb_comm (suc a) zero = rw (eqb-zero-suc, eqb-suc-zero)
eqb_comm (suc a) (suc b) = rw (eqb-suc-suc a b, eqb-suc-suc b a) (eqb_comm a b)

pub same-comm : (a b : ℤ) → same a b ≡ same b a
same-comm (pos a) (pos b) = eqb_comm a b
same-comm (pos a) (negsuc b) = refl
same-comm (negsuc a) (pos b) = refl
same-comm (negsuc a) (negsuc b) = eqb_comm a b
