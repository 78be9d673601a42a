-- Lists in which one element is repeated: an element, the first ones, those after them, and what a function makes of them. Assumes nothing.
use mathlib.Core.Path.{◌≡◌, refl, ap, ◌∙◌}
use mathlib.Core.List.{◌∷◌, map}
use Prim.Native.Nat.{ℕ, zero, suc, ◌-◌, ◌≤◌}
use native.Mathlib.Omega.{arith}
use lib.ListN.{get_or, take, drop, replicate}

pub replicate-at : {A : Type 0} (n i : ℕ) (a : A) → get_or (replicate n a) i a ≡ a
replicate-at zero i a = refl
replicate-at (suc n) zero a = refl
replicate-at (suc n) (suc i) a = replicate-at n i a

pub replicate-front : {A : Type 0} (i n : ℕ) (a : A) → i ≤ n → take i (replicate n a) ≡ replicate i a
replicate-front zero n a h = refl
replicate-front (suc i) zero a h = absurd (omega arith)
replicate-front (suc i) (suc n) a h = ap (λ z. a ∷ z) (replicate-front i n a (omega arith))

pub replicate-past : {A : Type 0} (i n : ℕ) (a : A) → drop i (replicate n a) ≡ replicate (n - i) a
replicate-past zero n a = let e : n ≡ n - 0 = omega arith in ap (λ z. replicate z a) e
replicate-past (suc i) zero a = let e : 0 ≡ 0 - suc i = omega arith in ap (λ z. replicate z a) e
replicate-past (suc i) (suc n) a = let e : n - i ≡ suc n - suc i = omega arith in replicate-past i n a ∙ ap (λ z. replicate z a) e

pub map-replicate : {A B : Type 0} (f : A → B) (n : ℕ) (a : A) → map f (replicate n a) ≡ replicate n (f a)
map-replicate f zero a = refl
map-replicate f (suc n) a = ap (λ z. f a ∷ z) (map-replicate f n a)
