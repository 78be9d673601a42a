-- Bytes written one after another. Assumes nothing.
use mathlib.Core.Path.{◌≡◌, refl, sym, ◌∙◌}
use mathlib.Core.List.{List, [], ◌∷◌, ◌++◌}
use Prim.Native.Nat.{ℕ, zero, suc, ◌+◌, ◌-◌, ◌*◌, ◌≤◌, ◌<◌, ◌/◌, ◌%◌}
use native.Mathlib.Numerals.{sub-one}
use native.Mathlib.Omega.{arith}
use lib.Dec.{ltb}
use Rattle.form.proofs.HeadLaws.{gone, here}
use borrow.Author.Tests.{lt-ltb, le-ltb}
use lib.ListN.{length, get_or, drop, set, length-append, length-set}
use lib.Seq.{set_out}
use mathlib.Core.Bool.{Bool, true, false}
use Rattle.tree.specs.Form.{pick}
use Rattle.spell.specs.Spell.{digits, decimal, spaced}
use Rattle.spell.specs.Put.{put}
use Rattle.spell.specs.Internal.Writes.{Wrote}

pub put-length : (l : List ℕ) (o : ℕ) (bs : List ℕ) → length (put l o bs) ≡ length l
unfolding put
put-length l o [] = refl
put-length l o (b ∷ bs) = put-length (set l o b) (o + 1) bs ∙ length-set l o b

pub put-append : (l : List ℕ) (o : ℕ) (a b : List ℕ) → put l o (a ++ b) ≡ put (put l o a) (o + length a) b
unfolding put
put-append l o [] b = let e : o + 0 ≡ o = omega arith in rw e
put-append l o (x ∷ a) b = let e : o + suc (length a) ≡ o + 1 + length a = omega arith in rw e (put-append (set l o x) (o + 1) a b)

pub wrote_none : (o : ℕ) (a : List ℕ) → Wrote o [] a a o
unfolding Wrote put
wrote_none o a = (omega arith, refl)

pub wrote-byte : (o b : ℕ) (l : List ℕ) → Wrote o (b ∷ []) l (set l o b) (o + 1)
unfolding Wrote put
wrote-byte o b l = (refl, refl)

pub wrote-out : (o b : ℕ) (l : List ℕ) → length l ≤ o → Wrote o (b ∷ []) l l (o + 1)
unfolding Wrote put
wrote-out o b l h = (refl, sym (set_out l o b h))

-- one after the other
pub wrote-both : (o p q : ℕ) (x y a b c : List ℕ) → Wrote o x a b p → Wrote p y b c q → Wrote o (x ++ y) a c q
unfolding Wrote
wrote-both o p q x y a b c h k =
    let e = h.0 in
    let f = k.0 in
    (rw length-append (omega arith), k.1 ∙ rw (h.0, h.1, put-append a o x y))

pub wrote-next : (o p q : ℕ) (x y a b c : List ℕ) → Wrote o x a b p → Wrote (o + length x) y b c q → Wrote o (x ++ y) a c q
unfolding Wrote
wrote-next o p q x y a b c h k = wrote-both o p q x y a b c h (rw h.0 k)

pub wrote-end : (o q : ℕ) (x a b : List ℕ) → Wrote o x a b q → q ≡ o + length x
unfolding Wrote
wrote-end o q x a b h = h.0

-- digits
pub digits-few : (k n : ℕ) → length (digits k n) ≤ k
unfolding digits
digits-few zero n = omega arith
digits-few (suc k) n = go (digits-few k (n / 10)) (ltb n 10)
  where
    go : length (digits k (n / 10)) ≤ k → (b : Bool) → length (pick b ((48 + n) ∷ []) (digits k (n / 10) ++ ((48 + n % 10) ∷ []))) ≤ suc k
    go h true = omega arith
    go h false = rw length-append (omega arith)

pub no-digits : (o k n : ℕ) (a : List ℕ) → k ≡ 0 → Wrote o (digits k n) a a o
unfolding digits
no-digits o k n a e = rw e (wrote_none o a)

pub last-digit : (o k n r : ℕ) (a b : List ℕ) → (k ≡ 0 → ⊥) → n < 10 → Wrote o ((48 + n) ∷ []) a b r → Wrote o (digits k n) a b r
unfolding digits
last-digit o zero n r a b z h w = absurd (z refl)
last-digit o (suc k) n r a b z h w = rw (lt-ltb n 10 h) w

pub more-digits : (o p k n r : ℕ) (a b c : List ℕ) → (k ≡ 0 → ⊥) → 10 ≤ n → Wrote o (digits (k - 1) (n / 10)) a b p → Wrote p ((48 + n % 10) ∷ []) b c r → Wrote o (digits k n) a c r
unfolding digits
more-digits o p zero n r a b c z h w v = absurd (z refl)
more-digits o p (suc k) n r a b c z h w v = rw (le-ltb n 10 h) (wrote-both o p r _ _ a b c (rw sub-one at w) v)

pub decimal-few : (n : ℕ) → length (decimal n) ≤ 10
unfolding decimal
decimal-few n = digits-few 10 n

pub wrote-decimal : (o n r : ℕ) (a b : List ℕ) → Wrote o (digits 10 n) a b r → Wrote o (decimal n) a b r
unfolding decimal
wrote-decimal o n r a b w = w

-- words of one, two and three digits
module _ (o n : ℕ) (a b : List ℕ) where
  pub one-digit : (r : ℕ) → n < 10 → Wrote o ((48 + n) ∷ []) a b r → Wrote o (decimal n) a b r
  unfolding decimal
  one-digit r h w = last-digit o 10 n r a b (λ z. omega arith) h w

  pub two_digits : (p r : ℕ) (c : List ℕ) → 10 ≤ n → n < 100 → Wrote o ((48 + n / 10) ∷ []) a b p → Wrote p ((48 + n % 10) ∷ []) b c r → Wrote o (decimal n) a c r
  unfolding decimal
  two_digits p r c h l w v = more-digits o p 10 n r a b c (λ z. omega arith) h (last-digit o 9 (n / 10) p a b (λ z. omega arith) (omega arith) w) v

  pub three-digits : (p q r : ℕ) (c d : List ℕ) → 100 ≤ n → n < 1000 → Wrote o ((48 + n / 10 / 10) ∷ []) a b p → Wrote p ((48 + n / 10 % 10) ∷ []) b c q
      → Wrote q ((48 + n % 10) ∷ []) c d r → Wrote o (decimal n) a d r
  unfolding decimal
  three-digits p q r c d h l w v u =
      more-digits o q 10 n r a c d (λ z. omega arith) (omega arith)
      (more-digits o p 9 (n / 10) q a b c (λ z. omega arith) (omega arith) (last-digit o 8 (n / 10 / 10) p a b (λ z. omega arith) (omega arith) w) v) u

-- words, each after a space
pub spaced-more : (ws : List ℕ) (i q k j : ℕ) (a x y : List ℕ) → i < length ws → Wrote q (32 ∷ []) a x k → Wrote k (decimal (get_or ws i 0)) x y j
    → (b : List ℕ) (r : ℕ) → Wrote j (spaced (drop (i + 1) ws)) y b r → Wrote q (spaced (drop i ws)) a b r
unfolding spaced
spaced-more ws i q k j a x y h v w b r z =
    rw (here ws i h) (wrote-both q k r (32 ∷ []) _ a x b v (wrote-both k j r _ _ x y b w z))

pub spaced-none : (ws : List ℕ) (i q : ℕ) (a : List ℕ) → length ws ≤ i → Wrote q (spaced (drop i ws)) a a q
unfolding spaced
spaced-none ws i q a h = rw (gone ws i h) (wrote_none q a)

pub spaced-few : (ws : List ℕ) → length (spaced ws) ≤ 11 * length ws
unfolding spaced
spaced-few [] = omega arith
spaced-few (w ∷ ws) = rw length-append (let h = spaced-few ws in let k = decimal-few w in omega arith)
