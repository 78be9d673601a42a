-- The fewest words that must still come, by what comes next. Assumes nothing.
use mathlib.Core.Path.{◌≡◌, refl}
use mathlib.Core.Bool.{Bool, true, false, ◌&&◌}
use mathlib.Core.List.{List, [], ◌∷◌}
use Prim.Native.Nat.{ℕ, zero, suc, ◌+◌, ◌*◌, ◌≤◌}
use native.Mathlib.Nat.{le_refl}
use native.Mathlib.Omega.{arith}
use borrow.Author.Tests.{leb-true, ne_eqb}
use lib.Dec.{leb, eqb}
use Rattle.tree.specs.Form.{pick, between}
use Rattle.form.specs.Break.{Next, word, note, parts, never, low_flag, decls_next, Open, rest, least_form, least, least_all, after}
use Rattle.form.proofs.DecodeLaws.{clash}

-- the fewest words, by what comes next
module _ (d : ℕ) (x : Open) where
  pub open-rest : (o : Next) → least_all (rest d o x) ≡ least d o + least_all x
  unfolding least_all
  open-rest o = refl

  pub open-word : (lo hi : ℕ) (k : ℕ → Next) → least_all (rest d (word lo hi k) x) ≡ suc (least_all (rest d (k lo) x))
  unfolding least_all least
  open-word lo hi k = omega arith

  pub open-note : (k : Next) → least_all (rest d (note k) x) ≡ least_form d + least_all (rest d k x)
  unfolding least_all least
  open-note k = omega arith

  pub open-nil : least_all (rest d (parts 0 0 0) x) ≡ least_all x
  unfolding least_all least
  open-nil = omega arith

  pub open-never : least_all (rest d never x) ≡ 8193 + least_all x
  unfolding least_all least
  open-never = refl

pub open-name : (d : ℕ) (x : Open) (n p e : ℕ) → least_all (rest d (parts (suc n) p e) x) ≡ suc (least_all (rest d (parts n p e) x))
unfolding least_all least
open-name zero x n p e = omega arith
open-name (suc d) x n p e = omega arith

pub open-pred : (d : ℕ) (x : Open) (p e : ℕ) → least_all (rest d (parts 0 (suc p) e) x) ≡ least_form d + least_all (rest d (parts 0 p e) x)
unfolding least_all least
open-pred zero x p e = omega arith
open-pred (suc d) x p e = omega arith

pub open-expr : (d : ℕ) (x : Open) (e : ℕ) → least_all (rest d (parts 0 0 (suc e)) x) ≡ least_form d + least_all (rest d (parts 0 0 e) x)
unfolding least_all least
open-expr zero x e = omega arith
open-expr (suc d) x e = omega arith

-- every word is taken, and nothing must come after the last
unfoldable pub Runs : Bool → (ℕ → Next) → ℕ → Open → List ℕ → Type 0
Runs named z at x [] = (at ≤ 8192) × (least_all x ≡ 0)
Runs named z at x (w ∷ ws) = (at + least_all x ≤ 8192) × Runs named z (suc at) (after named z x w) ws

-- words of a node's own in which the least count takes the fewest words, and is a count
pub data Fine : Next → Type 0 where
  fine-word : {lo hi : ℕ} {k : ℕ → Next} → between lo hi lo ≡ true → ((w d : ℕ) → between lo hi w ≡ true → least d (k lo) ≤ least d (k w)) → ((w : ℕ) → Fine (k w)) → Fine (word lo hi k)
  fine-note : {k : Next} → Fine k → Fine (note k)
  fine-parts : {n p e : ℕ} → Fine (parts n p e)
  fine-never : Fine never

pub fine-least : {lo hi : ℕ} {k : ℕ → Next} → Fine (word lo hi k) → (w d : ℕ) → between lo hi w ≡ true → least d (k lo) ≤ least d (k w)
fine-least (fine-word u v f) w d t = v w d t

-- the limits of a word
pub least-of : (lo hi w : ℕ) → between lo hi w ≡ true → lo ≤ w
least-of lo hi w e = leb-true lo w (left (leb lo w) e)
  where
    left : (b : Bool) → (b && leb w hi) ≡ true → b ≡ true
    left true e = refl
    left false e = absurd (clash cc)

pub most-of : (lo hi w : ℕ) → between lo hi w ≡ true → w ≤ hi
most-of lo hi w e = leb-true w hi (right (leb lo w) e)
  where
    right : (b : Bool) → (b && leb w hi) ≡ true → leb w hi ≡ true
    right true e = e
    right false e = absurd (clash cc)

-- declarations with flags: two words each, and an annotation if none came
module _ (d p e : ℕ) where
  pub came-least : (n : ℕ) → least d (decls_next true n p e) ≡ 2 * n + least d (parts 0 p e)
  unfolding least decls_next
  came-least zero = omega arith
  came-least (suc n) = let h = came-least n in omega arith

  pub none-least : (n : ℕ) → least d (decls_next false (suc n) p e) ≡ 2 * suc n + (least_form d + least d (parts 0 p e))
  unfolding least decls_next
  none-least zero = let h = came-least zero in omega arith
  none-least (suc n) = let h = none-least n in omega arith

abbrev pub flag_next : Bool → ℕ → ℕ → ℕ → ℕ → Next
flag_next came n p e flag = pick (eqb flag 0) (decls_next came n p e) (note (decls_next true n p e))

flag-least : (came : Bool) (n p e w d : ℕ) → between (low_flag came n) 1 w ≡ true → least d (flag_next came n p e (low_flag came n)) ≤ least d (flag_next came n p e w)
unfolding least
flag-least came n p e (suc (suc w)) d t = let h = most-of (low_flag came n) 1 (suc (suc w)) t in absurd (omega arith)
flag-least true n p e zero d t = le_refl _
flag-least true n p e (suc zero) d t = omega arith
flag-least false zero p e zero d t = absurd (clash cc)
flag-least false zero p e (suc zero) d t = le_refl _
flag-least false (suc n) p e zero d t = le_refl _
flag-least false (suc n) p e (suc zero) d t = let h = none-least d p e n in let k = came-least d p e (suc n) in omega arith

low-flag : (came : Bool) (n : ℕ) → between (low_flag came n) 1 (low_flag came n) ≡ true
low-flag true n = refl
low-flag false zero = refl
low-flag false (suc n) = refl

pub one-flag : (came : Bool) (n : ℕ) → between (low_flag came n) 1 1 ≡ true
one-flag true n = refl
one-flag false zero = refl
one-flag false (suc n) = refl

flag-fine : (came : Bool) (n p e : ℕ) → Fine (decls_next came n p e) → Fine (decls_next true n p e) → (w : ℕ) → Fine (flag_next came n p e w)
flag-fine came n p e f g zero = f
flag-fine came n p e f g (suc w) = rw (ne_eqb (suc w) 0 (λ h. omega arith)) (fine-note g)

pub decls-fine : (came : Bool) (n p e : ℕ) → Fine (decls_next came n p e)
unfolding decls_next
decls-fine true zero p e = fine-parts
decls-fine false zero p e = fine-never
decls-fine came (suc n) p e =
    let f = fine-word (low-flag came n) (λ w d t. flag-least came n p e w d t) (flag-fine came n p e (decls-fine came n p e) (decls-fine true n p e)) in
    fine-word refl (λ w d t. le_refl _) (λ w. f)

pub flags-grow : (d p e n : ℕ) → 1 ≤ n → least d (decls_next false 1 p e) ≤ least d (decls_next false n p e)
flags-grow d p e zero h = absurd (omega arith)
flags-grow d p e (suc n) h = let a = none-least d p e 0 in let b = none-least d p e n in omega arith
