-- The rest of a node as the code holds it: what its names and children say. Assumes nothing.
use mathlib.Core.Path.{◌≡◌, refl}
use mathlib.Core.Bool.{Bool, true, false}
use Prim.Native.Nat.{ℕ, zero, suc, ◌+◌, ◌-◌, ◌*◌, ◌≤◌, ◌<◌}
use native.Mathlib.Omega.{arith}
use borrow.Author.Tests.{le-leb, lt-leb, lt-ltb, eq-eqb, ne_eqb}
use lib.Dec.{ltb}
use Rattle.form.specs.Break.{Next, word, note, parts, never, decls_next, least}
use Rattle.form.proofs.LeastLaws.{came-least, none-least}
use Rattle.broken.specs.Internal.Seeks.{after_flag, flag_next, is_own, after_word}

pub own-kids : (n p e : ℕ) → ltb 0 n ≡ is_own (parts n p e)
unfolding is_own
own-kids zero p e = refl
own-kids (suc n) p e = lt-ltb 0 (suc n) (omega arith)

pub no_name : (n p e w : ℕ) → n ≡ 0 → parts n p e ≡ after_word (parts n p e) w
unfolding after_word
no_name zero p e w h = refl
no_name (suc n) p e w h = absurd (omega arith)

pub wide-name : (n p e w : ℕ) → (n ≡ 0 → ⊥) → 65535 < w → never ≡ after_word (parts n p e) w
unfolding after_word
wide-name zero p e w h k = absurd (h refl)
wide-name (suc n) p e w h k = rw (le-leb 0 w (omega arith), lt-leb w 65535 k)

pub one_name : (n p e w : ℕ) → (n ≡ 0 → ⊥) → w ≤ 65535 → parts (n - 1) p e ≡ after_word (parts n p e) w
unfolding after_word
one_name zero p e w h k = absurd (h refl)
one_name (suc n) p e w h k = let q : suc n - 1 ≡ n = omega arith in rw (q, le-leb 0 w (omega arith), le-leb w 65535 k)

pub least-none : (d n p e : ℕ) → d ≡ 0 → n + (p + e) * 8193 ≡ least d (parts n p e)
unfolding least
least-none zero n p e h = omega arith
least-none (suc d) n p e h = absurd (omega arith)

pub least-some : (d n p e : ℕ) → (d ≡ 0 → ⊥) → n + (p + e) ≡ least d (parts n p e)
unfolding least
least-some zero n p e h = absurd (h refl)
least-some (suc d) n p e h = omega arith

pub below-limit : (lo hi w : ℕ) (k : ℕ → Next) → w < lo → never ≡ after_word (word lo hi k) w
unfolding after_word
below-limit lo hi w k h = rw (lt-leb lo w h)

pub above-limit : (lo hi w : ℕ) (k : ℕ → Next) → lo ≤ w → hi < w → never ≡ after_word (word lo hi k) w
unfolding after_word
above-limit lo hi w k h i = rw (le-leb lo w h, lt-leb w hi i)

pub in-limits : (lo hi w : ℕ) (k : ℕ → Next) (o : Next) → o ≡ k w → lo ≤ w → w ≤ hi → o ≡ after_word (word lo hi k) w
unfolding after_word
in-limits lo hi w k o e h i = rw (le-leb lo w h, le-leb w hi i, e)

-- declarations with flags
pub none_left : (came : Bool) (n e : ℕ) → came ≡ true → n ≤ 0 → parts 0 1 e ≡ decls_next came n 1 e
unfolding decls_next
none_left came zero e t h = rw t refl
none_left came (suc n) e t h = absurd (omega arith)

pub none-noted : (came : Bool) (n e : ℕ) → came ≡ false → n ≤ 0 → never ≡ decls_next came n 1 e
unfolding decls_next
none-noted came zero e t h = rw t refl
none-noted came (suc n) e t h = absurd (omega arith)

pub some_left : (came : Bool) (n e : ℕ) → 0 < n → word 0 65535 (λ w. flag_next came (n - 1) e) ≡ decls_next came n 1 e
unfolding decls_next
some_left came zero e h = absurd (omega arith)
some_left came (suc n) e h = let q : suc n - 1 ≡ n = omega arith in rw q

pub flag-none : (came : Bool) (n e w : ℕ) (o : Next) → o ≡ decls_next came n 1 e → w ≡ 0 → o ≡ after_flag came n e w
flag-none came n e w o q h = rw (q, eq-eqb w 0 h)

pub flag-some : (came : Bool) (n e w : ℕ) → (w ≡ 0 → ⊥) → note (decls_next true n 1 e) ≡ after_flag came n e w
flag-some came n e w h = rw (ne_eqb w 0 h)

-- the fewest words of them
pub least-later : (d n e k : ℕ) → k ≡ least d (parts 0 1 e) → n + n + k ≡ least d (decls_next true n 1 e)
least-later d n e k j = let q = came-least d 1 e n in omega arith

pub least-note : (d n e k : ℕ) → k ≡ least d (parts 0 2 e) → n + n + k ≡ least d (note (decls_next true n 1 e))
unfolding least
least-note zero n e k j = let q = came-least zero 1 e n in omega arith
least-note (suc d) n e k j = let q = came-least (suc d) 1 e n in omega arith

pub least-wrong : (d n e : ℕ) → n ≡ 0 → 8193 ≡ least d (decls_next false n 1 e)
unfolding least decls_next
least-wrong d zero e h = refl
least-wrong d (suc n) e h = absurd (omega arith)

pub least_first : (d n e k : ℕ) → (n ≡ 0 → ⊥) → k ≡ least d (note (decls_next true n 1 e)) → k ≡ least d (decls_next false n 1 e)
unfolding least
least_first d zero e k h i = absurd (h refl)
least_first d (suc n) e k h i = let q = came-least d 1 e (suc n) in let r = none-least d 1 e n in omega arith

pub least-flag : (came : Bool) (d n e w k : ℕ) → w ≡ 0 → k ≡ least d (decls_next came n 1 e) → k ≡ least d (after_flag came n e w)
least-flag came d n e w k h i = rw (eq-eqb w 0 h) i

pub least-typed : (came : Bool) (d n e w k : ℕ) → (w ≡ 0 → ⊥) → k ≡ least d (note (decls_next true n 1 e)) → k ≡ least d (after_flag came n e w)
least-typed came d n e w k h i = rw (ne_eqb w 0 h) i

pub least-later-flag : (d n e k : ℕ) → k ≡ least d (decls_next true n 1 e) → suc k ≡ least d (flag_next true n e)
unfolding least
least-later-flag d n e k i = omega arith

pub least-first-flag : (d n e k : ℕ) → k ≡ least d (note (decls_next true n 1 e)) → suc k ≡ least d (flag_next false n e)
unfolding least
least-first-flag d zero e k i = omega arith
least-first-flag d (suc n) e k i = let q = least_first d (suc n) e k (λ h. omega arith) i in omega arith
