-- What a part of the list row becomes where it comes to stand: the words saturate, and within the limits they never do. Assumes nothing.
use mathlib.Core.Path.{◌≡◌, refl, ap, sym, ◌∙◌}
use mathlib.Core.Bool.{true}
use Prim.Native.Nat.{ℕ, ◌+◌, ◌-◌, ◌≤◌, ◌<◌}
use native.Mathlib.Omega.{arith}
use borrow.Author.Tests.{leb-true, ltb-true}
use lib.Dec.{leb, ltb}
use Rattle.tree.specs.Form.{bound, Form, leaf, encode}
use Rattle.rules.specs.Walk.{Outer, named, dangling, walk, up, lift, put, each}
use Rattle.rules.specs.Shift.{reaches, fall, lower}
use Rattle.shift.specs.Internal.Items.{rewritten, moved_words, move_word}
use Rattle.rules.proofs.WalkLaws.{binding-add, and_left, and_right, fuse-level, each-agree, walk-agree}
use Rattle.rules.proofs.LimitLaws.{small, tight}
use Rattle.shift.proofs.ShiftLaws.{in_range, down-range, moved, moved-leaf, moved_word, between-high}
use Rattle.shift.proofs.RowLaws.{items_of, walk-items}

-- under at most n declarations
pub tight-depth : (n k : ℕ) (x : Outer) → tight n k x ≡ true → k ≤ n
tight-depth n k x h = leb-true k n (and_right (small k x) (leb k n) h)

-- the words of a part are the moved form's
pub moved-words : (u d : ℕ) (x : Form) → rewritten (moved_words u d) (items_of 0 x) ≡ encode (walk (moved u d) 0 x)
moved-words u d x = walk-items (moved_words u d) (moved u d) (moved_word u d) (moved-leaf u d) 0 x

moved_up : (u k : ℕ) (x : Outer) → u ≤ 4294901760 → small k x ≡ true → moved u 0 k x ≡ up u k x
unfolding move_word
moved_up u k (named m) h e = refl
moved_up u k (dangling j) h e = let l : k + j ≤ 65535 = between-high 65535 (k + j) e in ap (λ z. leaf (bound z)) (omega arith)

pub moved-lift : (u : ℕ) (x : Form) → u ≤ 4294901760 → each small 0 x ≡ true → walk (moved u 0) 0 x ≡ walk (up u) 0 x
moved-lift u x h s = walk-agree small (moved u 0) (up u) (λ k y e. moved_up u k y h e) 0 x s

-- where every dangling index is at least n, the words moved up by u and down by n are those of the form lowered by n and lifted by u
moved_down : (u n k : ℕ) (x : Outer) → u ≤ 4294901760 → in_range n 65536 k x ≡ true → moved u n k x ≡ walk (up u) k (put (fall n) k x)
unfolding move_word walk
moved_down u n k (named m) h e = refl
moved_down u n k (dangling j) h e =
    let a : n ≤ j = leb-true n j (and_left (leb n j) (ltb (k + j) 65536) e) in
    let b : k + j < 65536 = ltb-true (k + j) 65536 (and_right (leb n j) (ltb (k + j) 65536) e) in
    let q : 0 + (j - n + k) ≡ k + (j - n) = omega arith in
    rw (q, binding-add) (ap (λ z. leaf (bound z)) (omega arith))

pub moved-lower : (u n : ℕ) (x : Form) → u ≤ 4294901760 → each small 0 x ≡ true → each (reaches n) 0 x ≡ true → walk (moved u n) 0 x ≡ lift u (lower n x)
moved-lower u n x h s r =
    let e : each (in_range n 65536) 0 x ≡ true = each-agree small (in_range n 65536) (reaches n) (down-range n) 0 x s ∙ r in
    walk-agree (in_range n 65536) (moved u n) (λ k y. walk (up u) k (put (fall n) k y)) (λ k y q. moved_down u n k y h q) 0 x e
    ∙ sym (fuse-level (up u) (put (fall n)) (λ k y. walk (up u) k (put (fall n) k y)) (λ k y. refl) 0 x)
