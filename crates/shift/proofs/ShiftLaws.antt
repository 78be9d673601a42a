-- Shift on the row and its marks is shift on the tree. Assumes nothing.
use Rattle.std.proofs.Common.{◌≡◌, ℕ, zero, suc, ◌+◌, ◌-◌, ◌<◌, ◌≤◌, Bool, true, false, ◌&&◌, eqb, ltb, leb, List, [], ◌∷◌, length, replicate, ℤ, pos, negsuc, sym, refl, ap, ◌∙◌, arith, ltb-true, le-ltb, lt-ltb, ne_eqb, le-leb, leb-true}
use mathlib.Core.Option.{none as absent, some}
use Rattle.tree.specs.Form.{Leaf, free, bound, Form, leaf, pick, between, encode}
use Rattle.tree.specs.Tag.{Sort}
use Rattle.form.specs.Answer.{answer, stop, told, finish, check_outcome}
use Rattle.reader.specs.Internal.Reads.{mark}
use Rattle.form.specs.declared.answer.Kind.TheVariants.{Either}
use Rattle.form.specs.Answer.{Answer}
use Rattle.std.specs.Prelude.{Err}
use Rattle.form.proofs.DecodeLaws.{clash, Ok}
use Rattle.form.proofs.HeadLaws.{between_in}
use Rattle.rules.specs.Walk.{Binding, inside, outside, binding, Outer, named, dangling, walk_index, walk_leaf, walk, up, lift, put, collect_index, collect_leaf, each}
use Rattle.rules.specs.Shift.{reaches, fall, lower, shift, of_shifted, shift_outcome}
use Rattle.shift.specs.Internal.Items.{size_of, words_of, up_by, down_by, item_in, move_word, move_item, move_at, moved_words, low_or_high, same_length, shift_words}
use Rattle.shift.specs.declared.items.Item.{Item}
use Rattle.shift.specs.declared.items.Item.TheVariants.{Plain, Ident}
use Rattle.rules.proofs.WalkLaws.{binding-inside, binding-back, each-agree, each-all, walk-agree}
use Rattle.rules.proofs.LimitLaws.{small, ok-small, fine, walk-length, inside-limits}
use Rattle.shift.proofs.CheckedLaws.{Checked, too_long, check-refuses}
use Rattle.shift.proofs.RowLaws.{ident_of, mark-length, marked-items, walk-items, each-items}
use Rattle.shift.proofs.WordwiseLaws.{wordwise-items, marks-apart}
use Rattle.form.specs.declared.answer.Refusal.{Refusal}
use Rattle.form.specs.declared.answer.Refusal.TheVariants.{TooLong, Captured, OutOfLimits, OutputTooShort}

-- the test of a row's indices
abbrev pub in_range : ℕ → ℕ → ℕ → Outer → Bool
in_range lo hi k (named m) = true
in_range lo hi k (dangling j) = leb lo j && ltb (k + j) hi

range-index : (lo hi k i : ℕ) (z : Binding) → binding k i ≡ z → pick (ltb i k) true (leb lo (i - k) && ltb i hi) ≡ collect_index true (in_range lo hi) k z
range-index lo hi k i inside q = rw (lt-ltb i k (binding-inside k i q))
range-index lo hi k i (outside j) q =
    let e : k + j ≡ i = binding-back k i j q in
    let d : i - k ≡ j = omega arith in
    rw (le-ltb i k (omega arith), d, e)

pub range-leaf : (lo hi k : ℕ) (x : Leaf) → item_in lo hi (ident_of k x) ≡ collect_leaf true (in_range lo hi) k x
unfolding item_in
range-leaf lo hi k (free n) = refl
range-leaf lo hi k (bound i) = range-index lo hi k i (binding k i) refl

pub range-word : (lo hi w : ℕ) → item_in lo hi (Plain w) ≡ true
unfolding item_in
range-word lo hi w = refl

-- the rewriting of a row's indices
abbrev pub moved : ℕ → ℕ → ℕ → Outer → Form
moved u d k (named m) = leaf (free m)
moved u d k (dangling j) = leaf (bound (move_word u d (k + j)))

moved-index : (u d k i : ℕ) (z : Binding) → binding k i ≡ z → 2 ∷ pick (ltb i k) i (move_word u d i) ∷ [] ≡ encode (walk_index (moved u d) k i z)
unfolding encode
moved-index u d k i inside q = rw (lt-ltb i k (binding-inside k i q))
moved-index u d k i (outside j) q =
    let e : k + j ≡ i = binding-back k i j q in
    rw (le-ltb i k (omega arith), e)

pub moved-leaf : (u d k : ℕ) (x : Leaf) → moved_words u d (ident_of k x) ≡ encode (walk_leaf (moved u d) k x)
unfolding words_of move_item encode
moved-leaf u d k (free n) = refl
moved-leaf u d k (bound i) = moved-index u d k i (binding k i) refl

pub moved_word : (u d w : ℕ) → moved_words u d (Plain w) ≡ w ∷ []
unfolding words_of move_item
moved_word u d w = refl

pub keeps : (u d : ℕ) (y : Item) → length (moved_words u d y) ≡ size_of y
unfolding words_of move_item size_of
keeps u d (Plain w) = refl
keeps u d (Ident k t v) = refl

-- a word behind a tag, by the tests of the code; k is the mark of a tag of indices
pub unmoved : (u d t v : ℕ) → move_at u d 0 t v ≡ v
unfolding move_at
unmoved u d t v = refl

moved-ident : (u d k t v : ℕ) → moved_words u d (Ident k t v) ≡ t ∷ move_at u d (suc k) t v ∷ []
unfolding words_of move_item move_at
moved-ident u d k t v = refl

module _ (u d t v : ℕ) where
  none-by : (m : ℕ) (b : Bool) → eqb t 2 ≡ b → pick b m 0 ≡ 0 → v ≡ move_at u d m t v
  unfolding move_at
  none-by zero b q z = refl
  none-by (suc m) true q z = absurd (omega arith)
  none-by (suc m) false q z = rw q

  below_by : (m : ℕ) (b : Bool) → eqb t 2 ≡ b → (k : ℕ) → k ≡ pick b m 0 → (k ≡ 0 → ⊥) → v < k - 1 → v ≡ move_at u d m t v
  unfolding move_at
  below_by zero b q k e n l = refl
  below_by (suc m) true q k e n l = rw (q, lt-ltb v m (omega arith))
  below_by (suc m) false q k e n l = absurd (n e)

  above-by : (m : ℕ) (b : Bool) → eqb t 2 ≡ b → (k : ℕ) → k ≡ pick b m 0 → (k ≡ 0 → ⊥) → k - 1 ≤ v → (w : ℕ) → w ≡ move_word u d v → w ≡ move_at u d m t v
  unfolding move_at
  above-by zero true q k e n l w h = absurd (n e)
  above-by zero false q k e n l w h = absurd (n e)
  above-by (suc m) true q k e n l w h = rw (q, le-ltb v m (omega arith)) h
  above-by (suc m) false q k e n l w h = absurd (n e)

  module _ (m k : ℕ) (e : k ≡ pick (eqb t 2) m 0) where
    pub at_none : k ≡ 0 → v ≡ move_at u d m t v
    at_none z = none-by m (eqb t 2) refl (sym e ∙ z)

    pub at-below : (k ≡ 0 → ⊥) → v < k - 1 → v ≡ move_at u d m t v
    at-below n l = below_by m (eqb t 2) refl k e n l

    pub at_above : (k ≡ 0 → ⊥) → k - 1 ≤ v → (w : ℕ) → w ≡ move_word u d v → w ≡ move_at u d m t v
    at_above n l w h = above-by m (eqb t 2) refl k e n l w h

-- two truths of numbers
pub same_test : (a b : Bool) → (a ≡ true → b ≡ true) → (b ≡ true → a ≡ true) → a ≡ b
same_test true b h k = sym (h refl)
same_test false true h k = k refl
same_test false false h k = refl

pub between-high : (hi w : ℕ) → between 0 hi w ≡ true → w ≤ hi
between-high hi w e = leb-true w hi (go (leb 0 w) (leb w hi) e)
  where
    go : (a b : Bool) → (a && b) ≡ true → b ≡ true
    go true b e = e
    go false b e = cc

pub pick_same : {A : Type 0} (b : Bool) (x y z : A) → (b ≡ true → x ≡ y) → pick b x z ≡ pick b y z
pick_same true x y z h = h refl
pick_same false x y z h = refl

-- upward
up_leaf : ℕ → ℕ → Outer → Leaf
up_leaf n k (named m) = free m
up_leaf n k (dangling j) = bound (k + (j + n))

up-leaf : (n k : ℕ) (x : Outer) → up n k x ≡ leaf (up_leaf n k x)
unfolding up_leaf
up-leaf n k (named m) = refl
up-leaf n k (dangling j) = refl

up-range : (n k : ℕ) (x : Outer) → small k x ≡ true → in_range 0 (65536 - n) k x ≡ fine (up n) (up_leaf n) (up-leaf n) k x
unfolding up_leaf
up-range n k (named m) h = sym h
up-range n k (dangling j) h =
    same_test (leb 0 j && ltb (k + j) (65536 - n)) (between 0 65535 (k + (j + n)))
    (λ e. let l : k + j < 65536 - n = ltb-true (k + j) (65536 - n) (rw (le-leb 0 j (omega arith)) at e) in between_in 0 65535 (k + (j + n)) (omega arith) (omega arith))
    (λ e. let l : k + (j + n) ≤ 65535 = between-high 65535 (k + (j + n)) e in rw (le-leb 0 j (omega arith)) (lt-ltb (k + j) (65536 - n) (omega arith)))

up_same : (n k : ℕ) (x : Outer) → in_range 0 (65536 - n) k x ≡ true → moved n 0 k x ≡ up n k x
unfolding move_word
up_same n k (named m) h = refl
up_same n k (dangling j) h =
    let l : k + j < 65536 - n = ltb-true (k + j) (65536 - n) (rw (le-leb 0 j (omega arith)) at h) in
    ap (λ z. leaf (bound z)) (omega arith)

-- downward
down_leaf : ℕ → ℕ → Outer → Leaf
down_leaf n k (named m) = free m
down_leaf n k (dangling j) = bound (0 + (j - n + k))

down-leaf : (n k : ℕ) (x : Outer) → put (fall n) k x ≡ leaf (down_leaf n k x)
unfolding down_leaf walk
down-leaf n k (named m) = refl
down-leaf n k (dangling j) = refl

pub down-range : (n k : ℕ) (x : Outer) → small k x ≡ true → in_range n 65536 k x ≡ reaches n k x
down-range n k (named m) h = refl
down-range n k (dangling j) h =
    let l : k + j ≤ 65535 = between-high 65535 (k + j) h in
    rw (lt-ltb (k + j) 65536 (omega arith)) (go (leb n j))
  where
    go : (b : Bool) → (b && true) ≡ b
    go true = refl
    go false = refl

down-fine : (n k : ℕ) (x : Outer) → small k x ≡ true → fine (put (fall n)) (down_leaf n) (down-leaf n) k x ≡ true
unfolding down_leaf
down-fine n k (named m) h = h
down-fine n k (dangling j) h = let l : k + j ≤ 65535 = between-high 65535 (k + j) h in between_in 0 65535 (0 + (j - n + k)) (omega arith) (omega arith)

and_both : (a b : Bool) → (a && b) ≡ true → (a ≡ true) × (b ≡ true)
and_both true b e = (refl, e)
and_both false b e = absurd (clash cc)

down-same : (n k : ℕ) (x : Outer) → in_range n 65536 k x ≡ true → moved 0 n k x ≡ put (fall n) k x
unfolding move_word walk
down-same n k (named m) h = refl
down-same n k (dangling j) h =
    let (a, b) = and_both (leb n j) (ltb (k + j) 65536) h in
    let l : k + j < 65536 = ltb-true (k + j) 65536 b in
    let m : n ≤ j = leb-true n j a in
    ap (λ z. leaf (bound z)) (omega arith)

-- the loops over the row and its marks, as walks over the tree; the marks were made in n words that held 0
module _ (s : Sort) (f : Form) (ok : Ok 64 s f) (short : length (encode f) ≤ 8192) (n : ℕ) (marked : length (encode f) ≤ n) (room : ℕ) where
  words-tree : (u d : ℕ) → shift_words (encode f) (mark f 0 0 (replicate n 0)) u d room
      ≡ pick (each (in_range d (65536 - u)) 0 f) (pick (leb (length (encode f)) room) (answer (encode (walk (moved u d) 0 f))) (stop OutputTooShort)) (stop (low_or_high d))
  unfolding shift_words same_length
  words-tree u d =
      let long : length (mark f 0 0 (replicate n 0)) ≡ n = mark-length f 0 n marked in
      rw (
        le-leb (length (encode f)) (length (mark f 0 0 (replicate n 0))) (rw long marked),
        ← wordwise-items (move_at u d) (unmoved u d) (moved_words u d) (moved_word u d) (moved-ident u d) 0 (encode f) (mark f 0 0 (replicate n 0)) (marks-apart f 0 n marked),
        marked-items f n marked,
        each-items (item_in d (65536 - u)) (in_range d (65536 - u)) (range-word d (65536 - u)) (range-leaf d (65536 - u)) 0 f,
        walk-items (moved_words u d) (moved u d) (moved_word u d) (moved-leaf u d) 0 f,
      )

  pub up-tree : (u : ℕ) → shift_words (encode f) (mark f 0 0 (replicate n 0)) u 0 room ≡ finish s room (lift u f)
  unfolding finish
  up-tree u =
      let t = each-agree small (in_range 0 (65536 - u)) (fine (up u) (up_leaf u) (up-leaf u)) (up-range u) 0 f (ok-small ok 0) in
      rw (words-tree u 0, inside-limits (up u) (up_leaf u) (up-leaf u) s f ok short, ← t, walk-length (up u) (up_leaf u) (up-leaf u) 0 f)
      (pick_same (each (in_range 0 (65536 - u)) 0 f) _ _ (stop OutOfLimits) (λ b. rw (walk-agree (in_range 0 (65536 - u)) (moved u 0) (up u) (up_same u) 0 f b)))

  down-finish : (d : ℕ) → finish s room (lower d f) ≡ pick (leb (length (encode f)) room) (answer (encode (lower d f))) (stop OutputTooShort)
  unfolding finish
  down-finish d =
      let t = each-all small (fine (put (fall d)) (down_leaf d) (down-leaf d)) (down-fine d) 0 f (ok-small ok 0) in
      rw (inside-limits (put (fall d)) (down_leaf d) (down-leaf d) s f ok short, t, walk-length (put (fall d)) (down_leaf d) (down-leaf d) 0 f)

  down-tree : (d : ℕ) → shift_words (encode f) (mark f 0 0 (replicate n 0)) 0 (suc d) room ≡ of_shifted s room (pick (each (reaches (suc d)) 0 f) (some (lower (suc d) f)) absent)
  down-tree d =
      let t = each-agree small (in_range (suc d) 65536) (reaches (suc d)) (down-range (suc d)) 0 f (ok-small ok 0) in
      rw (words-tree 0 (suc d), ← t, ne_eqb (suc d) 0 (λ e. omega arith)) (go (each (in_range (suc d) 65536) 0 f) refl)
    where
      go : (b : Bool) → each (in_range (suc d) 65536) 0 f ≡ b → pick b (pick (leb (length (encode f)) room) (answer (encode (walk (moved 0 (suc d)) 0 f))) (stop OutputTooShort)) (stop Captured) ≡ of_shifted s room (pick b (some (lower (suc d) f)) absent)
      go true q = rw (walk-agree (in_range (suc d) 65536) (moved 0 (suc d)) (put (fall (suc d))) (down-same (suc d)) 0 f q) (sym (down-finish (suc d)))
      go false q = refl

  pub shift-tree : (z : ℤ) → shift_words (encode f) (mark f 0 0 (replicate n 0)) (up_by z) (down_by z) room ≡ of_shifted s room (shift z f)
  unfolding shift
  shift-tree (pos n) = up-tree n
  shift-tree (negsuc n) = down-tree n

-- the whole call
module _ (row : List ℕ) (z : ℤ) (room : ℕ) where
  pub shift-long : 8192 < length row → shift_outcome row z room ≡ stop TooLong
  unfolding shift_outcome
  shift-long h = too_long Either row (λ s f. of_shifted s room (shift z f)) h

  pub shift-refused : (r : Answer) (k : Refusal) → r ≡ told (check_outcome Either row) → r ≡ Err k → shift_outcome row z room ≡ stop k
  unfolding shift_outcome
  shift-refused r k q e = check-refuses Either row (λ s f. of_shifted s room (shift z f)) r k q e

  pub shift-row : (m : List ℕ) (n : ℕ) → length row ≤ n → (x : Checked Either row m n) → (u d : ℕ) → u ≡ up_by z → d ≡ down_by z → shift_words row m u d room ≡ shift_outcome row z room
  unfolding shift_outcome
  shift-row m n h x u d p q =
      rw (le-leb (length row) 8192 x.short, x.is_found, p, q, x.marks, x.words)
      (shift-tree x.sort x.form x.ok (rw x.words at x.short) n (rw x.words at h) room z)
