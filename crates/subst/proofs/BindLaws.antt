-- Bind on the row and its marks is bind on the tree. Assumes nothing.
use mathlib.Core.Path.{◌≡◌, refl, ap, sym, ◌∙◌}
use mathlib.Core.Bool.{Bool, true, false, ◌&&◌}
use mathlib.Core.List.{List, [], ◌∷◌}
use Prim.Native.Nat.{ℕ, suc, ◌+◌, ◌-◌, ◌≤◌, ◌<◌}
use native.Mathlib.Omega.{arith}
use borrow.Author.Tests.{le-leb, lt-leb, leb-true, ltb-true, lt-ltb, le-ltb}
use lib.Dec.{leb, ltb, eqb}
use lib.ListN.{length, replicate}
use Rattle.tree.specs.Form.{Leaf, free, bound, Form, leaf, pick, between, encode}
use Rattle.tree.specs.Tag.{Sort}
use Rattle.form.specs.Lists.{distinct, good_names}
use Rattle.form.specs.Answer.{stop, told, finish, check_outcome}
use Rattle.reader.specs.Internal.Reads.{mark}
use Rattle.form.specs.declared.answer.Kind.TheVariants.{Either}
use Rattle.form.specs.Answer.{Answer}
use Rattle.std.specs.Prelude.{Option, Some, None, Err, option_map, position, nat_eq, cond, not}
use Rattle.std.specs.List.{position_or_len}
use Rattle.std.proofs.Common.{ltb-false}
use Rattle.form.proofs.DecodeLaws.{Ok}
use Rattle.form.proofs.HeadLaws.{between_in}
use Rattle.rules.specs.Walk.{Binding, inside, outside, binding, Outer, named, dangling, walk_index, walk_leaf, walk, up, put}
use Rattle.rules.specs.Bind.{bind_name, bind_for, bind, bind_outcome}
use Rattle.shift.specs.Internal.Items.{size_of, words_of, item_in, move_word, same_length}
use Rattle.subst.specs.Internal.Binding.{seek_name, spot_item, bound_item, bound_words, bind_words}
use Rattle.shift.specs.declared.items.Item.{Item}
use Rattle.shift.specs.declared.items.Item.TheVariants.{Plain, Ident}
use Rattle.rules.proofs.WalkLaws.{binding-inside, binding-back, and_left, and_right, each-agree, walk-agree}
use Rattle.rules.proofs.LimitLaws.{fine_leaf, fine, tight, ok-tight, walk-length, inside-limits}
use Rattle.shift.proofs.CheckedLaws.{Checked, check-refuses}
use Rattle.shift.proofs.RowLaws.{ident_of, marked-items, walk-items, each-items}
use Rattle.shift.proofs.ShiftLaws.{in_range, range-leaf, range-word, same_test, between-high}
use Rattle.form.specs.declared.answer.Refusal.{Refusal}
use Rattle.form.specs.declared.answer.Refusal.TheVariants.{TooLong, BadNames}

-- the first place of the name tells how many follow it
module _ (p l : ℕ) where
  abbrev left-of : ℕ → ℕ → Option ℕ
  left-of p l = option_map (λ i. l - 1 - i) (cond (ltb p l) (Some p) None)

  seek-later : (b : Bool) → ltb p l ≡ b → left-of p l ≡ left-of (1 + p) (suc l)
  seek-later true e = let h = ltb-true p l e in rw (lt-ltb p l h, lt-ltb (1 + p) (suc l) (omega arith)) (ap Some (omega arith))
  seek-later false e = let h = ltb-false p l e in rw (le-ltb p l h, le-ltb (1 + p) (suc l) (omega arith)) refl

  seek-step : (b : Bool) (s : Option ℕ) → s ≡ left-of p l → pick b (Some l) s ≡ left-of (cond (not b) (1 + p) 0) (suc l)
  seek-step true s h = rw (lt-ltb 0 (suc l) (omega arith)) (ap Some (omega arith))
  seek-step false s h = h ∙ seek-later (ltb p l) refl

pub seek-place : (ns : List ℕ) (m : ℕ) → seek_name ns m ≡ option_map (λ i. length ns - 1 - i) (position (λ n. nat_eq n m) ns)
unfolding seek_name
seek-place [] m = refl
seek-place (n ∷ ns) m = seek-step (position_or_len (λ n. nat_eq n m) ns) (length ns) (eqb n m) (seek_name ns m) (seek-place ns m)

pub seek-by : (ns : List ℕ) (m : ℕ) (r : Option ℕ) → r ≡ position (λ n. nat_eq n m) ns → seek_name ns m ≡ option_map (λ i. length ns - 1 - i) r
seek-by ns m r e = rw e (seek-place ns m)

-- what becomes of a name, on the tree and in the row
abbrev spot_leaf : ℕ → ℕ → Option ℕ → Leaf
spot_leaf k m (Some b) = bound (0 + (b + k))
spot_leaf k m None = free m

abbrev spot_move : ℕ → ℕ → Option ℕ → Form
spot_move k m (Some b) = leaf (bound (move_word b 0 k))
spot_move k m None = leaf (free m)

abbrev Low : ℕ → Option ℕ → Type 0
Low n (Some b) = b < n
Low n None = Unit {0}

low_step : (n m : ℕ) (ns : List ℕ) (b : Bool) (z : Option ℕ) → Low (length ns) z → Low (length (n ∷ ns)) (pick b (Some (length ns)) z)
low_step n m ns true z h = omega arith
low_step n m ns false (Some b) h = omega arith
low_step n m ns false None h = tt

seek-low : (ns : List ℕ) (m : ℕ) → Low (length ns) (seek_name ns m)
unfolding seek_name
seek-low [] m = tt
seek-low (n ∷ ns) m = low_step n m ns (eqb n m) (seek_name ns m) (seek-low ns m)

name-step : (k m : ℕ) (ns : List ℕ) (b : Bool) → walk (up k) 0 (bind_name ns m) ≡ leaf (spot_leaf k m (seek_name ns m))
    → walk (up k) 0 (pick b (leaf (bound (length ns))) (bind_name ns m)) ≡ leaf (spot_leaf k m (pick b (Some (length ns)) (seek_name ns m)))
unfolding walk
name-step k m ns true h = refl
name-step k m ns false h = h

name-leaf : (k m : ℕ) (ns : List ℕ) → walk (up k) 0 (bind_name ns m) ≡ leaf (spot_leaf k m (seek_name ns m))
unfolding seek_name walk
name-leaf k m [] = refl
name-leaf k m (n ∷ ns) = name-step k m ns (eqb n m) (name-leaf k m ns)

abbrev bind_leaf : List ℕ → ℕ → Outer → Leaf
bind_leaf ns k (named m) = spot_leaf k m (seek_name ns m)
bind_leaf ns k (dangling j) = bound (0 + (length ns + j + k))

bind-leaf : (ns : List ℕ) (k : ℕ) (x : Outer) → put (bind_for ns) k x ≡ leaf (bind_leaf ns k x)
unfolding walk
bind-leaf ns k (named m) = name-leaf k m ns
bind-leaf ns k (dangling j) = refl

abbrev moved : List ℕ → ℕ → Outer → Form
moved ns k (named m) = spot_move k m (seek_name ns m)
moved ns k (dangling j) = leaf (bound (move_word (length ns) 0 (k + j)))

moved-spot : (k m : ℕ) (z : Option ℕ) → words_of (spot_item k 1 m z) ≡ encode (spot_move k m z)
unfolding words_of encode
moved-spot k m (Some b) = refl
moved-spot k m None = refl

moved-index : (ns : List ℕ) (k i : ℕ) (z : Binding) → binding k i ≡ z → words_of (pick (ltb i k) (Ident k 2 i) (Ident k 2 (move_word (length ns) 0 i))) ≡ encode (walk_index (moved ns) k i z)
unfolding encode words_of
moved-index ns k i inside q = rw (lt-ltb i k (binding-inside k i q))
moved-index ns k i (outside j) q =
    let e : k + j ≡ i = binding-back k i j q in
    rw (le-ltb i k (omega arith), e)

moved-leaf : (ns : List ℕ) (k : ℕ) (x : Leaf) → bound_words ns (ident_of k x) ≡ encode (walk_leaf (moved ns) k x)
unfolding bound_item
moved-leaf ns k (free n) = moved-spot k n (seek_name ns n)
moved-leaf ns k (bound i) = moved-index ns k i (binding k i) refl

moved_word : (ns : List ℕ) (w : ℕ) → bound_words ns (Plain w) ≡ w ∷ []
unfolding words_of bound_item
moved_word ns w = refl

keep-spot : (k t v : ℕ) (z : Option ℕ) → length (words_of (spot_item k t v z)) ≡ 2
unfolding words_of
keep-spot k t v (Some b) = refl
keep-spot k t v None = refl

keep-ident : (ns : List ℕ) (k t v : ℕ) (b c : Bool) → length (words_of (pick b (spot_item k t v (seek_name ns v)) (pick c (Ident k t v) (Ident k t (move_word (length ns) 0 v))))) ≡ 2
unfolding words_of
keep-ident ns k t v true c = keep-spot k t v (seek_name ns v)
keep-ident ns k t v false true = refl
keep-ident ns k t v false false = refl

pub keeps : (ns : List ℕ) (y : Item) → length (bound_words ns y) ≡ size_of y
unfolding bound_item size_of words_of
keeps ns (Plain w) = refl
keeps ns (Ident k t v) = keep-ident ns k t v (eqb t 1) (ltb v k)

-- within the limits, and the same
spot-fine : (n k m : ℕ) (z : Option ℕ) → n ≤ 32 → Low n z → between 0 65535 m ≡ true → k ≤ 2048 → fine_leaf (spot_leaf k m z) ≡ true
spot-fine n k m (Some b) h l e g = between_in 0 65535 (0 + (b + k)) (omega arith) (omega arith)
spot-fine n k m None h l e g = e

spot-same : (n k m : ℕ) (z : Option ℕ) → n ≤ 32 → Low n z → k ≤ 2048 → spot_move k m z ≡ leaf (spot_leaf k m z)
unfolding move_word
spot-same n k m (Some b) h l g = ap (λ z. leaf (bound z)) (omega arith)
spot-same n k m None h l g = refl

module _ (ns : List ℕ) (few : length ns ≤ 32) where
  bind-range : (k : ℕ) (x : Outer) → tight 2048 k x ≡ true → in_range 0 (65536 - length ns) k x ≡ fine (put (bind_for ns)) (bind_leaf ns) (bind-leaf ns) k x
  bind-range k (named m) h =
      sym (spot-fine (length ns) k m (seek_name ns m) few (seek-low ns m) (and_left (between 0 65535 m) (leb k 2048) h) (leb-true k 2048 (and_right (between 0 65535 m) (leb k 2048) h)))
  bind-range k (dangling j) h =
      same_test (leb 0 j && ltb (k + j) (65536 - length ns)) (between 0 65535 (0 + (length ns + j + k)))
      (λ e. let l : k + j < 65536 - length ns = ltb-true (k + j) (65536 - length ns) (rw (le-leb 0 j (omega arith)) at e) in between_in 0 65535 (0 + (length ns + j + k)) (omega arith) (omega arith))
      (λ e. let l : 0 + (length ns + j + k) ≤ 65535 = between-high 65535 (0 + (length ns + j + k)) e in rw (le-leb 0 j (omega arith)) (lt-ltb (k + j) (65536 - length ns) (omega arith)))

  bind-same : (k : ℕ) (x : Outer) → tight 2048 k x ≡ true → moved ns k x ≡ put (bind_for ns) k x
  unfolding move_word walk
  bind-same k (named m) h = spot-same (length ns) k m (seek_name ns m) few (seek-low ns m) (leb-true k 2048 (and_right (between 0 65535 m) (leb k 2048) h)) ∙ sym (name-leaf k m ns)
  bind-same k (dangling j) h =
      let l : k + j ≤ 65535 = between-high 65535 (k + j) (and_left (between 0 65535 (k + j)) (leb k 2048) h) in
      ap (λ z. leaf (bound z)) (omega arith)

  bind-tree : (s : Sort) (f : Form) (ok : Ok 64 s f) (short : length (encode f) ≤ 8192) (n : ℕ) (marked : length (encode f) ≤ n) (room : ℕ) → bind_words ns (encode f) (mark f 0 0 (replicate n 0)) room ≡ finish s room (bind ns f)
  unfolding bind_words same_length finish bind
  bind-tree s f ok short n marked room =
      let g = ok-tight ok 2048 0 (omega arith) in
      let t = each-agree (tight 2048) (in_range 0 (65536 - length ns)) (fine (put (bind_for ns)) (bind_leaf ns) (bind-leaf ns)) bind-range 0 f g in
      rw (
        marked-items f n marked,
        each-items (item_in 0 (65536 - length ns)) (in_range 0 (65536 - length ns)) (range-word 0 (65536 - length ns)) (range-leaf 0 (65536 - length ns)) 0 f,
        walk-items (bound_words ns) (moved ns) (moved_word ns) (moved-leaf ns) 0 f,
        inside-limits (put (bind_for ns)) (bind_leaf ns) (bind-leaf ns) s f ok short,
        t,
        walk-length (put (bind_for ns)) (bind_leaf ns) (bind-leaf ns) 0 f,
        walk-agree (tight 2048) (moved ns) (put (bind_for ns)) bind-same 0 f g,
      )

-- good names are few
pub good-few : (ns : List ℕ) → good_names ns ≡ true → length ns ≤ 32
unfolding good_names
good-few ns e = leb-true (length ns) 32 (and_left (leb (length ns) 32) (distinct ns) e)

-- the whole call
module _ (ns row : List ℕ) (room : ℕ) where
  pub bind-too-long : 8192 < length row → bind_outcome ns row room ≡ stop TooLong
  unfolding bind_outcome
  bind-too-long h = rw (lt-leb (length row) 8192 h)

  pub bind-refused : (r : Answer) (k : Refusal) → r ≡ told (check_outcome Either row) → r ≡ Err k → bind_outcome ns row room ≡ stop k
  unfolding bind_outcome
  bind-refused r k q e = check-refuses Either row _ r k q e

  module _ (m : List ℕ) (n : ℕ) (x : Checked Either row m n) where
    pub bind-long : 8192 < length ns → bind_outcome ns row room ≡ stop TooLong
    unfolding bind_outcome
    bind-long h = rw (le-leb (length row) 8192 x.short, x.is_found, lt-leb (length ns) 8192 h)

    pub bind-names : length ns ≤ 8192 → good_names ns ≡ false → bind_outcome ns row room ≡ stop BadNames
    unfolding bind_outcome
    bind-names h g = rw (le-leb (length row) 8192 x.short, x.is_found, le-leb (length ns) 8192 h, g)

    pub bind-row : length row ≤ n → length ns ≤ 8192 → good_names ns ≡ true → bind_words ns row m room ≡ bind_outcome ns row room
    unfolding bind_outcome
    bind-row l h g =
        rw (le-leb (length row) 8192 x.short, x.is_found, le-leb (length ns) 8192 h, g, x.marks, x.words)
        (bind-tree ns (good-few ns g) x.sort x.form x.ok (rw x.words at x.short) n (rw x.words at l) room)
