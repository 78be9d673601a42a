-- The words of the declarations that items use are cleared one word of the row after another. Assumes nothing.
use mathlib.Core.Path.{◌≡◌, refl, ap, sym, ◌∙◌}
use mathlib.Core.Bool.{Bool, true, false, not, ◌&&◌}
use mathlib.Core.List.{List, [], ◌∷◌, append-nil}
use Prim.Native.Nat.{ℕ, zero, suc, ◌+◌, ◌-◌, ◌≤◌, ◌<◌}
use native.Mathlib.Nat.{le_refl}
use native.Mathlib.Omega.{arith}
use borrow.Author.Tests.{lt-ltb, le-ltb, ltb-true, ltb-false, le-leb, lt-leb, eq-eqb, ne_eqb, eqb-true, eqb-false}
use lib.Dec.{eqb, ltb}
use lib.ListN.{length, get_or, take, drop, set, length-drop}
use lib.Seq.{drop-set-lt, drop-set-add, take_at}
use Rattle.tree.specs.Form.{pick}
use Rattle.shift.specs.Internal.Items.{items, all_items, apart, word_item, word_items, slot_of, slot_for}
use Rattle.shift.specs.declared.items.Item.{Item}
use Rattle.shift.specs.declared.items.Item.TheVariants.{Plain, Ident}
use Rattle.shift.proofs.SlotLaws.{slot-most}
use Rattle.shift.proofs.WordwiseLaws.{all_words, mark-over, apart-drop}
use Rattle.form.proofs.HeadLaws.{here, gone}
use Rattle.replace.specs.Internal.Pieces.{part}
use Rattle.decls.specs.Internal.Used.{not_index, cleared, cleared_by, open_item, open_items, cleared_in}

cleared-length : (n : ℕ) (ws : List ℕ) (xs : List Item) → length (cleared n ws xs) ≡ length ws
unfolding cleared
cleared-length n [] xs = refl
cleared-length n (w ∷ ws) xs = ap suc (cleared-length n ws xs)

cleared-none : (n : ℕ) (ws : List ℕ) → cleared n ws [] ≡ ws
unfolding cleared all_items
cleared-none n [] = refl
cleared-none n (w ∷ ws) = ap (λ (l : List ℕ). w ∷ l) (cleared-none n ws)

pick-both : (a b : Bool) (w : ℕ) → pick (a && b) w 0 ≡ pick b (pick (a && true) w 0) 0
pick-both true true w = refl
pick-both true false w = refl
pick-both false true w = refl
pick-both false false w = refl

cleared-first : (n : ℕ) (ws : List ℕ) (x : Item) (xs : List Item) → cleared n ws (x ∷ xs) ≡ cleared n (cleared n ws (x ∷ [])) xs
unfolding cleared all_items
cleared-first n [] x xs = refl
cleared-first n (w ∷ ws) x xs = rw (cleared-length n ws (x ∷ []), ← cleared-first n ws x xs, pick-both (not_index n (length ws) x) (all_items (not_index n (length ws)) xs) w)

-- one item
module _ (n : ℕ) (x : Item) where
  uses-none : (ws : List ℕ) → ((i : ℕ) → i < length ws → not_index n i x ≡ true) → cleared n ws (x ∷ []) ≡ ws
  unfolding cleared all_items
  uses-none [] h = refl
  uses-none (w ∷ ws) h = rw (h (length ws) (omega arith), uses-none ws (λ i l. h i (omega arith)))

  module _ (j : ℕ) (used : not_index n j x ≡ false) (others : (i : ℕ) → (i ≡ j → ⊥) → not_index n i x ≡ true) where
    uses-outer : (w : ℕ) (ws : List ℕ) → j < length ws → cleared n ws (x ∷ []) ≡ set ws (length ws - 1 - j) 0 → cleared n (w ∷ ws) (x ∷ []) ≡ set (w ∷ ws) (length (w ∷ ws) - 1 - j) 0
    unfolding cleared all_items
    uses-outer w ws l e =
        let q : suc (length ws) - 1 - j ≡ suc (length ws - 1 - j) = omega arith in
        rw (others (length ws) (λ z. omega arith), e, q)

    uses-first : (w : ℕ) (ws : List ℕ) → length ws ≡ j → cleared n (w ∷ ws) (x ∷ []) ≡ set (w ∷ ws) (length (w ∷ ws) - 1 - j) 0
    unfolding cleared all_items
    uses-first w ws e =
        let q : suc (length ws) - 1 - j ≡ 0 = omega arith in
        rw (q, uses-none ws (λ i h. others i (λ z. omega arith)), e, used)

    uses-one : (ws : List ℕ) → j < length ws → cleared n ws (x ∷ []) ≡ set ws (length ws - 1 - j) 0
    uses-one [] low = absurd (omega arith)
    uses-one (w ∷ ws) low = by_place w ws low (ltb j (length ws)) refl (uses-one ws)
      where
        by_place : (w : ℕ) (ws : List ℕ) → j < length (w ∷ ws) → (b : Bool) → ltb j (length ws) ≡ b → (j < length ws → cleared n ws (x ∷ []) ≡ set ws (length ws - 1 - j) 0)
            → cleared n (w ∷ ws) (x ∷ []) ≡ set (w ∷ ws) (length (w ∷ ws) - 1 - j) 0
        by_place w ws l true e h = let k = ltb-true j (length ws) e in uses-outer w ws k (h k)
        by_place w ws l false e h = let k = ltb-false j (length ws) e in uses-first w ws (omega arith)

clears-plain : (ws : List ℕ) {x : Item} {w : ℕ} → x ≡ Plain w → ws ≡ cleared (length ws) ws (x ∷ [])
unfolding not_index
clears-plain ws {x} e = sym (uses-none (length ws) x ws (λ i l. rw e))

-- an index or a name, by the tests of the code
module _ (ws : List ℕ) {x : Item} {k t v : ℕ} (is : x ≡ Ident k t v) where
  clears-name : (t ≡ 2 → ⊥) → ws ≡ cleared (length ws) ws (x ∷ [])
  unfolding not_index
  clears-name h = sym (uses-none (length ws) x ws (λ i l. rw (is, ne_eqb t 2 h)))

  module _ (index : t ≡ 2) (b : ℕ) (bound : b ≡ k - length ws) where
    clears-inner : v < b → ws ≡ cleared (length ws) ws (x ∷ [])
    unfolding not_index
    clears-inner h = sym (uses-none (length ws) x ws (λ i l. rw (is, eq-eqb t 2 index, ← bound, lt-ltb v b h)))

    module _ (h : b ≤ v) where
      test : (i : ℕ) → not_index (length ws) i x ≡ not (eqb i (v - b))
      unfolding not_index
      test i = rw (is, eq-eqb t 2 index, ← bound, le-ltb v b h)

      clears-outer : length ws ≤ v - b → ws ≡ cleared (length ws) ws (x ∷ [])
      clears-outer o = sym (uses-none (length ws) x ws (λ i l. rw (test i, ne_eqb i (v - b) (λ z. omega arith))))

      clears-one : v - b < length ws → set ws (length ws - 1 - (v - b)) 0 ≡ cleared (length ws) ws (x ∷ [])
      clears-one o =
          sym (uses-one (length ws) x (v - b) (rw (test (v - b), eq-eqb (v - b) (v - b) refl)) (λ i z. rw (test i, ne_eqb i (v - b) z)) ws o)

-- the slot of a word, as that of an item
pub slot-open : (n m t v s : ℕ) → s ≡ slot_for n 0 m t v → s ≡ slot_of n 0 (open_item n m t v)
unfolding slot_for slot_of open_item
slot-open n m t v s e = e ∙ go (ltb n m)
  where
    go : (b : Bool) → pick b (slot_of n 0 (word_item m t v)) 0 ≡ slot_of n 0 (pick b (word_item m t v) (Plain v))
    go true = refl
    go false = refl

-- the slot of an item, behind the word that is passed over
module _ (n : ℕ) (ws : List ℕ) (long : length ws ≡ n + 1) where
  abbrev vs : List ℕ
  vs = drop 1 ws

  count : length vs ≡ n
  count = rw (length-drop 1 ws, long) (omega arith)

  passed_over : drop 1 (set ws 0 0) ≡ vs
  passed_over = drop-set-lt 1 ws 0 0 (omega arith)

  clear-ident : (k t v : ℕ) (a : Bool) → eqb t 2 ≡ a → (b : Bool) → ltb v (k - n) ≡ b → (c : Bool) → ltb (v - (k - n)) n ≡ c
      → drop 1 (set ws (pick a (pick b 0 (n - (v - (k - n)))) 0) 0) ≡ cleared n vs (Ident k t v ∷ [])
  clear-ident k t v false p b q c r = passed_over ∙ rw count at (clears-name vs {x = Ident k t v} refl (eqb-false t 2 p))
  clear-ident k t v true p true q c r =
      passed_over ∙ rw count at (clears-inner vs {x = Ident k t v} refl (eqb-true t 2 p) (k - n) (rw count) (ltb-true v (k - n) q))
  clear-ident k t v true p false q true r =
      let l = ltb-true (v - (k - n)) n r in
      let e : n - (v - (k - n)) ≡ 1 + (n - 1 - (v - (k - n))) = omega arith in
      rw e (drop-set-add 1 ws (n - 1 - (v - (k - n))) 0)
      ∙ rw count at (clears-one vs {x = Ident k t v} refl (eqb-true t 2 p) (k - n) (rw count) (ltb-false v (k - n) q) (rw count l))
  clear-ident k t v true p false q false r =
      let l = ltb-false (v - (k - n)) n r in
      let e : n - (v - (k - n)) ≡ 0 = omega arith in
      rw e passed_over ∙ rw count at (clears-outer vs {x = Ident k t v} refl (eqb-true t 2 p) (k - n) (rw count) (ltb-false v (k - n) q) (rw count l))

  clear-slot : (x : Item) → drop 1 (set ws (slot_of n 0 x) 0) ≡ cleared n vs (x ∷ [])
  unfolding slot_of
  clear-slot (Plain w) = passed_over ∙ rw count at (clears-plain vs {x = Plain w} refl)
  clear-slot (Ident k t v) = clear-ident k t v (eqb t 2) refl (ltb v (k - n)) refl (ltb (v - (k - n)) n) refl

pub slot_within : (n m t v s : ℕ) → s ≡ slot_for n 0 m t v → s ≤ n
slot_within n m t v s e = slot-most n 0 n m t v s (le_refl n) (omega arith) e

-- the loop, word by word: one more word, no more words, and the first word
module _ (row marks : List ℕ) (n : ℕ) where
  open_next : (i m t : ℕ) → i < length row → i < length marks
      → open_items n m t (drop i row) (drop i marks) ≡ open_item n m t (get_or row i 0) ∷ open_items n (get_or marks i 0) (get_or row i 0) (drop (i + 1) row) (drop (i + 1) marks)
  unfolding open_items
  open_next i m t low marked = rw (here row i low, here marks i marked)

  pub cleared-next : (i m t : ℕ) → i < length row → i < length marks → (ws : List ℕ) → length ws ≡ n + 1 → (s : ℕ) → s ≡ slot_for n 0 m t (get_or row i 0)
      → cleared n (drop 1 ws) (open_items n m t (drop i row) (drop i marks)) ≡ cleared n (drop 1 (set ws s 0)) (open_items n (get_or marks i 0) (get_or row i 0) (drop (i + 1) row) (drop (i + 1) marks))
  cleared-next i m t low marked ws long s e =
      rw (open_next i m t low marked, slot-open n m t (get_or row i 0) s e, clear-slot n ws long (open_item n m t (get_or row i 0)))
      (cleared-first n (drop 1 ws) (open_item n m t (get_or row i 0)) (open_items n (get_or marks i 0) (get_or row i 0) (drop (i + 1) row) (drop (i + 1) marks)))

  pub cleared-end : (i m t : ℕ) → length row ≤ i → (vs : List ℕ) → cleared n vs (open_items n m t (drop i row) (drop i marks)) ≡ vs
  unfolding open_items
  cleared-end i m t high vs = rw (gone row i high) (cleared-none n vs)

plain-no : (n j w : ℕ) → not_index n j (Plain w) ≡ true
unfolding not_index
plain-no n j w = refl

first_plain : (n t w : ℕ) (vs : List ℕ) (xs : List Item) → cleared n vs (open_item n 0 t w ∷ xs) ≡ cleared n vs xs
unfolding open_item word_item
first_plain n t w vs xs = rw (le-ltb n 0 (omega arith)) (cleared-first n vs (Plain w) xs ∙ ap (λ z. cleared n z xs) (uses-none n (Plain w) vs (λ i l. plain-no n i w)))

-- from the second word on, by the mark and the word before it
pub cleared-start : (n : ℕ) (row marks : List ℕ) → length row ≤ length marks → (vs : List ℕ)
    → cleared n vs (open_items n 0 0 row marks) ≡ cleared n vs (open_items n (get_or marks 0 0) (get_or row 0 0) (drop 1 row) (drop 1 marks))
unfolding open_items
cleared-start n [] [] h vs = refl
cleared-start n [] (m ∷ ms) h vs = refl
cleared-start n (w ∷ ws) [] h vs = absurd (omega arith)
cleared-start n (w ∷ ws) (m ∷ ms) h vs = first_plain n 0 w vs (open_items n m w ws ms)

-- the same as item by item, where no two marks stand side by side
over-open : (n m t v : ℕ) → ((m ≡ 0 → ⊥) → n < m) → open_item n m t v ≡ word_item m t v
unfolding open_item word_item
over-open n zero t v h = rw (le-ltb n 0 (omega arith))
over-open n (suc k) t v h = rw (lt-ltb n (suc k) (h (λ z. omega arith)))

open-words : (n m t : ℕ) (ws ms : List ℕ) → ((m ≡ 0 → ⊥) → n < m) → apart n ws ms ≡ true → open_items n m t ws ms ≡ word_items m t ws ms
unfolding open_items word_items
open-words n m t [] ms h a = refl
open-words n m t (w ∷ ws) [] h a = rw (over-open n m t w h, open-words n 0 w ws [] (λ z. absurd (z refl)) (apart-drop n 1 (w ∷ ws) [] a))
open-words n m t (w ∷ []) (k ∷ ms) h a = rw (over-open n m t w h)
open-words n m t (w ∷ v ∷ ws) (k ∷ ms) h a =
    rw (over-open n m t w h, open-words n k w (v ∷ ws) ms (mark-over n 0 (w ∷ v ∷ ws) (k ∷ ms) a (omega arith) (omega arith)) (apart-drop n 1 (w ∷ v ∷ ws) (k ∷ ms) a))

by-words : (n : ℕ) (vs rs ms : List ℕ) → apart n rs ms ≡ true → cleared n vs (items rs ms) ≡ cleared n vs (word_items 0 0 rs ms)
unfolding cleared
by-words n [] rs ms a = refl
by-words n (w ∷ vs) rs ms a = rw (all_words (not_index n (length vs)) (plain-no n (length vs)) n rs ms a, by-words n vs rs ms a)

pub cleared-items : (n : ℕ) (vs rs ms : List ℕ) → apart n rs ms ≡ true → cleared n vs (open_items n 0 0 rs ms) ≡ cleared n vs (items rs ms)
cleared-items n vs rs ms a = ap (cleared n vs) (open-words n 0 0 rs ms (λ z. absurd (z refl)) a) ∙ sym (by-words n vs rs ms a)

-- marks past the row do not matter
open-take : (n m t : ℕ) (ws ms : List ℕ) → open_items n m t ws (take (length ws) ms) ≡ open_items n m t ws ms
unfolding open_items
open-take n m t [] ms = refl
open-take n m t (w ∷ ws) [] = refl
open-take n m t (w ∷ ws) (k ∷ ms) = rw (open-take n k w ws ms)

-- by a test of the indices
pub cleared-by : (n : ℕ) (ws : List ℕ) (xs : List Item) (p : ℕ → Bool) → ((i : ℕ) → all_items (not_index n i) xs ≡ p i) → cleared n ws xs ≡ cleared_by p ws
unfolding cleared cleared_by
cleared-by n [] xs p h = refl
cleared-by n (w ∷ ws) xs p h = rw (h (length ws), cleared-by n ws xs p h)

-- the tests of the code
module _ (n : ℕ) (row marks : List ℕ) (start end : ℕ) (words : List ℕ) where
  pub clears-short : length row < end → drop 1 words ≡ cleared_in n row marks start end words
  unfolding cleared_in
  clears-short h = rw (lt-leb end (length row) h)

  module _ (long : end ≤ length row) where
    pub clears-unmarked : length marks < end → drop 1 words ≡ cleared_in n row marks start end words
    unfolding cleared_in
    clears-unmarked h = rw (le-leb end (length row) long, lt-leb end (length marks) h)

    module _ (marked : end ≤ length marks) where
      pub clears-other : (length words ≡ n + 1 → ⊥) → drop 1 words ≡ cleared_in n row marks start end words
      unfolding cleared_in
      clears-other h = rw (le-leb end (length row) long, le-leb end (length marks) marked, ne_eqb (length words) (n + 1) h)

      module _ (count : length words ≡ n + 1) where
        pub clears-is : cleared_in n row marks start end words ≡ cleared n (drop 1 words) (open_items n 0 0 (part start end row) (part start end marks))
        unfolding cleared_in
        clears-is = rw (le-leb end (length row) long, le-leb end (length marks) marked, eq-eqb (length words) (n + 1) count)

        pub clears-none : end < start → drop 1 words ≡ cleared_in n row marks start end words
        unfolding open_items part
        clears-none h =
            let z : end - start ≡ 0 = omega arith in
            sym (clears-is ∙ rw z (cleared-none n (drop 1 words)))

        pub clears-some : (l : List ℕ) → l ≡ cleared n (drop 1 words) (open_items n 0 0 (take (end - start) (drop start row)) (take (end - start) (drop start marks))) → l ≡ cleared_in n row marks start end words
        unfolding part
        clears-some l e = e ∙ sym clears-is

pub ruleset clear_cases = (clears-short, clears-unmarked, clears-other, clears-none, clears-some)

-- up to the end of the row
module _ (n : ℕ) (row marks : List ℕ) (start : ℕ) (words : List ℕ) (marked : length row ≤ length marks) (count : length words ≡ n + 1) where
  rest-words : part start (length row) row ≡ drop start row
  unfolding part
  rest-words = take_all (length row - start) (drop start row) (length-drop start row)
    where
      take_all : (k : ℕ) (l : List ℕ) → length l ≡ k → take k l ≡ l
      take_all k l e = rw (append-nil) at (take_at l [] k e)

  rest-open : open_items n 0 0 (part start (length row) row) (part start (length row) marks) ≡ open_items n 0 0 (drop start row) (drop start marks)
  unfolding part
  rest-open =
      ap (λ z. open_items n 0 0 z (part start (length row) marks)) rest-words
      ∙ (ap (λ z. open_items n 0 0 (drop start row) (take z (drop start marks))) (sym (length-drop start row)) ∙ open-take n 0 0 (drop start row) (drop start marks))

  pub clears-rest : apart n (drop start row) (drop start marks) ≡ true → cleared_in n row marks start (length row) words ≡ cleared n (drop 1 words) (items (drop start row) (drop start marks))
  clears-rest a =
      clears-is n row marks start (length row) words (le_refl (length row)) marked count
      ∙ (ap (cleared n (drop 1 words)) rest-open ∙ cleared-items n (drop 1 words) (drop start row) (drop start marks) a)

pub ruleset clear_steps = (slot_within, cleared-next, cleared-start, cleared-end)
