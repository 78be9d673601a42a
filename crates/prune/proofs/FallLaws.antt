-- Indices that fall by the dropped declarations inside them: the table of falls, the items, and the row that is written. Assumes nothing.
use mathlib.Core.Path.{◌≡◌, refl, ap, sym, ◌∙◌}
use mathlib.Core.Bool.{Bool, true, false}
use mathlib.Core.List.{List, [], ◌∷◌, ◌++◌}
use Prim.Native.Nat.{ℕ, zero, suc, ◌+◌, ◌-◌, ◌≤◌, ◌<◌}
use native.Mathlib.Nat.{zero-add, le_refl}
use native.Mathlib.Omega.{arith}
use borrow.Author.Tests.{le-leb, lt-leb, eq-eqb, ne_eqb, eqb-true, eqb-false}
use lib.Dec.{leb, eqb, ltb}
use lib.ListN.{length, get_or, take, drop, set, replicate, length-append, length-drop}
use Rattle.std.proofs.lemmas.List.{take_all}
use Rattle.rules.proofs.ReplicateLaws.{replicate-at}
use lib.Seq.{get_or-set_same, get_or-set_other}
use Rattle.tree.specs.Form.{pick}
use Rattle.form.specs.Answer.{answer, stop, told, written}
use Rattle.std.specs.Prelude.{Ok}
use Rattle.shift.specs.Internal.Items.{items, size_of, words_of, rewritten, wordwise, apart, word_item, store}
use Rattle.shift.specs.declared.items.Item.{Item}
use Rattle.shift.specs.declared.items.Item.TheVariants.{Plain, Ident}
use Rattle.shift.proofs.ItemLaws.{store-append, stored, rewritten-length}
use Rattle.shift.proofs.WordwiseLaws.{wordwise-items, mark-over, apart-on}
use Rattle.shift.specs.Internal.Items.{slot_of, slot_for}
use Rattle.shift.proofs.SlotLaws.{slot_is}
use Rattle.replace.specs.Internal.Pieces.{filled_words}
use Rattle.prune.specs.Internal.Dropped.{falls_at, Falls, fall_at, fall_item, fallen_words, dropped_row, dropped_outcome}
use Rattle.replace.proofs.PieceLaws.{falls-none}
use Rattle.form.specs.declared.answer.Refusal.TheVariants.{NothingToRewrite, OutputTooShort}

-- the table, from the innermost slot outwards
pub table-next : (ws fs : List ℕ) (s g : ℕ) → s < length fs → ((i : ℕ) → s < i → i ≤ length ws → get_or fs i 0 ≡ filled_words (drop i ws)) → g ≡ filled_words (drop s ws)
    → (i : ℕ) → s ≤ i → i ≤ length ws → get_or (set fs s g) i 0 ≡ filled_words (drop i ws)
table-next ws fs s g long known e i h l = go (eqb i s) refl
  where
    go : (b : Bool) → eqb i s ≡ b → get_or (set fs s g) i 0 ≡ filled_words (drop i ws)
    go true q = rw (eqb-true i s q, get_or-set_same fs s g 0 long) e
    go false q = let n = eqb-false i s q in get_or-set_other fs s i g 0 n ∙ known i (omega (arith, n)) l

-- a table of zeros holds for the slot inside all words
pub no-falls : (ws : List ℕ) (n i : ℕ) → length ws ≤ i → i ≤ length ws → get_or (replicate n 0) i 0 ≡ filled_words (drop i ws)
no-falls ws n i h l = let e : i ≡ length ws = omega arith in replicate-at n i 0 ∙ rw e (falls-none ws)

pub table-made : (ws fs : List ℕ) (s : ℕ) → s ≤ 0 → ((i : ℕ) → s ≤ i → i ≤ length ws → get_or fs i 0 ≡ filled_words (drop i ws)) → Falls ws fs
unfolding Falls
table-made ws fs s h known i l = known i (omega arith) l

pub falls-all : (ws fs : List ℕ) → Falls ws fs → get_or fs 0 0 ≡ filled_words (drop 0 ws)
unfolding Falls
falls-all ws fs h = h 0 (omega arith)

-- the slot of a word of the body, as that of an item
pub slot-here : (n o : ℕ) (body marks : List ℕ) (i s : ℕ) → apart n body marks ≡ true → 1 ≤ i → i < length body → length body ≤ length marks
    → s ≡ slot_for n o (get_or marks (i - 1) 0) (get_or body (i - 1) 0) (get_or body i 0) → s ≡ slot_of n o (word_item (get_or marks (i - 1) 0) (get_or body (i - 1) 0) (get_or body i 0))
slot-here n o body marks i s a on low long e =
    slot_is n o (get_or marks (i - 1) 0) (get_or body (i - 1) 0) (get_or body i 0) s (mark-over n (i - 1) body marks (apart-on n body marks 0 (i - 1) (omega arith) a) (omega arith) (omega arith)) e

-- the word behind a tag, by the code's table
fallen-ident : (ws fs : List ℕ) → Falls ws fs → (k t v : ℕ) (a b : Bool) → eqb t 2 ≡ a → ltb v (k - length ws) ≡ b → v - get_or fs (pick a (pick b (length ws) (length ws - (v - (k - length ws)))) (length ws)) 0
    ≡ pick a (pick b v (v - falls_at ws (v - (k - length ws)))) v
unfolding Falls falls_at
fallen-ident ws fs h k t v true true p q = rw (h (length ws) (le_refl (length ws)), ← falls-none ws) (omega arith)
fallen-ident ws fs h k t v true false p q = rw (h (length ws - (v - (k - length ws))) (omega arith))
fallen-ident ws fs h k t v false b p q = rw (h (length ws) (le_refl (length ws)), ← falls-none ws) (omega arith)

pub fallen : (ws fs : List ℕ) → Falls ws fs → (m t v s r : ℕ) → s ≡ slot_of (length ws) (length ws) (word_item m t v) → r ≡ v - get_or fs s 0 → r ≡ fall_at ws m t v
unfolding word_item slot_of fall_at Falls
fallen ws fs h zero t v s r e q = q ∙ rw (e, h (length ws) (le_refl (length ws)), ← falls-none ws) (omega arith)
fallen ws fs h (suc k) t v s r e q = q ∙ rw e (fallen-ident ws fs h k t v (eqb t 2) (ltb v (k - length ws)) refl refl)

pub unfallen : (ws : List ℕ) (t v : ℕ) → fall_at ws 0 t v ≡ v
unfolding fall_at
unfallen ws t v = refl

fallen-plain : (ws : List ℕ) (w : ℕ) → fallen_words ws (Plain w) ≡ w ∷ []
unfolding words_of fall_item
fallen-plain ws w = refl

fall-ident : (ws : List ℕ) (k t v : ℕ) → fallen_words ws (Ident k t v) ≡ t ∷ fall_at ws (suc k) t v ∷ []
unfolding words_of fall_item fall_at
fall-ident ws k t v = refl

pub fallen-items : (ws row marks : List ℕ) → apart (length ws) row marks ≡ true → rewritten (fallen_words ws) (items row marks) ≡ wordwise (fall_at ws) 0 0 row marks
fallen-items ws row marks a = wordwise-items (fall_at ws) (unfallen ws) (fallen_words ws) (fallen-plain ws) (fall-ident ws) (length ws) row marks a

pub falls-keep : (ws : List ℕ) (y : Item) → length (fallen_words ws y) ≡ size_of y
unfolding words_of fall_item size_of
falls-keep ws (Plain w) = refl
falls-keep ws (Ident k t v) = refl

-- what is left of a list from a place on
pub rest : (l : List ℕ) (i : ℕ) → take (length l - i) (drop i l) ≡ drop i l
rest l i = take_all (length l - i) (drop i l) (let d = length-drop i l in omega (arith, d))

pub rest-long : (row marks : List ℕ) (i : ℕ) → length row ≤ length marks → length (drop i row) ≤ length (drop i marks)
rest-long row marks i h = let d = length-drop i row in let e = length-drop i marks in omega (arith, d, e, h)

pub rest-some : (row : List ℕ) (i : ℕ) → i < length row → 0 < length (drop i row)
rest-some row i h = let d = length-drop i row in omega (arith, d, h)

pub rest-short : (row : List ℕ) (i n : ℕ) → length row ≤ n → length (drop i row) ≤ n
rest-short row i n h = let d = length-drop i row in omega (arith, d, h)

-- the row without the dropped declarations
pub head-fits : (h r : ℕ) {a o : ℕ} → a ≡ h → h + r ≤ o → a ≤ o
head-fits h r l f = omega arith

pub put-fits : (out out' ws : List ℕ) → out' ≡ pick (leb (0 + length ws) (length out)) (store out 0 ws) out → length ws ≤ length out → out' ≡ store out 0 ws
put-fits out out' ws e h = e ∙ rw (zero-add, le-leb (length ws) (length out) h)

pub same-fits : {n o o' : ℕ} → n ≤ o → o' ≡ o → n ≤ o'
same-fits f l = omega arith

pub table_fits : {w f g : ℕ} → w ≤ 32 → f ≡ g → g ≡ 33 → w < f
table_fits l e q = omega arith

module _ (hd ws body marks : List ℕ) where
  pub dropped-none : (room g : ℕ) → g ≡ filled_words (drop 0 ws) → g ≡ 0 → dropped_outcome hd ws body marks room ≡ stop NothingToRewrite
  unfolding dropped_outcome
  dropped-none room g e z = rw (eq-eqb (filled_words ws) 0 (sym e ∙ z))

  module _ (g : ℕ) (e : g ≡ filled_words (drop 0 ws)) (some : g ≡ 0 → ⊥) (n : ℕ) (count : n ≡ length hd + length body) where
    abbrev left : List ℕ
    left = rewritten (fallen_words ws) (items body marks)

    left-length : length left ≡ length body
    left-length = rewritten-length (fallen_words ws) (falls-keep ws) body marks

    row_is : dropped_row hd ws body marks ≡ hd ++ left
    unfolding dropped_row
    row_is = refl

    row-length : length (dropped_row hd ws body marks) ≡ n
    row-length = let b = left-length in rw (row_is, length-append) (omega arith)

    pub dropped-room : (room : ℕ) → room < n → dropped_outcome hd ws body marks room ≡ stop OutputTooShort
    unfolding dropped_outcome
    dropped-room room o = rw (ne_eqb (filled_words ws) 0 (λ z. some (e ∙ z)), row-length, lt-leb n room o)

    row_done : (room : ℕ) → n ≤ room → dropped_outcome hd ws body marks room ≡ answer (dropped_row hd ws body marks)
    unfolding dropped_outcome
    row_done room o = rw (ne_eqb (filled_words ws) 0 (λ z. some (e ∙ z)), row-length, le-leb n room o)

    pub dropped-done : (out out' out'' : List ℕ) → out' ≡ store out 0 hd → out'' ≡ store out' (length hd) left → n ≤ length out
        → (Ok n ≡ told (dropped_outcome hd ws body marks (length out))) × (out'' ≡ written (dropped_outcome hd ws body marks (length out)) out)
    dropped-done out out' out'' a b o =
        let s : out'' ≡ store out 0 (dropped_row hd ws body marks) = rw (row_is, store-append out 0 hd left, zero-add, ← a) b in
        rw (row_done (length out) o) (ap Ok (sym row-length), s ∙ stored out (dropped_row hd ws body marks) (rw row-length o))
