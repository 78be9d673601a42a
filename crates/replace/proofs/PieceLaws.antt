-- The loops over a plan's pieces: searches in the table, lengths, and the words stored one piece after another. Assumes nothing.
use mathlib.Core.Path.{◌≡◌, refl, ap, sym, ◌∙◌}
use mathlib.Core.Bool.{Bool, true, false, not}
use mir.Val.{bool_byte}
use Rattle.std.specs.Prelude.{Option, Some, None, cond, position}
use Rattle.std.specs.Option.{unwrap_or}
use Rattle.std.specs.List.{position_or_len}
use Rattle.std.proofs.lemmas.List.Recursion.{is_position_or_len}
use Rattle.std.proofs.lemmas.List.Sums.{prefix_len-le-length}
use mathlib.Core.List.{List, [], ◌∷◌}
use Prim.Native.Nat.{ℕ, zero, suc, ◌+◌, ◌-◌, ◌≤◌, ◌<◌}
use native.Mathlib.Nat.{add-zero, le_refl}
use native.Mathlib.Omega.{arith}
use borrow.Author.Tests.{ltb-false, le-leb, lt-leb, leb-true, leb-false, le-ltb, ne_eqb}
use lib.Dec.{leb, ltb, eqb}
use lib.ListN.{length, get_or, take, drop, length-append, length-drop}
use lib.Seq.{length-take-le}
use Rattle.tree.specs.Form.{pick}
use Rattle.form.proofs.HeadLaws.{here, gone}
use Rattle.shift.specs.Internal.Items.{item_at, items, size_of, words_of, rewritten, store, moved_words}
use Rattle.shift.specs.declared.items.Item.{Item}
use Rattle.shift.specs.declared.items.Item.TheVariants.{Plain, Ident}
use Rattle.shift.proofs.ItemLaws.{next, store-append, rewritten-length, size-pos}
use Rattle.shift.proofs.ShiftLaws.{keeps}
use Rattle.replace.specs.Internal.Pieces.{part, piece_words, piece_size, spot, filled_words, free_piece, place_piece, fill_piece, piece_of, planned, sizes, capped, Tabled, InRow, Fits}
use Rattle.replace.specs.declared.pieces.Piece.{Piece}
use Rattle.replace.specs.declared.pieces.Piece.TheVariants.{Same, Index, Part}
use Rattle.replace.specs.declared.pieces.Plan.{Plan}

-- a name in the table, and the filled places
spot-step : (b : Bool) (n : ℕ) → pick b 0 (suc n) ≡ cond b 0 (1 + n)
spot-step true n = refl
spot-step false n = omega arith

spot-place : (m : ℕ) (ns : List ℕ) → spot m ns ≡ position_or_len (λ n. eqb n m) ns
unfolding spot
spot-place m ns = is_position_or_len (λ ns. spot m ns) (λ n. eqb n m) refl (λ n ns. spot-step (eqb n m) (spot m ns)) ns

or-end : (k n : ℕ) → k ≤ n → unwrap_or (cond (ltb k n) (Some k) None) n ≡ k
or-end k n h = go (ltb k n) refl
  where
    go : (b : Bool) → ltb k n ≡ b → unwrap_or (cond b (Some k) None) n ≡ k
    go true q = refl
    go false q = let l = ltb-false k n q in omega arith

pub spot-or-end : (ns : List ℕ) (m : ℕ) (r : Option ℕ) → r ≡ position (λ n. eqb n m) ns → unwrap_or r (length ns) ≡ spot m ns
spot-or-end ns m r e = rw e (or-end (position_or_len (λ n. eqb n m) ns) (length ns) (prefix_len-le-length _ ns) ∙ sym (spot-place m ns))

pub filled-byte : (w : ℕ) → bool_byte (not (eqb w 0)) ≡ filled_words (w ∷ [])
unfolding filled_words
filled-byte zero = refl
filled-byte (suc w) = rw (ne_eqb (suc w) 0 (λ z. omega arith))

pub filled-word : (w : ℕ) (ws : List ℕ) → filled_words (w ∷ ws) ≡ filled_words (w ∷ []) + filled_words ws
unfolding filled_words
filled-word zero ws = omega arith
filled-word (suc w) ws = omega arith

pub filled-few : (w : ℕ) → filled_words (w ∷ []) ≤ 1
unfolding filled_words
filled-few zero = omega arith
filled-few (suc w) = omega arith

pub filled_next : (ws : List ℕ) (i n : ℕ) → i < length ws → n + filled_words (drop i ws) ≡ n + filled_words (get_or ws i 0 ∷ []) + filled_words (drop (i + 1) ws)
filled_next ws i n h = rw (here ws i h, filled-word (get_or ws i 0)) (omega arith)

pub filled-end : (ws : List ℕ) (i n : ℕ) → length ws ≤ i → n + filled_words (drop i ws) ≡ n
unfolding filled_words
filled-end ws i n h = rw (gone ws i h) (omega arith)

-- how many are inside a slot, from the innermost outwards
pub falls-none : (ws : List ℕ) → 0 ≡ filled_words (drop (length ws) ws)
unfolding filled_words
falls-none ws = rw (gone ws (length ws) (le_refl (length ws)))

pub falls-next : (ws : List ℕ) (s : ℕ) → s < length ws → (g r : ℕ) → g ≡ filled_words (drop (s + 1) ws) → r ≡ filled_words (get_or ws s 0 ∷ []) → g + r ≡ filled_words (drop s ws)
falls-next ws s low g r e q = rw (e, q, here ws s low, filled-word (get_or ws s 0) (drop (s + 1) ws)) (omega arith)

-- the words of the table that the plan uses
pub used-first : (p : Plan) → Tabled p → length (take p.table.n p.table.words) ≡ p.table.n
used-first p h =
    let a = h.few in
    let b = h.words in
    length-take-le p.table.n p.table.words (omega arith)

pub used-few : (p : Plan) → Tabled p → length (take p.table.n p.table.words) ≤ 32
used-few p h = rw (used-first p h) h.few

-- what holds of the item itself, of each index and of each part of the table holds of every piece
module _ (p : Plan) (P : Piece → Type 0) (same : P Same) (index : (v : ℕ) → P (Index v))
    (inside : (i u d : ℕ) → i < p.table.n → P (Part (get_or p.table.starts i 0) (get_or p.table.ends i 0) u d)) where
  free_all : (k i : ℕ) (b : Bool) → leb p.table.n i ≡ b → P (pick b Same (Part (get_or p.table.starts i 0) (get_or p.table.ends i 0) k p.down))
  free_all k i true e = same
  free_all k i false e = inside i k p.down (leb-false p.table.n i e)

  place-all : (k v i : ℕ) (b : Bool) → i < p.table.n → P (pick b (Index v) (Part (get_or p.table.starts i 0) (get_or p.table.ends i 0) k p.down))
  place-all k v i true h = index v
  place-all k v i false h = inside i k p.down h

  fill-all : (k v : ℕ) (a b : Bool) → leb p.table.n (v - (k - p.table.n)) ≡ b
      → P (pick a Same (pick b (Index (v - p.gone)) (place_piece p k v (p.table.n - 1 - (v - (k - p.table.n))))))
  unfolding place_piece
  fill-all k v true b e = same
  fill-all k v false true e = index _
  fill-all k v false false e =
      let l = leb-false p.table.n (v - (k - p.table.n)) e in
      place-all _ _ (p.table.n - 1 - (v - (k - p.table.n))) (eqb (get_or p.table.words (p.table.n - 1 - (v - (k - p.table.n))) 0) 0) (omega arith)

  pick_all : (b : Bool) (x y : Piece) → P x → P y → P (pick b x y)
  pick_all true x y h k = h
  pick_all false x y h k = k

  pub piece-all : (x : Item) → P (piece_of p x)
  unfolding piece_of free_piece fill_piece
  piece-all (Plain w) = same
  piece-all (Ident k t v) =
      pick_all p.fills _ _ (pick_all (eqb t 2) _ _ (fill-all k v (ltb v (k - p.table.n)) (leb p.table.n (v - (k - p.table.n))) refl) same)
      (pick_all (eqb t 1) _ _ (free_all k (spot v (take p.table.n p.table.words)) _ refl) same)

-- a dangling index whose place is filled becomes the expression, lifted by the declarations that are left
pub part-is : (p : Plan) (k v b u : ℕ) → b ≡ k - p.table.n → b ≤ v → v - b < p.table.n → (get_or p.table.words (p.table.n - 1 - (v - b)) 0 ≡ 0 → ⊥) → u ≡ k - p.gone
    → Part (get_or p.table.starts (p.table.n - 1 - (v - b)) 0) (get_or p.table.ends (p.table.n - 1 - (v - b)) 0) u p.down ≡ fill_piece p k v
unfolding fill_piece place_piece
part-is p k v b u e low few full g = rw (← e, le-ltb v b low, lt-leb p.table.n (v - b) few, ne_eqb _ 0 full, g)

-- where a piece lies, and how many words it has
pub piece-fits : (p : Plan) (n : ℕ) → InRow p n → (x : Item) → Fits (piece_of p x) n
unfolding Fits InRow
piece-fits p n inside x = piece-all p (λ c. Fits c n) tt (λ v. tt) (λ i u d h. inside i h) x

pub part_length : (s e : ℕ) (l : List ℕ) → s ≤ e → e ≤ length l → length (part s e l) ≡ e - s
unfolding part
part_length s e l h k = length-take-le (e - s) (drop s l) (rw length-drop (omega arith))

pub words-length : (x : Item) → length (words_of x) ≡ size_of x
unfolding words_of size_of
words-length (Plain w) = refl
words-length (Ident k t v) = refl

pub piece-length : (list lm : List ℕ) (c : Piece) (x : Item) → Fits c (length list) → length (piece_words list lm c x) ≡ piece_size c x
unfolding piece_words piece_size Fits
piece-length list lm Same x h = words-length x
piece-length list lm (Index v) x h = refl
piece-length list lm (Part s e u d) x h = rewritten-length (moved_words u d) (keeps u d) (part s e list) (part s e lm) ∙ part_length s e list h.0 h.1

pub planned-length : (p : Plan) (list lm : List ℕ) → InRow p (length list) → (xs : List Item) → length (rewritten (planned p list lm) xs) ≡ sizes p xs
unfolding rewritten sizes
planned-length p list lm h [] = refl
planned-length p list lm h (x ∷ xs) = rw (length-append, piece-length list lm (piece_of p x) x (piece-fits p (length list) h x), planned-length p list lm h xs)

-- lengths are added as far as they matter
pub capped-over : (n k : ℕ) → n ≤ 8192 → 8192 - n < k → capped (n + k) ≡ 8193
unfolding capped
capped-over n k h l = rw (lt-leb (n + k) 8192 (omega arith))

pub capped_same : (n : ℕ) → n ≤ 8192 → capped n ≡ n
unfolding capped
capped_same n h = rw (le-leb n 8192 h)

pub capped-high : (n r : ℕ) → r ≡ capped n → 8192 < r → 8192 < n
capped-high n r e h = go (leb n 8192) refl
  where
    go : (b : Bool) → leb n 8192 ≡ b → 8192 < n
    go true q = let z = capped_same n (leb-true n 8192 q) in omega arith
    go false q = leb-false n 8192 q

capped-else : (n : ℕ) → 8192 < n → capped n ≡ 8193
unfolding capped
capped-else n h = rw (lt-leb n 8192 h)

pub capped-low : (n r : ℕ) → r ≡ capped n → r ≤ 8192 → r ≡ n
capped-low n r e h = go (leb n 8192) refl
  where
    go : (b : Bool) → leb n 8192 ≡ b → r ≡ n
    go true q = e ∙ capped_same n (leb-true n 8192 q)
    go false q = let z = capped-else n (leb-false n 8192 q) in absurd (omega arith)

-- one item after another
module _ (row marks : List ℕ) (i : ℕ) (low : i < length row) {x : Item} (at : x ≡ item_at (drop i row) (drop i marks)) where
  pub store-next : (g : Item → List ℕ) (out out' : List ℕ) (p q : ℕ) → out' ≡ store out p (g x) → q ≡ p + length (g x)
      → store out p (rewritten g (items (drop i row) (drop i marks))) ≡ store out' q (rewritten g (items (drop (i + size_of x) row) (drop (i + size_of x) marks)))
  unfolding rewritten
  store-next g out out' p q e n = rw (next row marks i low at, store-append out p (g x), ← e, n)

  pub sizes-next : (p : Plan) → sizes p (items (drop i row) (drop i marks)) ≡ piece_size (piece_of p x) x + sizes p (items (drop (i + size_of x) row) (drop (i + size_of x) marks))
  unfolding sizes
  sizes-next p = rw (next row marks i low at)

module _ (row marks : List ℕ) (i : ℕ) (high : length row ≤ i) where
  pub store-stop : (g : Item → List ℕ) (out : List ℕ) (p : ℕ) → store out p (rewritten g (items (drop i row) (drop i marks))) ≡ out
  unfolding rewritten items store
  store-stop g out p = rw (gone row i high)

  pub sizes-stop : (p : Plan) (k : ℕ) → k + sizes p (items (drop i row) (drop i marks)) ≡ k
  unfolding sizes items
  sizes-stop p k = rw (gone row i high, add-zero)

-- a piece by its case
pub same_size : {c : Piece} (x : Item) → c ≡ Same → 0 < piece_size c x
unfolding piece_size
same_size x e = rw e (size-pos x)

pub index-size : {c : Piece} {v : ℕ} (x : Item) → c ≡ Index v → piece_size c x ≡ 2
unfolding piece_size
index-size x e = rw e

pub part-size : {c : Piece} {s e u d : ℕ} (x : Item) → c ≡ Part s e u d → piece_size c x ≡ e - s
unfolding piece_size
part-size x q = rw q

pub part-fits : (n : ℕ) {c : Piece} {s e u d : ℕ} → Fits c n → c ≡ Part s e u d → (s ≤ e) × (e ≤ n)
unfolding Fits
part-fits n h q = rw q at h

-- an item by its case
pub ident-size : (k t v : ℕ) → size_of (Ident k t v) ≡ 2
unfolding size_of
ident-size k t v = refl

pub ident-step : {x : Item} {k t v : ℕ} → x ≡ Ident k t v → size_of x ≡ 2
ident-step e = rw (e, ident-size)

module _ {x : Item} {w : ℕ} (is : x ≡ Plain w) where
  pub plain_step : size_of x ≡ 1
  unfolding size_of
  plain_step = rw is

  pub plain_size : 1 ≡ piece_size Same x
  unfolding piece_size
  plain_size = sym plain_step

  pub plain-same : (p : Plan) → Same ≡ piece_of p x
  unfolding piece_of
  plain-same p = rw is

  pub plain-words : (p : Plan) (list lm : List ℕ) → words_of x ≡ planned p list lm x
  unfolding piece_words
  plain-words p list lm = rw (← plain-same p)

-- a piece in the loops
module _ (p : Plan) (x : Item) {c : Piece} (is : c ≡ piece_of p x) {n : ℕ} (size : n ≡ piece_size c x) where
  pub planned-size : (list lm : List ℕ) → InRow p (length list) → n ≡ length (planned p list lm x)
  planned-size list lm h = rw (size, is) (sym (piece-length list lm (piece_of p x) x (piece-fits p (length list) h x)))

  pub sizes_step : (row marks : List ℕ) (i : ℕ) → i < length row → x ≡ item_at (drop i row) (drop i marks)
      → sizes p (items (drop i row) (drop i marks)) ≡ n + sizes p (items (drop (i + size_of x) row) (drop (i + size_of x) marks))
  sizes_step row marks i low at = rw (size, is) (sizes-next row marks i low at p)

  module _ (row marks : List ℕ) (i : ℕ) (low : i < length row) (at : x ≡ item_at (drop i row) (drop i marks)) (k : ℕ) where
    pub needed-next : capped (k + sizes p (items (drop i row) (drop i marks))) ≡ capped (k + n + sizes p (items (drop (i + size_of x) row) (drop (i + size_of x) marks)))
    needed-next = rw (sizes_step row marks i low at) (ap capped (omega arith))

    pub needed-over : k ≤ 8192 → 8192 - k < n → capped (k + sizes p (items (drop i row) (drop i marks))) ≡ 8193
    needed-over h l = rw (sizes_step row marks i low at) (capped-over k _ h (omega arith))

pub needed-end : (p : Plan) (row marks : List ℕ) (i k : ℕ) → length row ≤ i → k ≤ 8192 → capped (k + sizes p (items (drop i row) (drop i marks))) ≡ k
needed-end p row marks i k l h = rw (sizes-stop row marks i l p k) (capped_same k h)

pub pick_yes : {A : Type 0} {b : Bool} (x y : A) → b ≡ true → pick b x y ≡ x
pick_yes x y e = rw e

pub pick_no : {A : Type 0} {b : Bool} (x y : A) → b ≡ false → pick b x y ≡ y
pick_no x y e = rw e
