-- Which of a quantifier's declarations are used by the words of a part of a row.
use Rattle.std.specs.Prelude.{Bool, true, not, ◌&&◌, List, [], ◌∷◌, ℕ, ◌+◌, ◌-◌, leb, ltb, eqb, length, drop, replicate}
use Rattle.tree.specs.Form.{pick}
use Rattle.shift.specs.Internal.Items.{all_items, word_item}
use Rattle.shift.specs.declared.items.Item.{Item}
use Rattle.shift.specs.declared.items.Item.TheVariants.{Plain, Ident}
use Rattle.replace.specs.Internal.Pieces.{part}

-- an item that is not index j of a body round which n declarations are open
unfoldable pub not_index : ℕ → ℕ → Item → Bool
not_index n j (Plain w) = true
not_index n j (Ident k t v) = pick (eqb t 2) (pick (ltb v (k - n)) true (not (eqb j (v - (k - n))))) true

-- words of the inner ones of n declarations, from the outermost on: 0 where the items use it
unfoldable pub cleared : ℕ → List ℕ → List Item → List ℕ
cleared n [] xs = []
cleared n (w ∷ ws) xs = pick (all_items (not_index n (length ws)) xs) w 0 ∷ cleared n ws xs

-- 1 for each of n declarations that the items never use
unfoldable pub used_words : ℕ → List Item → List ℕ
used_words n xs = cleared n (replicate n 1) xs

-- words of declarations, from the outermost on, by a test of their indices: 0 where it fails
unfoldable pub cleared_by : (ℕ → Bool) → List ℕ → List ℕ
cleared_by p [] = []
cleared_by p (w ∷ ws) = pick (p (length ws)) w 0 ∷ cleared_by p ws

-- a word v behind a tag t whose mark is m, as an item of a body under n declarations: one under no more of them is plain; each word of a row so
unfoldable pub open_item : ℕ → ℕ → ℕ → ℕ → Item
open_item n m t v = pick (ltb n m) (word_item m t v) (Plain v)

unfoldable pub open_items : ℕ → ℕ → ℕ → List ℕ → List ℕ → List Item
open_items n m t [] ms = []
open_items n m t (w ∷ ws) [] = open_item n m t w ∷ open_items n 0 w ws []
open_items n m t (w ∷ ws) (k ∷ ms) = open_item n m t w ∷ open_items n k w ws ms

-- the words of n declarations behind one that is passed over, cleared by the words of a row from one position up to another where these are there
-- and marked
unfoldable pub cleared_in : ℕ → List ℕ → List ℕ → ℕ → ℕ → List ℕ → List ℕ
cleared_in n row marks from to words =
    pick (leb to (length row) && (leb to (length marks) && eqb (length words) (n + 1)))
    (cleared n (drop 1 words) (open_items n 0 0 (part from to row) (part from to marks)))
    (drop 1 words)
