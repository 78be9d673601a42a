-- A row and its marks, item by item: what the loops do. Nothing here is needed to read a public contract.
use Rattle.std.specs.Prelude.{◌≡◌, ℕ, zero, suc, ◌+◌, ◌-◌, ◌≤◌, min, Bool, true, false, ◌&&◌, List, [], ◌∷◌, ◌++◌, length, drop, replicate, ℤ, pos, negsuc, ◌==◌, nat_le, nat_lt, slice_set}
use Rattle.tree.specs.Form.{pick}
use Rattle.form.specs.Answer.{Outcome, answer, needs}
use Rattle.shift.specs.declared.items.Item.{Item}
use Rattle.shift.specs.declared.items.Item.TheVariants.{Plain, Ident}
use Rattle.form.specs.declared.answer.Refusal.{Refusal}
use Rattle.form.specs.declared.answer.Refusal.TheVariants.{Broken, Captured, OutOfLimits, OutputTooShort}

-- marks that can be made for a row: they hold 0, and there are enough of them
pub record Fresh (row marks : List ℕ) : Type 0 where
  pub zeros : marks ≡ replicate (length marks) 0
  pub enough : length row ≤ length marks
  pub short : length row ≤ 8192

-- the first item of a row with its marks; all of them
unfoldable pub item_at : List ℕ → List ℕ → Item
item_at [] ms = Plain 0
item_at (w ∷ ws) [] = Plain w
item_at (w ∷ ws) (zero ∷ ms) = Plain w
item_at (w ∷ []) (suc k ∷ ms) = Plain w
item_at (w ∷ v ∷ ws) (suc k ∷ ms) = Ident k w v

unfoldable pub items : List ℕ → List ℕ → List Item
items [] ms = []
items (w ∷ ws) [] = Plain w ∷ items ws []
items (w ∷ ws) (zero ∷ ms) = Plain w ∷ items ws ms
items (w ∷ []) (suc k ∷ ms) = Plain w ∷ []
items (w ∷ v ∷ ws) (suc k ∷ ms) = Ident k w v ∷ items ws (drop 1 ms)

unfoldable pub size_of : Item → ℕ
size_of (Plain w) = 1
size_of (Ident k t v) = 2

unfoldable pub words_of : Item → List ℕ
words_of (Plain w) = w ∷ []
words_of (Ident k t v) = t ∷ v ∷ []

-- what g puts for each item, one after another
unfoldable pub rewritten : (Item → List ℕ) → List Item → List ℕ
rewritten g [] = []
rewritten g (x ∷ xs) = g x ++ rewritten g xs

unfoldable pub all_items : (Item → Bool) → List Item → Bool
all_items q [] = true
all_items q (x ∷ xs) = q x && all_items q xs

-- each word, as it becomes by the mark and the word before it; the first has the mark m and the word t before it
unfoldable pub wordwise : (ℕ → ℕ → ℕ → ℕ) → ℕ → ℕ → List ℕ → List ℕ → List ℕ
wordwise h m t [] ms = []
wordwise h m t (w ∷ ws) [] = h m t w ∷ wordwise h 0 w ws []
wordwise h m t (w ∷ ws) (k ∷ ms) = h m t w ∷ wordwise h k w ws ms

-- no two words of a row side by side are marked, and each mark is that of a tag under lo declarations or more
unfoldable pub apart : ℕ → List ℕ → List ℕ → Bool
apart lo [] ms = true
apart lo (w ∷ ws) [] = true
apart lo (w ∷ ws) (zero ∷ ms) = apart lo ws ms
apart lo (w ∷ []) (suc k ∷ ms) = true
apart lo (w ∷ v ∷ ws) (suc k ∷ []) = nat_le lo k
apart lo (w ∷ v ∷ ws) (suc k ∷ zero ∷ ms) = nat_le lo k && apart lo ws ms
apart lo (w ∷ v ∷ ws) (suc k ∷ suc j ∷ ms) = false

-- a word v behind a tag t whose mark is m, as an item; each word of a row so
unfoldable pub word_item : ℕ → ℕ → ℕ → Item
word_item zero t v = Plain v
word_item (suc k) t v = Ident k t v

unfoldable pub word_items : ℕ → ℕ → List ℕ → List ℕ → List Item
word_items m t [] ms = []
word_items m t (w ∷ ws) [] = word_item m t w ∷ word_items 0 w ws []
word_items m t (w ∷ ws) (k ∷ ms) = word_item m t w ∷ word_items k w ws ms

-- the slot of the declaration whose index an item is: 1 for the outermost of n, n for the innermost, 0 for one further out; o for any other item
unfoldable pub slot_of : ℕ → ℕ → Item → ℕ
slot_of n o (Plain w) = o
slot_of n o (Ident k t v) = pick (t == 2) (pick (nat_lt v (k - n)) o (n - (v - (k - n)))) o

-- that of a word v behind a tag t whose mark is m; o too where n declarations or more are not open
unfoldable pub slot_for : ℕ → ℕ → ℕ → ℕ → ℕ → ℕ
slot_for n o m t v = pick (nat_lt n m) (slot_of n o (word_item m t v)) o

-- l with the words of a list stored from i on, as far as there is room
unfoldable pub store : List ℕ → ℕ → List ℕ → List ℕ
store l i [] = l
store l i (w ∷ ws) = store (slice_set l i w) (i + 1) ws

-- shift
abbrev pub up_by : ℤ → ℕ
up_by (pos n) = n
up_by (negsuc n) = 0

abbrev pub down_by : ℤ → ℕ
down_by (pos n) = 0
down_by (negsuc n) = suc n

unfoldable pub item_in : ℕ → ℕ → Item → Bool
item_in lo hi (Plain w) = true
item_in lo hi (Ident k t v) = pick (t == 2) (pick (nat_lt v k) true (nat_le lo (v - k) && nat_lt v hi)) true

-- whether every word is below hi
unfoldable pub all_below : ℕ → List ℕ → Bool
all_below hi [] = true
all_below hi (w ∷ ws) = nat_lt w hi && all_below hi ws

unfoldable pub move_word : ℕ → ℕ → ℕ → ℕ
move_word u d v = min (v + u) 4294967295 - d

unfoldable pub move_item : ℕ → ℕ → Item → Item
move_item u d (Plain w) = Plain w
move_item u d (Ident k t v) = Ident k t (pick (t == 2) (pick (nat_lt v k) v (move_word u d v)) v)

abbrev pub moved_words : ℕ → ℕ → Item → List ℕ
moved_words u d x = words_of (move_item u d x)

-- the word v behind a tag t whose mark is m
unfoldable pub move_at : ℕ → ℕ → ℕ → ℕ → ℕ → ℕ
move_at u d zero t v = v
move_at u d (suc k) t v = pick (t == 2) (pick (nat_lt v k) v (move_word u d v)) v

-- a rewriting that keeps the length: refusal r where a test fails, then a short output row, else the words ws
unfoldable pub same_length : (Item → Bool) → List ℕ → Refusal → List ℕ → List ℕ → ℕ → Outcome
same_length q ws r row marks room = needs r (all_items q (items row marks)) (needs OutputTooShort (nat_le (length row) room) (answer ws))

abbrev pub low_or_high : ℕ → Refusal
low_or_high d = pick (d == 0) OutOfLimits Captured

-- shift of a row that is marked throughout; any other is refused as no form
unfoldable pub shift_words : List ℕ → List ℕ → ℕ → ℕ → ℕ → Outcome
shift_words row marks u d room =
    needs (Broken 0) (nat_le (length row) (length marks)) (same_length (item_in d (65536 - u)) (wordwise (move_at u d) 0 0 row marks) (low_or_high d) row marks room)
