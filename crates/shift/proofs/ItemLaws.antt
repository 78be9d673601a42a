-- Loops over a row and its marks. Assumes nothing.
use Rattle.std.proofs.Common.{◌≡◌, ℕ, zero, suc, ◌+◌, ◌-◌, ◌<◌, ◌≤◌, Bool, true, false, not, ◌&&◌, eqb, ltb, List, [], ◌∷◌, ◌++◌, length, get_or, drop, set, refl, ap, append_assoc, add-zero, sub-one, arith, length-append, length-drop, drop-drop, le-leb}
use lib.Seq.{set_out}
use Rattle.tree.specs.Form.{pick}
use Rattle.form.proofs.HeadLaws.{here, gone}
use Rattle.form.proofs.DecodeLaws.{clash}
use Rattle.shift.specs.Internal.Items.{item_at, items, size_of, rewritten, all_items, item_in, all_below, store}
use Rattle.rules.proofs.WalkLaws.{and_left, and_right}
use Rattle.shift.specs.declared.items.Item.{Item}
use Rattle.shift.specs.declared.items.Item.TheVariants.{Plain, Ident}

items-next : (w : ℕ) (ws ms : List ℕ) → items (w ∷ ws) ms ≡ item_at (w ∷ ws) ms ∷ items (drop (size_of (item_at (w ∷ ws) ms)) (w ∷ ws)) (drop (size_of (item_at (w ∷ ws) ms)) ms)
unfolding items item_at size_of
items-next w ws [] = refl
items-next w ws (zero ∷ ms) = refl
items-next w [] (suc k ∷ ms) = refl
items-next w (v ∷ ws) (suc k ∷ ms) = refl

size_fits : (w : ℕ) (ws ms : List ℕ) → size_of (item_at (w ∷ ws) ms) ≤ length (w ∷ ws)
unfolding item_at size_of
size_fits w ws [] = omega arith
size_fits w ws (zero ∷ ms) = omega arith
size_fits w [] (suc k ∷ ms) = omega arith
size_fits w (v ∷ ws) (suc k ∷ ms) = omega arith

pub not_yes : (b : Bool) → not b ≡ true → b ≡ false
not_yes true e = absurd (clash cc)
not_yes false e = refl

pub not-no : (b : Bool) → not b ≡ false → b ≡ true
not-no true e = refl
not-no false e = absurd (clash cc)

pub size-pos : (x : Item) → 0 < size_of x
unfolding size_of
size-pos (Plain w) = omega arith
size-pos (Ident k t v) = omega arith

-- which item begins at i
last-item : (w m : ℕ) (ms : List ℕ) → (m ≡ 0 → ⊥) → item_at (w ∷ []) (m ∷ ms) ≡ Plain w
unfolding item_at
last-item w zero ms n = refl
last-item w (suc m) ms n = refl

ident-item : (w v m : ℕ) (ws ms : List ℕ) → (m ≡ 0 → ⊥) → item_at (w ∷ v ∷ ws) (m ∷ ms) ≡ Ident (m - 1) w v
unfolding item_at
ident-item w v zero ws ms n = absurd (n refl)
ident-item w v (suc m) ws ms n = rw sub-one

pub item-gone : (row marks : List ℕ) (i : ℕ) → length row ≤ i → Plain 0 ≡ item_at (drop i row) (drop i marks)
unfolding item_at
item-gone row marks i h = rw (gone row i h)

module _ (row marks : List ℕ) (i : ℕ) (low : i < length row) where
  pub item-none : length marks ≤ i → Plain (get_or row i 0) ≡ item_at (drop i row) (drop i marks)
  unfolding item_at
  item-none h = rw (here row i low, gone marks i h)

  module _ (in-marks : i < length marks) where
    pub item-zero : get_or marks i 0 ≡ 0 → Plain (get_or row i 0) ≡ item_at (drop i row) (drop i marks)
    unfolding item_at
    item-zero e = rw (here row i low, here marks i in-marks, e)

    pub item-last : (get_or marks i 0 ≡ 0 → ⊥) → length row ≤ i + 1 → Plain (get_or row i 0) ≡ item_at (drop i row) (drop i marks)
    item-last n h = rw (here row i low, here marks i in-marks, gone row (i + 1) h, last-item (get_or row i 0) (get_or marks i 0) (drop (i + 1) marks) n)

    pub item-ident : (get_or marks i 0 ≡ 0 → ⊥) → i + 1 < length row → Ident (get_or marks i 0 - 1) (get_or row i 0) (get_or row (i + 1) 0) ≡ item_at (drop i row) (drop i marks)
    item-ident n h = rw (here row i low, here marks i in-marks, here row (i + 1) h, ident-item (get_or row i 0) (get_or row (i + 1) 0) (get_or marks i 0) (drop (i + 1 + 1) row) (drop (i + 1) marks) n)

module _ (row marks : List ℕ) (i : ℕ) (low : i < length row) {x : Item} (at : x ≡ item_at (drop i row) (drop i marks)) where
  pub next : items (drop i row) (drop i marks) ≡ x ∷ items (drop (i + size_of x) row) (drop (i + size_of x) marks)
  next = rw (← drop-drop (size_of x) i row, ← drop-drop (size_of x) i marks, at) (rw (here row i low) (items-next _ (drop (i + 1) row) (drop i marks)))

  pub size_in : i + size_of x ≤ length row
  size_in = let h : size_of x ≤ length (drop i row) = rw (at, here row i low) (size_fits _ (drop (i + 1) row) (drop i marks)) in omega (arith, length-drop i row)

  -- a test of all items
  module _ (q : Item → Bool) where
    pub all_more : q x ≡ true → all_items q (items (drop i row) (drop i marks)) ≡ all_items q (items (drop (i + size_of x) row) (drop (i + size_of x) marks))
    unfolding all_items
    all_more h = rw (next, h)

    pub all-stop : q x ≡ false → all_items q (items (drop i row) (drop i marks)) ≡ false
    unfolding all_items
    all-stop h = rw (next, h)

pub all_none : (q : Item → Bool) (row marks : List ℕ) (i : ℕ) → length row ≤ i → all_items q (items (drop i row) (drop i marks)) ≡ true
unfolding all_items items
all_none q row marks i h = rw (gone row i h)

-- a rewriting that keeps the length
pub store-append : (l : List ℕ) (i : ℕ) (v w : List ℕ) → store l i (v ++ w) ≡ store (store l i v) (i + length v) w
unfolding store
store-append l i [] w = rw add-zero refl
store-append l i (x ∷ v) w =
    let e : i + suc (length v) ≡ i + 1 + length v = omega arith in
    rw e (store-append (set l i x) (i + 1) v w)

pub store_out : (ws l : List ℕ) (i : ℕ) → length l ≤ i → store l i ws ≡ l
unfolding store
store_out [] l i h = refl
store_out (w ∷ ws) l i h = rw (set_out l i w h) (store_out ws l (i + 1) (omega arith))

pub store-more : (g : Item → List ℕ) → ((y : Item) → length (g y) ≡ size_of y) → (row marks : List ℕ) (i : ℕ) → i < length row → {x : Item} → x ≡ item_at (drop i row) (drop i marks)
    → (out out' : List ℕ) → out' ≡ store out i (g x) → store out i (rewritten g (items (drop i row) (drop i marks))) ≡ store out' (i + size_of x) (rewritten g (items (drop (i + size_of x) row) (drop (i + size_of x) marks)))
unfolding rewritten
store-more g keep row marks i low {x} at out out' e = rw (next row marks i low at, store-append out i (g x), ← e, keep x)

pub store-none : (g : Item → List ℕ) (row marks out : List ℕ) (i : ℕ) → length row ≤ i → store out i (rewritten g (items (drop i row) (drop i marks))) ≡ out
unfolding rewritten items store
store-none g row marks out i h = rw (gone row i h)

module _ (g : Item → List ℕ) (keep : (y : Item) → length (g y) ≡ size_of y) where
  pub rewritten-length : (row marks : List ℕ) → length (rewritten g (items row marks)) ≡ length row
  unfolding rewritten items size_of
  rewritten-length [] ms = refl
  rewritten-length (w ∷ ws) [] = rw (length-append, keep (Plain w), rewritten-length ws []) (omega arith)
  rewritten-length (w ∷ ws) (zero ∷ ms) = rw (length-append, keep (Plain w), rewritten-length ws ms) (omega arith)
  rewritten-length (w ∷ []) (suc k ∷ ms) = rw (length-append, keep (Plain w)) (omega arith)
  rewritten-length (w ∷ v ∷ ws) (suc k ∷ ms) = rw (length-append, keep (Ident k w v), rewritten-length ws (drop 1 ms)) (omega arith)

pub store-front : (a b ws : List ℕ) (i : ℕ) → length a ≡ i → length ws ≤ length b → store (a ++ b) i ws ≡ a ++ (ws ++ drop (length ws) b)
unfolding store
store-front a b [] i e h = refl
store-front a [] (w ∷ ws) i e h = absurd (omega arith)
store-front a (y ∷ b) (w ∷ ws) i e h =
    let q : (a ++ (w ∷ [])) ++ b ≡ a ++ (w ∷ b) = simp append_assoc in
    let l : length (a ++ (w ∷ [])) ≡ i + 1 = rw length-append (omega arith) in
    rw (← e, set_at a b y w, e, ← q, store-front (a ++ (w ∷ [])) b ws (i + 1) l (omega arith)) (simp append_assoc)
  where
    set_at : (a b : List ℕ) (x v : ℕ) → set (a ++ (x ∷ b)) (length a) v ≡ a ++ (v ∷ b)
    set_at [] b x v = refl
    set_at (y ∷ a) b x v = ap (λ z. y ∷ z) (set_at a b x v)

pub stored : (out ws : List ℕ) → length ws ≤ length out → store out 0 ws ≡ ws ++ drop (length ws) out
stored out ws h = store-front [] out ws 0 refl h

-- where every word is below hi, every index is
in-below : (lo k t v hi : ℕ) → lo ≡ 0 → ltb v hi ≡ true → item_in lo hi (Ident k t v) ≡ true
unfolding item_in
in-below lo k t v hi z h = rw (z, h, le-leb 0 (v - k) (omega arith)) (go (eqb t 2) (ltb v k))
  where
    go : (b c : Bool) → pick b (pick c true (true && true)) true ≡ true
    go true true = refl
    go true false = refl
    go false c = refl

pub below_in : (lo hi : ℕ) (row marks : List ℕ) → lo ≡ 0 → all_below hi row ≡ true → all_items (item_in lo hi) (items row marks) ≡ true
unfolding all_below all_items items item_in
below_in lo hi [] ms z h = refl
below_in lo hi (w ∷ ws) [] z h = below_in lo hi ws [] z (and_right (ltb w hi) (all_below hi ws) h)
below_in lo hi (w ∷ ws) (zero ∷ ms) z h = below_in lo hi ws ms z (and_right (ltb w hi) (all_below hi ws) h)
below_in lo hi (w ∷ []) (suc k ∷ ms) z h = refl
below_in lo hi (w ∷ v ∷ ws) (suc k ∷ ms) z h =
    let g = and_right (ltb w hi) (ltb v hi && all_below hi ws) h in
    rw (in-below lo k w v hi z (and_left (ltb v hi) (all_below hi ws) g)) (below_in lo hi ws (drop 1 ms) z (and_right (ltb v hi) (all_below hi ws) g))

-- the pass over the words
pub below-push : (hi : ℕ) (ws : List ℕ) (w : ℕ) → all_below hi (ws ++ w ∷ []) ≡ (all_below hi ws && ltb w hi)
unfolding all_below
below-push hi [] w = go (ltb w hi)
  where
    go : (b : Bool) → (b && true) ≡ b
    go true = refl
    go false = refl
below-push hi (v ∷ ws) w = rw (below-push hi ws w) (go (ltb v hi))
  where
    go : (b : Bool) → (b && (all_below hi ws && ltb w hi)) ≡ ((b && all_below hi ws) && ltb w hi)
    go true = refl
    go false = refl
