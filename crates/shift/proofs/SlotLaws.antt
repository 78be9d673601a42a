-- The slot of a word, as the code computes it with differences that wrap, and what is known of it. Assumes nothing.
use Rattle.std.proofs.Common.{◌≡◌, ℕ, zero, suc, ◌+◌, ◌-◌, ◌%◌, ◌^◌, ◌<◌, ◌≤◌, Bool, true, false, ◌&&◌, eqb, ltb, leb, refl, ◌∙◌, arith, ltb-false, ltb-true, le-ltb, lt-ltb, leb-false, leb-true}
use Rattle.tree.specs.Form.{pick}
use Rattle.rules.proofs.WalkLaws.{and_left, and_right}
use Rattle.shift.specs.Internal.Items.{word_item, slot_of, slot_for}
use Rattle.shift.specs.declared.items.Item.{Item}
use Rattle.shift.specs.declared.items.Item.TheVariants.{Plain, Ident}

-- the base is past every word where so many declarations are not open, and else how many inside the body are
base-none : (m n base : ℕ) → m ≤ n → n < 2 ^ 32 → base < 2 ^ 64 → (base + (n + 1)) % 2 ^ 64 ≡ m → 2 ^ 32 ≤ base
base-none m n base few low fits e = omega (arith, e, few, low, fits)

base-some : (k n base : ℕ) → n ≤ k → k < 2 ^ 32 → base < 2 ^ 64 → (base + (n + 1)) % 2 ^ 64 ≡ suc k → base ≡ k - n
base-some k n base low small fits e = omega (arith, e, fits)

index-some : (v base index : ℕ) → base ≤ v → v < 2 ^ 32 → index < 2 ^ 64 → (index + base) % 2 ^ 64 ≡ v → index ≡ v - base
index-some v base index low small fits e = omega (arith, e, fits)

module _ (t v n o base index slot : ℕ) (few : n < 2 ^ 32) (small : v < 2 ^ 32) (base-fits : base < 2 ^ 64) (index-fits : index < 2 ^ 64) (wraps : (index + base) % 2 ^ 64 ≡ v) (is : slot ≡ n - index) where
  inside : (m : ℕ) → m < 2 ^ 32 → (base + (n + 1)) % 2 ^ 64 ≡ m → eqb t 2 ≡ true → leb base v ≡ true → (b : Bool) → ltb n m ≡ b → slot ≡ pick b (slot_of n o (word_item m t v)) o
  unfolding slot_of word_item
  inside m fits e p q false h = let b = base-none m n base (ltb-false n m h) few base-fits e in let l = leb-true base v q in absurd (omega arith)
  inside zero fits e p q true h = let l = ltb-true n 0 h in absurd (omega arith)
  inside (suc k) fits e p q true h =
      let g = ltb-true n (suc k) h in
      let b = base-some k n base (omega arith) (omega arith) base-fits e in
      let l = leb-true base v q in
      let i = index-some v base index l small index-fits wraps in
      rw (p, le-ltb v (k - n) (omega arith)) (omega arith)

  outside : (m : ℕ) → m < 2 ^ 32 → (base + (n + 1)) % 2 ^ 64 ≡ m → (a : Bool) → eqb t 2 ≡ a → (a && leb base v) ≡ false → (b : Bool) → ltb n m ≡ b → o ≡ pick b (slot_of n o (word_item m t v)) o
  unfolding slot_of word_item
  outside m fits e a p q false h = refl
  outside zero fits e a p q true h = refl
  outside (suc k) fits e false p q true h = rw p
  outside (suc k) fits e true p q true h =
      let g = ltb-true n (suc k) h in
      let b = base-some k n base (omega arith) (omega arith) base-fits e in
      let l = leb-false base v q in
      rw (p, lt-ltb v (k - n) (omega arith))

  module _ (m : ℕ) (fits : m < 2 ^ 32) (e : (base + (n + 1)) % 2 ^ 64 ≡ m) where
    pub slot-in : (eqb t 2 && leb base v) ≡ true → slot ≡ slot_for n o m t v
    unfolding slot_for
    slot-in q = inside m fits e (and_left (eqb t 2) (leb base v) q) (and_right (eqb t 2) (leb base v) q) (ltb n m) refl

    pub slot-out : (eqb t 2 && leb base v) ≡ false → o ≡ slot_for n o m t v
    unfolding slot_for
    slot-out q = outside m fits e (eqb t 2) refl q (ltb n m) refl

-- where a mark is that of a tag under n declarations or more, it is the slot of the word as an item
pub slot_is : (n o m t v s : ℕ) → ((m ≡ 0 → ⊥) → n < m) → s ≡ slot_for n o m t v → s ≡ slot_of n o (word_item m t v)
unfolding slot_for slot_of word_item
slot_is n o zero t v s over e = e ∙ rw (le-ltb n 0 (omega arith))
slot_is n o (suc k) t v s over e = e ∙ rw (lt-ltb n (suc k) (over (λ z. omega arith)))

-- and it is below the number of slots
slot-low : (n o b : ℕ) (x : Item) → n ≤ b → o ≤ b → slot_of n o x ≤ b
unfolding slot_of
slot-low n o b (Plain w) g h = h
slot-low n o b (Ident k t v) g h = go (eqb t 2) (ltb v (k - n))
  where
    go : (a c : Bool) → pick a (pick c o (n - (v - (k - n)))) o ≤ b
    go true true = h
    go true false = omega arith
    go false c = h

pub slot-most : (n o b m t v s : ℕ) → n ≤ b → o ≤ b → s ≡ slot_for n o m t v → s ≤ b
unfolding slot_for
slot-most n o b m t v s g h e = rw e (go (ltb n m))
  where
    go : (c : Bool) → pick c (slot_of n o (word_item m t v)) o ≤ b
    go true = slot-low n o b (word_item m t v) g h
    go false = h
