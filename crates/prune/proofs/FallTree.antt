-- Where no index names a dropped declaration, falling is the renumbering of prune on the tree. Assumes nothing.
use mathlib.Core.Path.{◌≡◌, refl, ap, sym, ◌∙◌}
use mathlib.Core.Bool.{Bool, true, false}
use mathlib.Core.List.{List, [], ◌∷◌, ◌++◌, map, reverse, reverse-append}
use Prim.Native.Nat.{ℕ, zero, suc, ◌+◌, ◌-◌}
use native.Mathlib.Nat.{zero-add}
use native.Mathlib.Omega.{arith}
use borrow.Author.Tests.{leb-true, leb-false, lt-ltb, le-ltb}
use lib.Dec.{leb}
use lib.ListN.{length, take, drop, take-append-drop, length-map, length-drop, length-reverse}
use lib.Seq.{take_at, take_all}
use Rattle.tree.specs.Form.{Leaf, free, bound, Form, leaf, encode}
use Rattle.form.specs.Lists.{Place, kept, filled}
use Rattle.rules.specs.Walk.{Binding, inside, outside, binding, walk_index, walk_leaf, walk}
use Rattle.shift.specs.Internal.Items.{words_of, rewritten}
use Rattle.shift.specs.declared.items.Item.TheVariants.{Plain, Ident}
use Rattle.rules.proofs.WalkLaws.{binding-inside, binding-back}
use Rattle.shift.proofs.RowLaws.{ident_of, items_of, walk-items-in}
use Rattle.rules.specs.Fill.{kept_count}
use Rattle.replace.specs.Internal.Pieces.{filled_words}
use Rattle.prune.specs.Internal.Dropped.{falls_at, fall_item, fallen_words}
use Rattle.replace.proofs.FillTree.{word_for, count-both, kept-reverse, drop-map}
use Rattle.prune.proofs.PruneTree.{rank, ranked}

-- the filled places among the first ones
rank_falls : (m c : ℕ) (qs : List Place) (j : ℕ) → m ≡ c + kept_count qs → rank m c qs j + filled_words (map word_for (take j qs)) ≡ c + j
unfolding filled_words
rank_falls m c [] zero e = omega arith
rank_falls m c [] (suc j) e = omega arith
rank_falls m c (p ∷ qs) zero e = omega arith
rank_falls m c (kept ∷ qs) (suc j) e = let h = rank_falls m (suc c) qs j (omega arith) in omega arith
rank_falls m c (filled x ∷ qs) (suc j) e = let h = rank_falls m c qs j e in omega arith

filled-reverse : (ps : List Place) → filled_words (map word_for (reverse ps)) ≡ filled_words (map word_for ps)
filled-reverse ps =
    let a = count-both ps in
    let b = count-both (reverse ps) in
    let c = kept-reverse ps in
    let d = length-reverse ps in
    omega arith

-- an index falls by the filled places inside it
module _ (ps : List Place) (j : ℕ) where
  abbrev outer : List Place
  outer = take (length ps - j) ps

  abbrev inner : List Place
  inner = drop (length ps - j) ps

  falls-inner : falls_at (map word_for ps) j ≡ filled_words (map word_for inner)
  unfolding falls_at
  falls-inner = rw (length-map ps word_for, drop-map word_for (length ps - j) ps)

  turned : reverse ps ≡ reverse inner ++ reverse outer
  turned = ap reverse (sym (take-append-drop (length ps - j) ps)) ∙ reverse-append outer inner

  inner_first : (b : Bool) → leb j (length ps) ≡ b → take j (reverse ps) ≡ reverse inner
  inner_first true e =
      let h = leb-true j (length ps) e in
      let l : length (reverse inner) ≡ j = length-reverse inner ∙ (length-drop (length ps - j) ps ∙ omega arith) in
      rw turned (take_at (reverse inner) (reverse outer) j l)
  inner_first false e =
      let h = leb-false j (length ps) e in
      let z : length ps - j ≡ 0 = omega arith in
      rw z (take_all j (reverse ps) (rw (length-reverse ps) (omega arith)))

  falls-rank : rank (kept_count ps) 0 (reverse ps) j + falls_at (map word_for ps) j ≡ j
  falls-rank =
      let r = rank_falls (kept_count ps) 0 (reverse ps) j (rw (kept-reverse ps) (omega arith)) in
      let t : filled_words (map word_for (take j (reverse ps))) ≡ falls_at (map word_for ps) j = rw (inner_first (leb j (length ps)) refl, falls-inner) (filled-reverse inner) in
      omega arith

-- the items of a body are those of the renumbered one
module _ (ps : List Place) where
  fall-index : (k i : ℕ) (z : Binding) → binding k i ≡ z → fallen_words (map word_for ps) (Ident (k + length ps) 2 i) ≡ encode (walk_index (λ k x. leaf (ranked ps k x)) k i z)
  unfolding fall_item words_of encode
  fall-index k i inside q =
      let e : k + length ps - length ps ≡ k = omega arith in
      rw (length-map ps word_for, e, lt-ltb i k (binding-inside k i q))
  fall-index k i (outside j) q =
      let e : k + length ps - length ps ≡ k = omega arith in
      let d : k + j - k ≡ j = omega arith in
      let r = falls-rank ps j in
      rw (← binding-back k i j q, length-map ps word_for, e, le-ltb (k + j) k (omega arith), d) (ap (λ (v : ℕ). 2 ∷ v ∷ []) (omega arith))

  fall-leaf : (k : ℕ) (x : Leaf) → fallen_words (map word_for ps) (ident_of (k + length ps) x) ≡ encode (walk_leaf (λ k x. leaf (ranked ps k x)) k x)
  unfolding fall_item words_of encode
  fall-leaf k (free m) = refl
  fall-leaf k (bound i) = fall-index k i (binding k i) refl

  fall-plain : (w : ℕ) → fallen_words (map word_for ps) (Plain w) ≡ w ∷ []
  unfolding fall_item words_of
  fall-plain w = refl

  pub fall-tree : (f : Form) → rewritten (fallen_words (map word_for ps)) (items_of (length ps) f) ≡ encode (walk (λ k x. leaf (ranked ps k x)) 0 f)
  fall-tree f = rw zero-add at (walk-items-in (length ps) (fallen_words (map word_for ps)) (λ k x. leaf (ranked ps k x)) fall-plain fall-leaf 0 f)
