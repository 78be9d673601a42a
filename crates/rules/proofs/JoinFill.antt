-- Declarations in front of a body whose places are all filled: when they join the body's own quantifier, and what its annotations become then.
-- Assumes nothing.
use mathlib.Core.Path.{◌≡◌, refl, ap, sym, ◌∙◌}
use mathlib.Core.Bool.{Bool, true, false}
use mathlib.Core.List.{List, [], ◌∷◌, ◌++◌, map, reverse, reverse-cons, reverse-append, map-append}
use Prim.Native.Nat.{ℕ, zero, suc, ◌+◌, ◌-◌, ◌≤◌}
use native.Mathlib.Nat.{zero-add, add-zero}
use native.Mathlib.Omega.{arith}
use borrow.Author.Tests.{le-leb, leb-true}
use lib.Dec.{eqb, leb}
use lib.ListN.{length, replicate, length-append, length-replicate}
use mathlib.Core.Bool.{◌||◌}
use Rattle.tree.specs.Form.{bound, Form, leaf}
use Rattle.form.specs.Lists.{Place, kept, filled}
use Rattle.rules.specs.Walk.{Outer, named, dangling, walk, put, subst, collect, each}
use Rattle.rules.specs.Shift.{reaches, lower}
use Rattle.rules.specs.Fill.{Decl, kept_count, fill_index, fill_for, quantifier, quantified, around, quantify}
use Rattle.rules.specs.Partial.{lower_place, on_note, clear, put_round}
use Rattle.rules.proofs.TreeLaws.{lift-zero}
use Rattle.rules.proofs.JoinLaws.{fit, clear-fit, lower-notes, on_index, unused_notes, notes-same, notes-unused, subst-around, quantified-around, round-joined, round-unclear}

map-reverse : (h : Place → Place) (ps : List Place) → reverse (map h ps) ≡ map h (reverse ps)
map-reverse h [] = refl
map-reverse h (p ∷ ps) = rw (reverse-cons (h p) (map h ps), reverse-cons p ps, map-append h (reverse ps) (p ∷ []), map-reverse h ps)

same-snoc : (j : ℕ) (p : Place) → replicate j p ++ (p ∷ []) ≡ p ∷ replicate j p
same-snoc zero p = refl
same-snoc (suc j) p = ap (λ z. p ∷ z) (same-snoc j p)

reverse-same : (j : ℕ) (p : Place) → reverse (replicate j p) ≡ replicate j p
reverse-same zero p = refl
reverse-same (suc j) p = rw (reverse-cons p (replicate j p), reverse-same j p) (same-snoc j p)

count-append : (a b : List Place) → kept_count (a ++ b) ≡ kept_count a + kept_count b
count-append [] b = rw zero-add
count-append (kept ∷ a) b = ap suc (count-append a b) ∙ omega arith
count-append (filled x ∷ a) b = count-append a b

count-reverse : (ps : List Place) → kept_count (reverse ps) ≡ kept_count ps
count-reverse [] = refl
count-reverse (kept ∷ ps) = rw (reverse-cons kept ps, count-append (reverse ps) (kept ∷ []), count-reverse ps) (omega arith)
count-reverse (filled x ∷ ps) = rw (reverse-cons (filled x) ps, count-append (reverse ps) (filled x ∷ []), count-reverse ps, add-zero)

count-lower : (j : ℕ) (ps : List Place) → kept_count (map (lower_place j) ps) ≡ kept_count ps
count-lower j [] = refl
count-lower j (kept ∷ ps) = ap suc (count-lower j ps)
count-lower j (filled x ∷ ps) = count-lower j ps

count-filled : (j : ℕ) (x : Form) → kept_count (replicate j (filled x)) ≡ 0
count-filled zero x = refl
count-filled (suc j) x = count-filled j x

-- an index past places that are all filled
past-filled : (rs : List Place) (v : ℕ) → kept_count rs ≡ 0 → length rs ≤ v → fill_index 0 0 rs v ≡ leaf (bound (0 + (v - length rs)))
past-filled [] v e h = let z : v - 0 ≡ v = omega arith in rw z
past-filled (kept ∷ rs) v e h = absurd (omega arith)
past-filled (filled x ∷ rs) zero e h = absurd (omega arith)
past-filled (filled x ∷ rs) (suc v) e h = let z : suc v - suc (length rs) ≡ v - length rs = omega arith in rw z (past-filled rs v e (omega arith))

-- what an index becomes by the places from the innermost outwards, lowered by j, is what it becomes by the lowered places and j more
module _ (j : ℕ) (x : Form) where
  lower-bound : (v : ℕ) → lower j (leaf (bound v)) ≡ leaf (bound (v - j))
  unfolding walk
  lower-bound v = let z : 0 + (v - j + 0) ≡ v - j = omega arith in rw z

  reaches-bound : (v : ℕ) → each (reaches j) 0 (leaf (bound v)) ≡ leb j v
  unfolding collect
  reaches-bound v = refl

  index-lowered : (rs : List Place) → kept_count rs ≡ 0 → (v : ℕ) → each (reaches j) 0 (fill_index 0 0 rs v) ≡ true → lower j (fill_index 0 0 rs v) ≡ fill_index 0 0 (map (lower_place j) rs ++ replicate j (filled x)) v
  index-lowered [] e v h =
      let z : 0 + v ≡ v = omega arith in
      let l : j ≤ v = leb-true j v (sym (reaches-bound v) ∙ (rw z at h)) in
      let n : length (replicate j (filled x)) ≤ v = rw (length-replicate j (filled x)) l in
      let q = past-filled (replicate j (filled x)) v (count-filled j x) n in
      let m = length-replicate j (filled x) in
      let w : 0 + (v - length (replicate j (filled x))) ≡ v - j = omega arith in
      rw (z, lower-bound v) (ap (λ u. leaf (bound u)) (sym w) ∙ sym q)
  index-lowered (kept ∷ rs) e v h = absurd (omega arith)
  index-lowered (filled y ∷ rs) e zero h = rw (lift-zero y, lift-zero (lower j y))
  index-lowered (filled y ∷ rs) e (suc v) h = index-lowered rs e v h

-- the places ps, all filled, in a body under j declarations in front
module _ (j : ℕ) (x : Form) (ps : List Place) (all : kept_count ps ≡ 0) where
  abbrev pub deeper : List Place
  deeper = replicate j (filled x) ++ map (lower_place j) ps

  deeper-all : kept_count deeper ≡ 0
  deeper-all = count-append (replicate j (filled x)) (map (lower_place j) ps) ∙ (let a = count-filled j x in let b = count-lower j ps in omega arith)

  deeper-reverse : reverse deeper ≡ map (lower_place j) (reverse ps) ++ replicate j (filled x)
  deeper-reverse = rw (reverse-append (replicate j (filled x)) (map (lower_place j) ps), reverse-same j (filled x), map-reverse (lower_place j) ps)

  -- whether what an index becomes mentions none of them
  abbrev pub fits : ℕ → Bool
  fits i = each (reaches j) 0 (fill_index 0 0 (reverse ps) i)

  reverse-long : (l : List Place) → length (reverse l) ≡ length l
  reverse-long [] = refl
  reverse-long (p ∷ l) = rw (reverse-cons p l, length-append (reverse l) (p ∷ []), reverse-long l) (omega arith)

  pub fits-high : (i : ℕ) → length ps + j ≤ i → fits i ≡ true
  fits-high i h =
      let r = reverse-long ps in
      rw (past-filled (reverse ps) i (count-reverse ps ∙ all) (omega arith)) (reaches-bound j x (0 + (i - length (reverse ps))) ∙ le-leb j (0 + (i - length (reverse ps))) (omega arith))

  fit-index : (k : ℕ) (y : Outer) → fit (fill_for ps) j y ≡ on_index fits k y
  unfolding collect
  fit-index k (named m) = refl
  fit-index k (dangling i) = rw all

  pub clear-unused : (ds : List Decl) → clear j (map (on_note (subst (fill_for ps))) ds) ≡ unused_notes fits (length ps + j) ds
  clear-unused ds =
      clear-fit (fill_for ps) j ds ∙ (notes-same fits ds (λ k y. fit (fill_for ps) j y) (on_index fits) fit-index ∙ notes-unused fits ds (length ps + j) fits-high)

  outer_lowered : (y : Outer) → fit (fill_for ps) j y ≡ true → lower j (fill_for ps y) ≡ fill_for deeper y
  unfolding walk
  outer_lowered (named m) h = refl
  outer_lowered (dangling i) h = rw (deeper-all, deeper-reverse, all) (index-lowered j x (reverse ps) (count-reverse ps ∙ all) i (rw all at h))

-- round a body that is a quantifier itself
module _ (t : ℕ) (which : (eqb t 851 || eqb t 852) ≡ true) (n : Decl) (ns : List Decl) (x : Form) (ps : List Place) (all : kept_count ps ≡ 0) (ds : List Decl) (b : Form) where
  abbrev j : ℕ
  j = suc (length ns)

  abbrev filled_body : Form
  filled_body = walk (put (fill_for ps)) (length ds) b

  its_own : quantified (subst (fill_for ps) (around t ds b)) ≡ quantifier t (map (on_note (subst (fill_for ps))) ds) filled_body
  its_own = rw (subst-around (fill_for ps) t ds b) (quantified-around t which (map (on_note (subst (fill_for ps))) ds) filled_body)

  -- they join where no annotation mentions one of them
  pub fill-joined : unused_notes (fits j x ps all) (length ps + j) ds ≡ true
      → put_round t (n ∷ ns) (subst (fill_for ps) (around t ds b)) ≡ quantify t ((n ∷ ns) ++ map (on_note (subst (fill_for (deeper j x ps all)))) ds) filled_body
  fill-joined h =
      let c = clear-unused j x ps all ds ∙ h in
      round-joined t which n ns (map (on_note (subst (fill_for ps))) ds) filled_body (subst (fill_for ps) (around t ds b)) its_own c
      ∙ ap (λ z. quantify t ((n ∷ ns) ++ z) filled_body) (lower-notes (fill_for ps) (fill_for (deeper j x ps all)) j (outer_lowered j x ps all) ds (sym (clear-fit (fill_for ps) j ds) ∙ c))

  -- and stay apart where one does
  pub fill-apart : unused_notes (fits j x ps all) (length ps + j) ds ≡ false → put_round t (n ∷ ns) (subst (fill_for ps) (around t ds b)) ≡ quantify t (n ∷ ns) (subst (fill_for ps) (around t ds b))
  fill-apart h = round-unclear t which n ns (map (on_note (subst (fill_for ps))) ds) filled_body (subst (fill_for ps) (around t ds b)) its_own (clear-unused j x ps all ds ∙ h)
