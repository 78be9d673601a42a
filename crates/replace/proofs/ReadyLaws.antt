-- A table whose parts stand in the list row, as the code tests it. Assumes nothing.
use mathlib.Core.Path.{◌≡◌, refl, sym}
use mathlib.Core.Bool.{Bool, true, false, ◌&&◌}
use mathlib.Core.List.{List, []}
use Prim.Native.Nat.{ℕ, zero, suc, ◌+◌, ◌≤◌, ◌<◌}
use native.Mathlib.Numerals.{add-one}
use native.Mathlib.Omega.{arith}
use borrow.Author.Tests.{le-leb, lt-leb, leb-true}
use lib.Dec.{leb, eqb}
use borrow.Author.Tests.{eqb-true, eqb-false}
use lib.ListN.{length, get_or, take}
use Rattle.form.specs.Answer.{stop}
use Rattle.form.specs.declared.answer.Kind.{Kind}
use Rattle.form.specs.declared.answer.Kind.TheVariants.{Predicate}
use Rattle.reader.specs.declared.lists.Table.{Table}
use Rattle.rules.proofs.WalkLaws.{and_left, and_right}
use Rattle.replace.specs.Internal.Pieces.{filled_words, InRow, Ready, replaced, free_plan, parts_in, Rows, is_ready, down_plan, placed_row, freed_row}
use Rattle.form.specs.declared.answer.Refusal.TheVariants.{OutOfLimits}

-- the test and what it tests
abbrev Inside : List ℕ → List ℕ → ℕ → ℕ → Type 0
Inside s e w i = (get_or s i 0 ≤ get_or e i 0) × (get_or e i 0 ≤ w)

parts-inside : (s e : List ℕ) (w n : ℕ) → parts_in s e w n ≡ true → (i : ℕ) → i < n → Inside s e w i
unfolding parts_in
parts-inside s e w zero q i h = absurd (omega arith)
parts-inside s e w (suc n) q i h =
    let x = leb (get_or s n 0) (get_or e n 0) in
    let y = leb (get_or e n 0) w in
    let r = parts_in s e w n in
    let b = and_right x (y && r) q in
    go (eqb i n) refl (leb-true (get_or s n 0) (get_or e n 0) (and_left x (y && r) q), leb-true (get_or e n 0) w (and_left y r b)) (λ k. parts-inside s e w n (and_right y r b) i k)
  where
    go : (z : Bool) → eqb i n ≡ z → Inside s e w n → (i < n → Inside s e w i) → Inside s e w i
    go true k x f = rw (eqb-true i n k) x
    go false k x f = let ne = eqb-false i n k in f (omega (arith, ne))

inside-parts : (s e : List ℕ) (w n : ℕ) → ((i : ℕ) → i < n → Inside s e w i) → parts_in s e w n ≡ true
unfolding parts_in
inside-parts s e w zero h = refl
inside-parts s e w (suc n) h =
    let x = h n (omega arith) in
    rw (le-leb (get_or s n 0) (get_or e n 0) x.0, le-leb (get_or e n 0) w x.1) (inside-parts s e w n (λ i k. h i (omega arith)))

-- the test, part after part
module _ (s e : List ℕ) (w : ℕ) where
  pub parts-first : parts_in s e w 0 ≡ true
  unfolding parts_in
  parts-first = refl

  pub parts-next : (i : ℕ) → get_or s i 0 ≤ get_or e i 0 → get_or e i 0 ≤ w → parts_in s e w i ≡ true → parts_in s e w (i + 1) ≡ true
  unfolding parts_in
  parts-next i a b q = rw (add-one, le-leb (get_or s i 0) (get_or e i 0) a, le-leb (get_or e i 0) w b) q

  pub parts-no : (n i : ℕ) → i < n → (Inside s e w i → ⊥) → parts_in s e w n ≡ false
  parts-no n i low f = go (parts_in s e w n) refl
    where
      go : (b : Bool) → parts_in s e w n ≡ b → parts_in s e w n ≡ false
      go true q = absurd (f (parts-inside s e w n q i low))
      go false q = q

-- a table whose parts stand in the list row, as the code tests it
module _ (t : Table) (list lm : List ℕ) where
  pub test-many : 32 < t.n → false ≡ is_ready t list lm
  unfolding is_ready
  test-many h = rw (lt-leb t.n 32 h)

  module _ (few : t.n ≤ 32) where
    pub test_short : length lm < length list → false ≡ is_ready t list lm
    unfolding is_ready
    test_short k = rw (le-leb t.n 32 few, lt-leb (length list) (length lm) k)

    pub test_parts : length list ≤ length lm → parts_in t.starts t.ends (length list) t.n ≡ is_ready t list lm
    unfolding is_ready
    test_parts k = rw (le-leb t.n 32 few, le-leb (length list) (length lm) k)

  pub full-ready : is_ready t list lm ≡ true → (t.n ≤ 32) × (length list ≤ length lm) × ((i : ℕ) → i < t.n → Inside t.starts t.ends (length list) i)
  unfolding is_ready
  full-ready q =
      let p = parts_in t.starts t.ends (length list) t.n in
      let r = and_right (leb t.n 32) (leb (length list) (length lm) && p) q in (
        leb-true t.n 32 (and_left (leb t.n 32) (leb (length list) (length lm) && p) q),
        leb-true (length list) (length lm) (and_left (leb (length list) (length lm)) p r),
        parts-inside t.starts t.ends (length list) t.n (and_right (leb (length list) (length lm)) p r),
      )

  ready-full : t.n ≤ 32 → length list ≤ length lm → ((i : ℕ) → i < t.n → Inside t.starts t.ends (length list) i) → is_ready t list lm ≡ true
  unfolding is_ready
  ready-full few long inside = rw (le-leb t.n 32 few, le-leb (length list) (length lm) long) (inside-parts t.starts t.ends (length list) t.n inside)

  module _ (d : ℕ) where
    pub is-ready : is_ready t list lm ≡ true → Rows t → Ready (down_plan t d) list lm
    unfolding InRow
    is-ready q r = let (few, long, inside) = full-ready q in record { tabled = record { few = few; words = r.0; starts = r.1; ends = r.2 }; in_row = inside; marked = long }

    pub ready-is : Ready (down_plan t d) list lm → is_ready t list lm ≡ true
    unfolding InRow
    ready-is r = ready-full r.tabled.few r.marked r.in_row

    module _ (sure : Bool) (head row marks : List ℕ) (room : ℕ) where
      pub placed-not : is_ready t list lm ≡ false → placed_row sure head t d list lm row marks room ≡ stop OutOfLimits
      unfolding placed_row
      placed-not q = rw q

      pub placed-ready : is_ready t list lm ≡ true → (g : ℕ) → g ≡ filled_words (take t.n t.words)
          → replaced sure Predicate head (record { table = t; fills = true; gone = g; down = d }) list lm row marks room ≡ placed_row sure head t d list lm row marks room
      unfolding placed_row
      placed-ready q g e = rw (q, e)

  pub free-ready : is_ready t list lm ≡ true → Rows t → Ready (free_plan t) list lm
  unfolding InRow
  free-ready q r = let (few, long, inside) = full-ready q in record { tabled = record { few = few; words = r.0; starts = r.1; ends = r.2 }; in_row = inside; marked = long }

  module _ (sure : Bool) (kind : Kind) (row marks : List ℕ) (room : ℕ) where
    pub freed-not : is_ready t list lm ≡ false → freed_row sure kind t list lm row marks room ≡ stop OutOfLimits
    unfolding freed_row
    freed-not q = rw q

    pub freed-ready : is_ready t list lm ≡ true → replaced sure kind [] (free_plan t) list lm row marks room ≡ freed_row sure kind t list lm row marks room
    unfolding freed_row
    freed-ready q = rw q

    pub ready-freed : Ready (free_plan t) list lm → freed_row sure kind t list lm row marks room ≡ replaced sure kind [] (free_plan t) list lm row marks room
    unfolding InRow
    ready-freed r = sym (freed-ready (ready-full r.tabled.few r.marked r.in_row))

-- the plan as the code makes it
pub gone-ready : (t : Table) (d g : ℕ) (list lm : List ℕ) → g ≡ filled_words (take t.n t.words) → Ready (down_plan t d) list lm → Ready (record { table = t; fills = true; gone = g; down = d }) list lm
gone-ready t d g list lm e h = rw e h
