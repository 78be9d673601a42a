-- The row of open declarations: opened and closed. Assumes nothing.
use mathlib.Core.Path.{◌≡◌, refl, ap, sym, ◌∙◌}
use mathlib.Core.List.{List, [], ◌∷◌}
use Prim.Native.Nat.{ℕ, zero, suc, ◌+◌, ◌-◌, ◌*◌, ◌≤◌, ◌<◌}
use native.Mathlib.Numerals.{add-one}
use native.Mathlib.Omega.{arith}
use lib.ListN.{length, get_or, set, drop, length-set}
use lib.Seq.{get_or-set_same, get_or-set_other, set-get_or, set-set}
use Rattle.form.proofs.DecodeLaws.{clash}
use Rattle.form.proofs.HeadLaws.{gone, here}
use Rattle.rules.specs.Named.{opened}
use Rattle.named.specs.Internal.Scope.{slots, slot_of, Sized, scope_of, first_in, cell_at, cell_in, opens, open_all, pop, closes, Held}
use Rattle.named.proofs.SlotLaws.{slot-in, sized-at, scope-same, first-is, cell-low, cell-not, cell_same}

-- rows that have the same words where it matters: below the level u, and in the slots
record Agree (u : ℕ) (a b : List ℕ) : Type 0 where
  pub long : length a ≡ length b
  pub low : (i : ℕ) → i < 4 * u → get_or a i 0 ≡ get_or b i 0
  pub high : (i : ℕ) → length a ≤ i + slots (length a) → get_or a i 0 ≡ get_or b i 0

set-agree : (a b : List ℕ) (s i v : ℕ) → length a ≡ length b → get_or a i 0 ≡ get_or b i 0 → get_or (set a s v) i 0 ≡ get_or (set b s v) i 0
set-agree [] [] s i v l e = refl
set-agree [] (y ∷ b) s i v l e = absurd (clash cc)
set-agree (x ∷ a) [] s i v l e = absurd (clash cc)
set-agree (x ∷ a) (y ∷ b) zero zero v l e = refl
set-agree (x ∷ a) (y ∷ b) zero (suc i) v l e = e
set-agree (x ∷ a) (y ∷ b) (suc s) zero v l e = e
set-agree (x ∷ a) (y ∷ b) (suc s) (suc i) v l e = set-agree a b s i v (omega arith) e

pub pop-length : (u : ℕ) (a : List ℕ) → length (pop u a) ≡ length a
unfolding pop
pop-length u a = length-set a _ _

pop-agree : (u : ℕ) (a b : List ℕ) → Agree (suc u) a b → Agree u (pop u a) (pop u b)
unfolding pop
pop-agree u a b g =
    let c = g.low (4 * u + 3) (omega arith) in
    let v = g.low (4 * u + 1) (omega arith) in
    let same : (i : ℕ) → get_or a i 0 ≡ get_or b i 0 → get_or (pop u a) i 0 ≡ get_or (pop u b) i 0 =
    λ i e. rw (← c, ← v) (set-agree a b (get_or a (4 * u + 3) 0) i (get_or a (4 * u + 1) 0) g.long e) in
    record {
      long = pop-length u a ∙ (g.long ∙ sym (pop-length u b));
      low = λ i h. same i (g.low i (omega arith));
      high = λ i h. same i (g.high i (rw (pop-length u a) at h));
    }

scope-agree : (u v : ℕ) (a b : List ℕ) → u ≤ v → Agree v a b → scope_of a u ≡ scope_of b u
scope-agree u v a b h g = scope-same u a b (λ l k. g.low (4 * l) (omega arith))

cell_agree : (u v : ℕ) (a b : List ℕ) (m : ℕ) → u ≤ v → 256 ≤ length a → Agree v a b → get_or a (cell_in a u m) 0 ≡ get_or b (cell_in a u m) 0
unfolding cell_in
cell_agree u v a b m h some g = go (first_in (scope_of a u) m) refl
  where
    go : (k : ℕ) → first_in (scope_of a u) m ≡ k → get_or a (cell_at (slot_of (length a) m) k) 0 ≡ get_or b (cell_at (slot_of (length a) m) k) 0
    go zero e = g.high (slot_of (length a) m) (slot-in (length a) m some).1
    go (suc l) e = let i = (first-is a u m l e).inside in g.low (4 * l + 2) (omega arith)

held-agree : (u : ℕ) (a b : List ℕ) → 256 ≤ length a → Agree u a b → Held a u → Held b u
unfolding Held
held-agree zero a b h g k = λ m. sym (rw (← g.long) (g.high (slot_of (length a) m) (slot-in (length a) m h).1)) ∙ rw g.long at (k m)
held-agree (suc u) a b h g k =
    let i = k.0 in
    let n = g.low (4 * u) (omega arith) in
    let c = g.low (4 * u + 3) (omega arith) in
    let s = cell_same a b u (get_or a (4 * u) 0) g.long (scope-agree u (suc u) a b (omega arith) g) in
    let e : get_or b (get_or a (4 * u + 3) 0) 0 ≡ suc u =
    rw i.cell (sym (cell_agree u (suc u) a b (get_or a (4 * u) 0) (omega arith) h g) ∙ rw i.cell at i.held) in (
      record { cell = rw (← c, ← n) (i.cell ∙ s); held = rw (← c) e; own = sym (g.low (4 * u + 2) (omega arith)) ∙ i.own },
      held-agree u (pop u a) (pop u b) (rw (pop-length u a) h) (pop-agree u a b g) k.1,
    )

-- one declaration more: its four words, and its level in its cell
module _ (m u : ℕ) (sc : List ℕ) (sized : Sized (suc u) (length sc)) where
  abbrev cell : ℕ
  cell = cell_in sc u m

  abbrev before : ℕ
  before = get_or sc cell 0

  abbrev first : List ℕ
  first = set sc (4 * u) m

  abbrev second : List ℕ
  second = set first (4 * u + 1) before

  abbrev third : List ℕ
  third = set second (4 * u + 2) (suc u)

  abbrev fourth : List ℕ
  fourth = set third (4 * u + 3) cell

  second-length : length second ≡ length sc
  second-length = length-set first (4 * u + 1) before ∙ length-set sc (4 * u) m

  third-length : length third ≡ length sc
  third-length = length-set second (4 * u + 2) (suc u) ∙ second-length

  fourth-length : length fourth ≡ length sc
  fourth-length = length-set third (4 * u + 3) cell ∙ third-length

  pub opens-length : length (opens m u sc) ≡ length sc
  unfolding opens
  opens-length = length-set fourth cell (suc u) ∙ fourth-length

  level-room : 4 * u + 3 < length sc
  level-room = let s = slot-in (length sc) m sized.some in let r = sized.room in omega arith

  cell-fits : cell < length sc
  cell-fits = cell-low sc u m (suc u) (omega arith) sized

  -- the cell is none of these four words
  cell_apart : (i : ℕ) → 4 * u ≤ i → i < 4 * u + 4 → i ≡ cell → ⊥
  unfolding cell_in
  cell_apart i h k e = go (first_in (scope_of sc u) m) refl e
    where
      go : (f : ℕ) → first_in (scope_of sc u) m ≡ f → i ≡ cell_at (slot_of (length sc) m) f → ⊥
      go zero q z = let s = (slot-in (length sc) m sized.some).1 in let r = sized.room in omega arith
      go (suc l) q z = let j = (first-is sc u m l q).inside in omega arith

  fourth-else : (i : ℕ) → (4 * u ≤ i → i < 4 * u + 4 → ⊥) → get_or fourth i 0 ≡ get_or sc i 0
  fourth-else i h =
      let a : i ≡ 4 * u → ⊥ = λ e. h (omega arith) (omega arith) in
      let b : i ≡ 4 * u + 1 → ⊥ = λ e. h (omega arith) (omega arith) in
      let c : i ≡ 4 * u + 2 → ⊥ = λ e. h (omega arith) (omega arith) in
      let d : i ≡ 4 * u + 3 → ⊥ = λ e. h (omega arith) (omega arith) in
      get_or-set_other third (4 * u + 3) i cell 0 d
      ∙ (get_or-set_other second (4 * u + 2) i (suc u) 0 c
      ∙ (get_or-set_other first (4 * u + 1) i before 0 b ∙ get_or-set_other sc (4 * u) i m 0 a))

  opens-own : (i : ℕ) → 4 * u ≤ i → i < 4 * u + 4 → get_or (opens m u sc) i 0 ≡ get_or fourth i 0
  unfolding opens
  opens-own i h k = get_or-set_other fourth cell i (suc u) 0 (cell_apart i h k)

  pub opens-name : get_or (opens m u sc) (4 * u) 0 ≡ m
  opens-name =
      let r = level-room in
      let a : 4 * u ≡ 4 * u + 1 → ⊥ = λ e. omega arith in
      let b : 4 * u ≡ 4 * u + 2 → ⊥ = λ e. omega arith in
      let c : 4 * u ≡ 4 * u + 3 → ⊥ = λ e. omega arith in
      opens-own (4 * u) (omega arith) (omega arith)
      ∙ (get_or-set_other third (4 * u + 3) (4 * u) cell 0 c
      ∙ (get_or-set_other second (4 * u + 2) (4 * u) (suc u) 0 b
      ∙ (get_or-set_other first (4 * u + 1) (4 * u) before 0 a ∙ get_or-set_same sc (4 * u) m 0 (omega arith))))

  opens_before : get_or (opens m u sc) (4 * u + 1) 0 ≡ before
  opens_before =
      let r = level-room in
      let l = length-set sc (4 * u) m in
      let b : 4 * u + 1 ≡ 4 * u + 2 → ⊥ = λ e. omega arith in
      let c : 4 * u + 1 ≡ 4 * u + 3 → ⊥ = λ e. omega arith in
      opens-own (4 * u + 1) (omega arith) (omega arith)
      ∙ (get_or-set_other third (4 * u + 3) (4 * u + 1) cell 0 c
      ∙ (get_or-set_other second (4 * u + 2) (4 * u + 1) (suc u) 0 b ∙ get_or-set_same first (4 * u + 1) before 0 (omega arith)))

  opens-innermost : get_or (opens m u sc) (4 * u + 2) 0 ≡ suc u
  opens-innermost =
      let r = level-room in
      let l = second-length in
      let c : 4 * u + 2 ≡ 4 * u + 3 → ⊥ = λ e. omega arith in
      opens-own (4 * u + 2) (omega arith) (omega arith)
      ∙ (get_or-set_other third (4 * u + 3) (4 * u + 2) cell 0 c ∙ get_or-set_same second (4 * u + 2) (suc u) 0 (omega arith))

  opens_cell : get_or (opens m u sc) (4 * u + 3) 0 ≡ cell
  opens_cell =
      let r = level-room in
      let l = third-length in
      opens-own (4 * u + 3) (omega arith) (omega arith) ∙ get_or-set_same third (4 * u + 3) cell 0 (omega arith)

  pub opens-below : (l : ℕ) → l < u → get_or (opens m u sc) (4 * l) 0 ≡ get_or sc (4 * l) 0
  unfolding opens
  opens-below l h =
      let r = sized.room in
      let a : 4 * u ≤ 4 * l → 4 * l < 4 * u + 4 → ⊥ = λ p q. omega arith in
      let b : (k : ℕ) → 4 * l ≡ 4 * k + 2 → ⊥ = λ k e. omega arith in
      get_or-set_other fourth cell (4 * l) (suc u) 0 (cell-not sc u m (4 * l) sized.some (omega arith) b) ∙ fourth-else (4 * l) a

  opens-names : scope_of (opens m u sc) u ≡ scope_of sc u
  opens-names = scope-same u (opens m u sc) sc opens-below

  pub open-scope : scope_of (opens m u sc) (suc u) ≡ m ∷ scope_of sc u
  unfolding scope_of
  open-scope = rw (opens-name, opens-names)

  fourth-cell : get_or fourth cell 0 ≡ before
  fourth-cell = fourth-else cell (λ h k. cell_apart cell h k refl)

  back : set (opens m u sc) cell before ≡ fourth
  unfolding opens
  back = set-set fourth cell (suc u) before ∙ (ap (λ v. set fourth cell v) (sym fourth-cell) ∙ set-get_or fourth cell 0)

  pop-opens : pop u (opens m u sc) ≡ fourth
  unfolding pop
  pop-opens = rw (opens_cell, opens_before) back

  in_cell : get_or (opens m u sc) cell 0 ≡ suc u
  unfolding opens
  in_cell = get_or-set_same fourth cell (suc u) 0 (let l = fourth-length in let h = cell-fits in omega arith)

  pub open-held : Held sc u → Held (opens m u sc) (suc u)
  unfolding Held
  open-held h =
      let same = cell_same (opens m u sc) sc u m opens-length opens-names in
      let far : Agree u sc fourth =
      record {
        long = sym fourth-length;
        low = λ i k. sym (fourth-else i (λ p q. omega arith));
        high = λ i k. let r = sized.room in sym (fourth-else i (λ p q. omega arith));
      } in (
        record { cell = rw (opens_cell, opens-name) (sym same); held = rw opens_cell in_cell; own = opens-innermost },
        rw pop-opens (held-agree u sc fourth sized.some far h),
      )

-- all declarations of a quantifier
module _ (u : ℕ) (sc : List ℕ) where
  first-sized : (k : ℕ) → Sized (u + suc k) (length sc) → Sized (suc u) (length sc)
  first-sized k r = sized-at (suc u) (u + suc k) (length sc) (length sc) refl (omega arith) r

  next-sized : (m k : ℕ) → Sized (u + suc k) (length sc) → Sized (suc u + k) (length (opens m u sc))
  next-sized m k r = sized-at (suc u + k) (u + suc k) (length (opens m u sc)) (length sc) (opens-length m u sc (first-sized k r)) (omega arith) r

pub all-length : (ms : List ℕ) (u : ℕ) (sc : List ℕ) → Sized (u + length ms) (length sc) → length (open_all ms u sc) ≡ length sc
unfolding open_all
all-length [] u sc r = refl
all-length (m ∷ ms) u sc r = all-length ms (suc u) (opens m u sc) (next-sized u sc m (length ms) r) ∙ opens-length m u sc (first-sized u sc (length ms) r)

pub all_held : (ms : List ℕ) (u : ℕ) (sc : List ℕ) → Sized (u + length ms) (length sc) → Held sc u → Held (open_all ms u sc) (u + length ms)
unfolding open_all
all_held [] u sc r h = let e : u + 0 ≡ u = omega arith in rw e h
all_held (m ∷ ms) u sc r h =
    let e : u + suc (length ms) ≡ suc u + length ms = omega arith in
    rw e (all_held ms (suc u) (opens m u sc) (next-sized u sc m (length ms) r) (open-held m u sc (first-sized u sc (length ms) r) h))

pub all-scope : (ms : List ℕ) (u : ℕ) (sc : List ℕ) → Sized (u + length ms) (length sc) → scope_of (open_all ms u sc) (u + length ms) ≡ opened ms (scope_of sc u)
unfolding open_all
all-scope [] u sc r = let e : u + 0 ≡ u = omega arith in rw e
all-scope (m ∷ ms) u sc r =
    let e : u + suc (length ms) ≡ suc u + length ms = omega arith in
    rw (e, ← open-scope m u sc (first-sized u sc (length ms) r)) (all-scope ms (suc u) (opens m u sc) (next-sized u sc m (length ms) r))

-- the names below a level stay when the row is opened from it on
all-below : (ms : List ℕ) (u : ℕ) (sc : List ℕ) → Sized (u + length ms) (length sc) → (l : ℕ) → l < u → get_or (open_all ms u sc) (4 * l) 0 ≡ get_or sc (4 * l) 0
unfolding open_all
all-below [] u sc r l h = refl
all-below (m ∷ ms) u sc r l h =
    all-below ms (suc u) (opens m u sc) (next-sized u sc m (length ms) r) l (omega arith) ∙ opens-below m u sc (first-sized u sc (length ms) r) l h

pub all-outer : (ms : List ℕ) (u : ℕ) (sc : List ℕ) → Sized (u + length ms) (length sc) → scope_of (open_all ms u sc) u ≡ scope_of sc u
all-outer ms u sc r = scope-same u (open_all ms u sc) sc (all-below ms u sc r)

-- closed again: only the cell of the innermost declaration changes
module _ (u v : ℕ) (sc : List ℕ) (sized : Sized v (length sc)) (inside : u < v) (held : Held sc (suc u)) where
  pub pop-else : (w : ℕ) → w < 4 * v → ((l : ℕ) → w ≡ 4 * l + 2 → ⊥) → get_or (pop u sc) w 0 ≡ get_or sc w 0
  unfolding pop Held
  pop-else w h ne =
      let r = sized.room in
      let c = held.0.cell in
      let apart : w ≡ get_or sc (4 * u + 3) 0 → ⊥ = rw c (cell-not sc u (get_or sc (4 * u) 0) w sized.some (omega arith) ne) in
      get_or-set_other sc (get_or sc (4 * u + 3) 0) w (get_or sc (4 * u + 1) 0) 0 apart

  pub pop-names : (k : ℕ) → k ≤ v → scope_of (pop u sc) k ≡ scope_of sc k
  pop-names k h = scope-same k (pop u sc) sc (λ l q. let ne : (r : ℕ) → 4 * l ≡ 4 * r + 2 → ⊥ = λ r e. omega arith in pop-else (4 * l) (omega arith) ne)

  pub pop-cell : get_or sc (4 * u + 3) 0 < length sc
  unfolding Held
  pop-cell = rw held.0.cell (cell-low sc u (get_or sc (4 * u) 0) v (omega arith) sized)

last-held : (u n : ℕ) (sc : List ℕ) → Held sc (u + suc n) → Held sc (suc (u + n))
last-held u n sc h = let e : u + suc n ≡ suc (u + n) = omega arith in rw e at h

pub close-held : (u n : ℕ) (sc : List ℕ) → Held sc (u + n) → Held (closes u n sc) u
unfolding closes Held
close-held u zero sc h = let e : u + 0 ≡ u = omega arith in rw e at h
close-held u (suc n) sc h = close-held u n (pop (u + n) sc) (last-held u n sc h).1

pub close-scope : (u n : ℕ) (sc : List ℕ) → Sized (u + n) (length sc) → Held sc (u + n) → scope_of (closes u n sc) u ≡ scope_of sc u
unfolding closes Held
close-scope u zero sc r h = refl
close-scope u (suc n) sc r h =
    let k = last-held u n sc h in
    let l = pop-length (u + n) sc in
    close-scope u n (pop (u + n) sc) (sized-at (u + n) (u + suc n) (length (pop (u + n) sc)) (length sc) l (omega arith) r) k.1
    ∙ pop-names (u + n) (u + suc n) sc r (omega arith) k u (omega arith)

-- how the loops go on
pub opens-is : (m u c : ℕ) (sc : List ℕ) → c ≡ cell_in sc u m
    → set (set (set (set (set sc (4 * u) m) (4 * u + 1) (get_or sc c 0)) (4 * u + 2) (u + 1)) (4 * u + 3) c) c (u + 1) ≡ opens m u sc
unfolding opens
opens-is m u c sc e = rw (add-one u, e)

pub open_more : (declared : List ℕ) (i u : ℕ) (sc sc' : List ℕ) → i < length declared → sc' ≡ opens (get_or declared i 0) u sc → open_all (drop i declared) u sc ≡ open_all (drop (i + 1) declared) (u + 1) sc'
unfolding open_all
open_more declared i u sc sc' h e = rw (here declared i h, e, add-one u)

pub held_next : (m u : ℕ) (sc sc' : List ℕ) → Sized (u + 1) (length sc) → Held sc u → sc' ≡ opens m u sc → Held sc' (u + 1)
held_next m u sc sc' r h e = rw (e, add-one u) (open-held m u sc (rw (add-one u) at r) h)

-- the declaration at the place i of a quantifier under u others
module _ (i u : ℕ) (sc sc' : List ℕ) where
  step : u + (i + 1) ≡ u + i + 1
  step = omega arith

  pub open-next : (declared : List ℕ) → i < length declared → sc' ≡ opens (get_or declared i 0) (u + i) sc → open_all (drop i declared) (u + i) sc ≡ open_all (drop (i + 1) declared) (u + (i + 1)) sc'
  open-next declared h e = rw step (open_more declared i (u + i) sc sc' h e)

  pub held-next : (m : ℕ) → Sized (u + i + 1) (length sc) → Held sc (u + i) → sc' ≡ opens m (u + i) sc → Held sc' (u + (i + 1))
  held-next m r h e = rw step (held_next m (u + i) sc sc' r h e)

pub open_none : (declared : List ℕ) (i u : ℕ) (sc : List ℕ) → length declared ≤ i → open_all (drop i declared) u sc ≡ sc
unfolding open_all
open_none declared i u sc h = rw (gone declared i h)

pub close_more : (u left : ℕ) (sc : List ℕ) → 0 < left
    → closes u left sc ≡ closes u (left - 1) (set sc (get_or sc (4 * (u + (left - 1)) + 3) 0) (get_or sc (4 * (u + (left - 1)) + 1) 0))
unfolding closes pop
close_more u zero sc h = absurd (omega arith)
close_more u (suc left) sc h = let k : suc left - 1 ≡ left = omega arith in rw k

pub close-none : (u left : ℕ) (sc : List ℕ) → left ≤ 0 → closes u left sc ≡ sc
unfolding closes
close-none u zero sc h = refl
close-none u (suc left) sc h = absurd (omega arith)

-- the innermost declaration is held, and after it is closed the others are
pub held-last : (u left : ℕ) (sc : List ℕ) → 0 < left → Held sc (u + left) → Held sc (suc (u + (left - 1)))
held-last u left sc h k = let e : u + left ≡ suc (u + (left - 1)) = omega arith in rw e at k

pub held-closed : (u left : ℕ) (sc : List ℕ) → 0 < left → Held sc (u + left)
    → Held (set sc (get_or sc (4 * (u + (left - 1)) + 3) 0) (get_or sc (4 * (u + (left - 1)) + 1) 0)) (u + (left - 1))
unfolding Held pop
held-closed u left sc h k = (held-last u left sc h k).1
