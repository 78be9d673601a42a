-- Where slots and cells stand in the row of open declarations, and the outermost declaration of a name. Assumes nothing.
use mathlib.Core.Path.{◌≡◌, refl, ap, ◌∙◌}
use mathlib.Core.Bool.{Bool, true, false}
use mathlib.Core.List.{List}
use Prim.Native.Nat.{ℕ, zero, suc, ◌+◌, ◌-◌, ◌*◌, ◌%◌, ◌≤◌, ◌<◌}
use native.Mathlib.Nat.{mod-lt}
use native.Mathlib.Omega.{arith}
use borrow.Author.Tests.{ltb-true, ltb-false, lt-ltb, le-ltb, eqb-true}
use lib.Dec.{ltb, eqb}
use lib.ListN.{length, get_or}
use Rattle.tree.specs.Form.{pick}
use Rattle.form.proofs.DecodeLaws.{clash}
use Rattle.named.specs.Internal.Scope.{slots, slot_of, Sized, scope_of, or_else, first_in, cell_at, cell_in}

-- the three sizes of rows: how many slots there are, and where that of a name stands
module _ (n : ℕ) where
  module _ (l : n < 2048) where
    few-slots : slots n ≡ 256
    unfolding slots
    few-slots = rw (lt-ltb n 2048 l)

    pub slot-few : (m : ℕ) → 256 ≤ n → (n - 256 + m % 251 ≡ slot_of n m) × (n - 256 + m % 251 < n)
    unfolding slot_of
    slot-few m h = let z : 0 < 251 = omega arith in let r = mod-lt m z in (rw (lt-ltb n 2048 l), omega arith)

  module _ (l : 2048 ≤ n) (h : n < 8192) where
    more-slots : slots n ≡ 2048
    unfolding slots
    more-slots = rw (le-ltb n 2048 l, lt-ltb n 8192 h)

    pub slot-more : (m : ℕ) → (n - 2048 + m % 2039 ≡ slot_of n m) × (n - 2048 + m % 2039 < n)
    unfolding slot_of
    slot-more m = let z : 0 < 2039 = omega arith in let r = mod-lt m z in (rw (le-ltb n 2048 l, lt-ltb n 8192 h), omega arith)

  module _ (l : 8192 ≤ n) where
    many-slots : slots n ≡ 4096
    unfolding slots
    many-slots = let k : 2048 ≤ n = omega arith in rw (le-ltb n 2048 k, le-ltb n 8192 l)

    pub slot-many : (m : ℕ) → (n - 4096 + m % 4093 ≡ slot_of n m) × (n - 4096 + m % 4093 < n)
    unfolding slot_of
    slot-many m =
        let z : 0 < 4093 = omega arith in
        let r = mod-lt m z in
        let k : 2048 ≤ n = omega arith in
        (rw (le-ltb n 2048 k, le-ltb n 8192 l), omega arith)

-- a slot stands in the last words of the row
pub slot-in : (n m : ℕ) → 256 ≤ n → (slot_of n m < n) × (n ≤ slot_of n m + slots n)
slot-in n m h = go (ltb n 2048) refl (ltb n 8192) refl
  where
    go : (b : Bool) → ltb n 2048 ≡ b → (c : Bool) → ltb n 8192 ≡ c → (slot_of n m < n) × (n ≤ slot_of n m + slots n)
    go true e c f = let l = ltb-true n 2048 e in let k = few-slots n l in let (q, r) = slot-few n l m h in (omega arith, omega arith)
    go false e true f = let l = ltb-false n 2048 e in let j = ltb-true n 8192 f in let k = more-slots n l j in let (q, r) = slot-more n l j m in (omega arith, omega arith)
    go false e false f = let l = ltb-false n 8192 f in let k = many-slots n l in let (q, r) = slot-many n l m in (omega arith, omega arith)

pub sized-at : (u v n n' : ℕ) → n ≡ n' → u ≤ v → Sized v n' → Sized u n
sized-at u v n n' e h r = let k = r.room in rw e (record { some = r.some; most = r.most; room = omega arith })

pub sized-few : (m n : ℕ) → 4 * m + 256 ≤ n → n < 2048 → Sized m n
sized-few m n h l = record { some = omega arith; most = omega arith; room = rw (few-slots n l) h }

pub sized-more : (m n : ℕ) → 4 * m + 2048 ≤ n → n < 8192 → Sized m n
sized-more m n h l = let k : 2048 ≤ n = omega arith in record { some = omega arith; most = omega arith; room = rw (more-slots n k l) h }

pub sized-many : (m n : ℕ) → 4 * m + 4096 ≤ n → 8192 ≤ n → n ≤ 65536 → Sized m n
sized-many m n h k l = record { some = omega arith; most = l; room = rw (many-slots n k) h }

-- the names that are open are those of the levels
pub scope-same : (u : ℕ) (a b : List ℕ) → ((l : ℕ) → l < u → get_or a (4 * l) 0 ≡ get_or b (4 * l) 0) → scope_of a u ≡ scope_of b u
unfolding scope_of
scope-same zero a b e = refl
scope-same (suc u) a b e = rw (e u (omega arith), scope-same u a b (λ l h. e l (omega arith)))

pub scope-length : (sc : List ℕ) (u : ℕ) → length (scope_of sc u) ≡ u
unfolding scope_of
scope-length sc zero = refl
scope-length sc (suc u) = ap suc (scope-length sc u)

-- the same names are open below u where they are the same below u + n
pub scope-less : (n u : ℕ) (a b : List ℕ) → scope_of a (u + n) ≡ scope_of b (u + n) → scope_of a u ≡ scope_of b u
unfolding scope_of
scope-less zero u a b e = let z : u + 0 ≡ u = omega arith in rw z at e
scope-less (suc n) u a b e =
    let z : u + suc n ≡ suc (u + n) = omega arith in
    let k : scope_of a (u + n) ≡ scope_of b (u + n) = cc (rw z at e) in
    scope-less n u a b k

-- a name's outermost declaration: it bears the name, and no declaration outside it does
pub record First (sc : List ℕ) (u m l : ℕ) : Type 0 where
  pub inside : l < u
  pub bears : get_or sc (4 * l) 0 ≡ m
  pub outside : first_in (scope_of sc l) m ≡ 0

pub first-is : (sc : List ℕ) (u m l : ℕ) → first_in (scope_of sc u) m ≡ suc l → First sc u m l
unfolding scope_of first_in
first-is sc zero m l e = absurd (clash cc)
first-is sc (suc u) m l e = go (first_in (scope_of sc u) m) refl (eqb (get_or sc (4 * u) 0) m) refl e (λ f. first-is sc u m l f)
  where
    go : (k : ℕ) → first_in (scope_of sc u) m ≡ k → (b : Bool) → eqb (get_or sc (4 * u) 0) m ≡ b → or_else k (pick b (suc (length (scope_of sc u))) 0) ≡ suc l
        → (first_in (scope_of sc u) m ≡ suc l → First sc u m l) → First sc (suc u) m l
    go zero f true g h outer =
        let z = scope-length sc u in
        let i : l ≡ u = omega arith in
        rw i (record { inside = omega arith; bears = eqb-true (get_or sc (4 * u) 0) m g; outside = f })
    go zero f false g h outer = absurd (clash cc)
    go (suc k) f b g h outer =
        let r = outer (f ∙ h) in
        let i = r.inside in
        record { inside = omega arith; bears = r.bears; outside = r.outside }

-- a cell is in the row, and is no word of a level but the third
module _ (sc : List ℕ) (u m : ℕ) where
  pub cell-low : (v : ℕ) → u ≤ v → Sized v (length sc) → cell_in sc u m < length sc
  unfolding cell_in
  cell-low v h room = go (first_in (scope_of sc u) m) refl
    where
      go : (k : ℕ) → first_in (scope_of sc u) m ≡ k → cell_at (slot_of (length sc) m) k < length sc
      go zero e = (slot-in (length sc) m room.some).0
      go (suc l) e = let i = (first-is sc u m l e).inside in let r = room.room in omega arith

  pub cell-not : (w : ℕ) → 256 ≤ length sc → w + slots (length sc) < length sc → ((l : ℕ) → w ≡ 4 * l + 2 → ⊥) → w ≡ cell_in sc u m → ⊥
  unfolding cell_in
  cell-not w some low ne e = go (first_in (scope_of sc u) m) e
    where
      go : (k : ℕ) → w ≡ cell_at (slot_of (length sc) m) k → ⊥
      go zero q = let s = (slot-in (length sc) m some).1 in omega arith
      go (suc l) q = ne l q

pub cell-inside : (sc : List ℕ) (u v m c : ℕ) → c ≡ cell_in sc u m → u ≤ v → Sized v (length sc) → c < length sc
cell-inside sc u v m c e h r = rw e (cell-low sc u m v h r)

-- the cell of a name is the same in rows of one length in which the same names are open
pub cell_same : (a b : List ℕ) (u m : ℕ) → length a ≡ length b → scope_of a u ≡ scope_of b u → cell_in a u m ≡ cell_in b u m
unfolding cell_in
cell_same a b u m l e = rw (l, e)
