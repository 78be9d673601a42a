-- Declarations of a name looked up: the outermost through the slots, the innermost through the outermost. Assumes nothing.
use mathlib.Core.Path.{◌≡◌, refl, ap, sym, ◌∙◌}
use mathlib.Core.Bool.{Bool, true, false}
use mathlib.Core.List.{List, [], ◌∷◌}
use Prim.Native.Nat.{ℕ, zero, suc, ◌+◌, ◌-◌, ◌*◌, ◌≤◌, ◌<◌}
use native.Mathlib.Nat.{le_refl}
use native.Mathlib.Omega.{arith}
use borrow.Author.Tests.{eqb-true, eqb-false, eq-eqb, ne_eqb}
use lib.Dec.{eqb}
use lib.ListN.{length, get_or}
use lib.Seq.{get_or-set_same, get_or-set_other}
use Rattle.tree.specs.Form.{free, bound, pick}
use Rattle.form.proofs.DecodeLaws.{clash}
use Rattle.rules.specs.Named.{further, occurrence}
use Rattle.named.specs.Internal.Scope.{slot_of, Sized, scope_of, level_in, or_else, first_in, cell_at, cell_in, pop, Held}
use Rattle.named.proofs.SlotLaws.{slot-in, scope-same, scope-length, first-is, cell_same, sized-at}
use Rattle.named.proofs.ScopeLaws.{pop-length, pop-else, pop-names}

-- an occurrence by the level of its declaration
pub level-none : (ns : List ℕ) (m : ℕ) → level_in ns m ≡ 0 → occurrence ns m ≡ free m
unfolding level_in occurrence
level-none [] m e = refl
level-none (n ∷ ns) m e = go (eqb n m) e (λ k. level-none ns m k)
  where
    go : (b : Bool) → pick b (suc (length ns)) (level_in ns m) ≡ 0 → (level_in ns m ≡ 0 → occurrence ns m ≡ free m) → pick b (bound 0) (further (occurrence ns m)) ≡ free m
    go true e r = absurd (clash cc)
    go false e r = ap further (r e)

pub level-some : (ns : List ℕ) (m l : ℕ) → level_in ns m ≡ suc l → (occurrence ns m ≡ bound (length ns - suc l)) × (suc l ≤ length ns)
unfolding level_in occurrence
level-some [] m l e = absurd (clash cc)
level-some (n ∷ ns) m l e = go (eqb n m) e (λ k. level-some ns m l k)
  where
    go : (b : Bool) → pick b (suc (length ns)) (level_in ns m) ≡ suc l → (level_in ns m ≡ suc l → (occurrence ns m ≡ bound (length ns - suc l)) × (suc l ≤ length ns)) → (pick b (bound 0) (further (occurrence ns m)) ≡ bound (suc (length ns) - suc l)) × (suc l ≤ suc (length ns))
    go true e r =
        let k : length ns ≡ l = omega arith in
        (ap bound (omega arith), omega arith)
    go false e r =
        let (q, h) = r e in
        (ap further q ∙ ap bound (omega arith), omega arith)

-- a name without an outermost declaration has none
pub first-none : (ns : List ℕ) (m : ℕ) → first_in ns m ≡ 0 → level_in ns m ≡ 0
unfolding first_in level_in
first-none [] m e = refl
first-none (n ∷ ns) m e = go (first_in ns m) refl (eqb n m) e (λ f. first-none ns m f)
  where
    go : (k : ℕ) → first_in ns m ≡ k → (b : Bool) → or_else k (pick b (suc (length ns)) 0) ≡ 0 → (first_in ns m ≡ 0 → level_in ns m ≡ 0) → pick b (suc (length ns)) (level_in ns m) ≡ 0
    go zero f true h outer = absurd (clash cc)
    go zero f false h outer = outer f
    go (suc k) f b h outer = absurd (clash cc)

-- the outermost declaration of a name has its innermost level
module _ (k : ℕ) (sc : List ℕ) (m l : ℕ) (sized : Sized (suc k) (length sc)) (held : Held sc (suc k)) (found : first_in (scope_of sc k) m ≡ suc l) where
  abbrev newest : ℕ
  newest = get_or sc (4 * k) 0

  -- a declaration of this name, which is then the innermost
  told-again : newest ≡ m → get_or sc (4 * l + 2) 0 ≡ suc k
  unfolding Held cell_in
  told-again e =
      let c : get_or sc (4 * k + 3) 0 ≡ 4 * l + 2 = held.0.cell ∙ rw (e, found) in
      rw c at held.0.held

  -- one of another name leaves that word as it is
  told-still : (newest ≡ m → ⊥) → get_or (pop k sc) (4 * l + 2) 0 ≡ get_or sc (4 * l + 2) 0
  unfolding pop Held cell_in
  told-still ne =
      let f = first-is sc k m l found in
      let apart : 4 * l + 2 ≡ get_or sc (4 * k + 3) 0 → ⊥ = rw held.0.cell (λ e. go (first_in (scope_of sc k) newest) refl e) in
      get_or-set_other sc (get_or sc (4 * k + 3) 0) (4 * l + 2) (get_or sc (4 * k + 1) 0) 0 apart
    where
      go : (j : ℕ) → first_in (scope_of sc k) newest ≡ j → 4 * l + 2 ≡ cell_at (slot_of (length sc) newest) j → ⊥
      go zero q e =
          let s = (slot-in (length sc) newest sized.some).1 in
          let r = sized.room in
          let i = (first-is sc k m l found).inside in
          omega arith
      go (suc j) q e =
          let i : l ≡ j = omega arith in
          let a = (first-is sc k m l found).bears in
          let b = (first-is sc k newest j q).bears in
          ne (sym b ∙ (ap (λ z. get_or sc (4 * z) 0) (sym i) ∙ a))

pub first-told : (u : ℕ) (sc : List ℕ) (m l : ℕ) → Sized u (length sc) → Held sc u → first_in (scope_of sc u) m ≡ suc l → get_or sc (4 * l + 2) 0 ≡ level_in (scope_of sc u) m
unfolding scope_of first_in level_in Held
first-told zero sc m l r h e = absurd (clash cc)
first-told (suc k) sc m l r h e = go (first_in (scope_of sc k) m) refl (eqb (get_or sc (4 * k) 0) m) refl e (λ s n. first-told k (pop k sc) m l s h.1 n)
  where
    go : (j : ℕ) → first_in (scope_of sc k) m ≡ j → (b : Bool) → eqb (get_or sc (4 * k) 0) m ≡ b → or_else j (pick b (suc (length (scope_of sc k))) 0) ≡ suc l
        → (Sized k (length (pop k sc)) → first_in (scope_of (pop k sc) k) m ≡ suc l → get_or (pop k sc) (4 * l + 2) 0 ≡ level_in (scope_of (pop k sc) k) m)
        → get_or sc (4 * l + 2) 0 ≡ pick b (suc (length (scope_of sc k))) (level_in (scope_of sc k) m)
    go zero f true g q outer =
        let z = scope-length sc k in
        let i : l ≡ k = omega arith in
        rw (i, z) h.0.own
    go zero f false g q outer = absurd (clash cc)
    go (suc j) f true g q outer = told-again k sc m l r h (f ∙ q) (eqb-true (get_or sc (4 * k) 0) m g) ∙ ap suc (sym (scope-length sc k))
    go (suc j) f false g q outer =
        let s = pop-names k (suc k) sc r (omega arith) h k (omega arith) in
        let o = outer (sized-at k (suc k) (length (pop k sc)) (length sc) (pop-length k sc) (omega arith) r) (rw s (f ∙ q)) in
        sym (told-still k sc m l r h (f ∙ q) (eqb-false (get_or sc (4 * k) 0) m g)) ∙ rw s at o

-- the row a, with declarations from level k on closed, has the names, cells and links below k of the row sc
pub record Below (sc : List ℕ) (k : ℕ) (a : List ℕ) : Type 0 where
  pub long : length a ≡ length sc
  pub words : (w : ℕ) → w < 4 * k → ((l : ℕ) → w ≡ 4 * l + 2 → ⊥) → get_or a w 0 ≡ get_or sc w 0
  pub held : Held a k

-- what the slot of m says of the levels below k: one more than the innermost of them that stands in it, or 0
pub record Says (sc : List ℕ) (m k l : ℕ) : Type 0 where
  pub row : List ℕ
  pub below : Below sc k row
  pub is : get_or row (slot_of (length sc) m) 0 ≡ l

-- that level is the outermost of its name; of m it and those outside it say as much as all below k; and its link says the same of those outside it
pub record Found (sc : List ℕ) (m k l : ℕ) : Type 0 where
  pub inside : suc l ≤ k
  pub alone : first_in (scope_of sc l) (get_or sc (4 * l) 0) ≡ 0
  pub level : first_in (scope_of sc k) m ≡ first_in (scope_of sc (suc l)) m
  pub next : Says sc m l (get_or sc (4 * l + 1) 0)

-- what is sought among all of u levels is among those below k, of which the slot says l
abbrev pub Seeking : List ℕ → ℕ → ℕ → ℕ → Type 0
Seeking sc m u l = (k : ℕ) × (k ≤ u) × Says sc m k l × (first_in (scope_of sc u) m ≡ first_in (scope_of sc k) m)

module _ (sc : List ℕ) (m u : ℕ) (sized : Sized u (length sc)) where
  abbrev slot : ℕ
  slot = slot_of (length sc) m

  -- the name and the cell of a level
  abbrev name : ℕ → ℕ
  name k = get_or sc (4 * k) 0

  abbrev cell : ℕ → ℕ
  cell k = cell_in sc k (name k)

  row-name : (k : ℕ) (a : List ℕ) → Below sc (suc k) a → get_or a (4 * k) 0 ≡ name k
  row-name k a b = let ne : (l : ℕ) → 4 * k ≡ 4 * l + 2 → ⊥ = λ l e. omega arith in b.words (4 * k) (omega arith) ne

  row-scope : (k : ℕ) (a : List ℕ) → Below sc (suc k) a → scope_of a k ≡ scope_of sc k
  row-scope k a b = scope-same k a sc (λ l h. let ne : (r : ℕ) → 4 * l ≡ 4 * r + 2 → ⊥ = λ r e. omega arith in b.words (4 * l) (omega arith) ne)

  row-cell : (k : ℕ) (a : List ℕ) → Below sc (suc k) a → get_or a (4 * k + 3) 0 ≡ cell k
  unfolding Held
  row-cell k a b = b.held.0.cell ∙ (ap (λ z. cell_in a k z) (row-name k a b) ∙ cell_same a sc k (name k) b.long (row-scope k a b))

  row-link : (k : ℕ) (a : List ℕ) → Below sc (suc k) a → get_or a (4 * k + 1) 0 ≡ get_or sc (4 * k + 1) 0
  row-link k a b = let ne : (l : ℕ) → 4 * k + 1 ≡ 4 * l + 2 → ⊥ = λ l e. omega arith in b.words (4 * k + 1) (omega arith) ne

  below-pop : (k : ℕ) (a : List ℕ) → suc k ≤ u → Below sc (suc k) a → Below sc k (pop k a)
  unfolding Held
  below-pop k a h b =
      let r = sized-at u u (length a) (length sc) b.long (le_refl u) sized in
      record {
        long = pop-length k a ∙ b.long;
        words = λ w i ne. pop-else k u a r h b.held w (omega arith) ne ∙ b.words w (omega arith) ne;
        held = b.held.1;
      }

  -- the slot of m once the declaration at level k is closed: as it was, where the cell is another
  other-cell : (k : ℕ) (a : List ℕ) → Below sc (suc k) a → (cell k ≡ slot → ⊥) → get_or (pop k a) slot 0 ≡ get_or a slot 0
  unfolding pop
  other-cell k a b ne =
      let apart : slot ≡ get_or a (4 * k + 3) 0 → ⊥ = rw (row-cell k a b) (λ e. ne (sym e)) in
      get_or-set_other a (get_or a (4 * k + 3) 0) slot (get_or a (4 * k + 1) 0) 0 apart

  this-cell : (k : ℕ) (a : List ℕ) → Below sc (suc k) a → cell k ≡ slot → (get_or a slot 0 ≡ suc k) × (get_or (pop k a) slot 0 ≡ get_or sc (4 * k + 1) 0)
  unfolding Held pop
  this-cell k a b e =
      let c : get_or a (4 * k + 3) 0 ≡ slot = row-cell k a b ∙ e in
      let i = (slot-in (length sc) m sized.some).0 in
      let l = b.long in
      (rw c at b.held.0.held, rw (c, row-link k a b) (get_or-set_same a slot (get_or sc (4 * k + 1) 0) 0 (omega arith)))

  -- a declaration in its slot is the outermost of its name
  slot-alone : (k : ℕ) → suc k ≤ u → cell k ≡ slot → first_in (scope_of sc k) (name k) ≡ 0
  unfolding cell_in
  slot-alone k h e = go (first_in (scope_of sc k) (name k)) refl e
    where
      go : (j : ℕ) → first_in (scope_of sc k) (name k) ≡ j → cell_at (slot_of (length sc) (name k)) j ≡ slot → j ≡ 0
      go zero q z = refl
      go (suc j) q z =
          let s = (slot-in (length sc) m sized.some).1 in
          let r = sized.room in
          let i = (first-is sc k (name k) j q).inside in
          absurd (omega arith)

  past : (k : ℕ) → (name k ≡ m → ⊥) → first_in (scope_of sc (suc k)) m ≡ first_in (scope_of sc k) m
  unfolding scope_of first_in
  past k ne = rw (ne_eqb (name k) m ne) (go (first_in (scope_of sc k) m))
    where
      go : (j : ℕ) → or_else j 0 ≡ j
      go zero = refl
      go (suc j) = refl

  -- a declaration in another cell is of another name, or not the outermost of m
  past-cell : (k : ℕ) → (cell k ≡ slot → ⊥) → first_in (scope_of sc (suc k)) m ≡ first_in (scope_of sc k) m
  unfolding scope_of first_in cell_in
  past-cell k ne = go (first_in (scope_of sc k) m) refl
    where
      go : (j : ℕ) → first_in (scope_of sc k) m ≡ j → or_else j (pick (eqb (name k) m) (suc (length (scope_of sc k))) 0) ≡ j
      go zero q =
          let no : name k ≡ m → ⊥ = λ e. ne (rw (e, q)) in
          rw (ne_eqb (name k) m no)
      go (suc j) q = refl

  hit : (k : ℕ) → first_in (scope_of sc k) (name k) ≡ 0 → name k ≡ m → first_in (scope_of sc (suc k)) m ≡ suc k
  unfolding scope_of first_in
  hit k a e =
      let z : first_in (scope_of sc k) m ≡ 0 = rw e at a in
      rw (z, eq-eqb (name k) m e) (ap suc (scope-length sc k))

  pub says-low : (k l : ℕ) → k ≤ u → Says sc m k l → l ≤ k
  unfolding Held
  says-low zero l h s = let e = s.is in let z = s.below.held m in let q = s.below.long in (rw (← e, ← q, z) (le_refl 0))
  says-low (suc k) l h s = go (eqb (cell k) slot) refl (λ t. says-low k l (omega arith) t)
    where
      go : (b : Bool) → eqb (cell k) slot ≡ b → (Says sc m k l → l ≤ k) → l ≤ suc k
      go true e f = let q = (this-cell k s.row s.below (eqb-true (cell k) slot e)).0 in let i = s.is in omega arith
      go false e f =
          let o = other-cell k s.row s.below (eqb-false (cell k) slot e) in
          let r = f (record { row = pop k s.row; below = below-pop k s.row h s.below; is = o ∙ s.is }) in
          omega arith

  pub says_none : (k : ℕ) → k ≤ u → Says sc m k 0 → first_in (scope_of sc k) m ≡ 0
  unfolding scope_of first_in
  says_none zero h s = refl
  says_none (suc k) h s = go (eqb (cell k) slot) refl (λ t. says_none k (omega arith) t)
    where
      go : (b : Bool) → eqb (cell k) slot ≡ b → (Says sc m k 0 → first_in (scope_of sc k) m ≡ 0) → first_in (scope_of sc (suc k)) m ≡ 0
      go true e f = let q = (this-cell k s.row s.below (eqb-true (cell k) slot e)).0 in let i = s.is in absurd (omega arith)
      go false e f =
          let ne = eqb-false (cell k) slot e in
          let o = other-cell k s.row s.below ne in
          past-cell k ne ∙ f (record { row = pop k s.row; below = below-pop k s.row h s.below; is = o ∙ s.is })

  pub says_some : (k l : ℕ) → k ≤ u → Says sc m k (suc l) → Found sc m k l
  unfolding Held
  says_some zero l h s = let e = s.is in let z = s.below.held m in let q = s.below.long in let k = rw (q, e) at z in absurd (omega arith)
  says_some (suc k) l h s = go (eqb (cell k) slot) refl (λ t. says_some k l (omega arith) t)
    where
      go : (b : Bool) → eqb (cell k) slot ≡ b → (Says sc m k (suc l) → Found sc m k l) → Found sc m (suc k) l
      go true e r =
          let c = eqb-true (cell k) slot e in
          let (q, n) = this-cell k s.row s.below c in
          let i = s.is in
          let z : k ≡ l = omega arith in
          rw (← z)
          (record {
            inside = le_refl (suc k);
            alone = slot-alone k h c;
            level = refl;
            next = record { row = pop k s.row; below = below-pop k s.row h s.below; is = n };
          })
      go false e r =
          let ne = eqb-false (cell k) slot e in
          let o = other-cell k s.row s.below ne in
          let f = r (record { row = pop k s.row; below = below-pop k s.row h s.below; is = o ∙ s.is }) in
          let i = f.inside in
          record { inside = omega arith; alone = f.alone; level = past-cell k ne ∙ f.level; next = f.next }

  -- the search, step by step
  pub seek-first : Held sc u → Seeking sc m u (get_or sc slot 0)
  seek-first h = (u, le_refl u, record { row = sc; below = record { long = refl; words = λ w i ne. refl; held = h }; is = refl }, refl)

  module _ (l : ℕ) (s : Seeking sc m u l) where
    pub seek-low : l ≤ u
    seek-low = let (k, h, y, e) = s in let q = says-low k l h y in omega arith

    seek-some : 0 < l → Found sc m s.0 (l - 1)
    seek-some p = let e : suc (l - 1) ≡ l = omega arith in says_some s.0 (l - 1) s.1 (rw e s.2)

    pub seek_hit : 0 < l → get_or sc (4 * (l - 1)) 0 ≡ m → l ≡ first_in (scope_of sc u) m
    seek_hit p e =
        let f = seek-some p in
        let i : suc (l - 1) ≡ l = omega arith in
        sym (s.3 ∙ (f.level ∙ (hit (l - 1) f.alone e ∙ i)))

    pub seek-on : 0 < l → (get_or sc (4 * (l - 1)) 0 ≡ m → ⊥) → Seeking sc m u (get_or sc (4 * (l - 1) + 1) 0)
    seek-on p ne =
        let f = seek-some p in
        let i = f.inside in
        let h = s.1 in
        (l - 1, omega arith, f.next, s.3 ∙ (f.level ∙ past (l - 1) ne))

    pub seek-less : 0 < l → get_or sc (4 * (l - 1) + 1) 0 < l
    seek-less p =
        let f = seek-some p in
        let i = f.inside in
        let h = s.1 in
        let q = says-low (l - 1) (get_or sc (4 * (l - 1) + 1) 0) (omega arith) f.next in
        omega arith

    pub seek-none : l ≤ 0 → 0 ≡ first_in (scope_of sc u) m
    seek-none p = let e : l ≡ 0 = omega arith in sym (s.3 ∙ says_none s.0 s.1 (rw e at s.2))

-- what is made of the outermost level: the cell of the name, and its innermost level
module _ (sc : List ℕ) (u m f : ℕ) (is : f ≡ first_in (scope_of sc u) m) where
  pub none-cell : f ≡ 0 → (c : ℕ) → c ≡ slot_of (length sc) m → c ≡ cell_in sc u m
  unfolding cell_in
  none-cell e c s = let z : first_in (scope_of sc u) m ≡ 0 = sym is ∙ e in rw z s

  pub none-level : f ≡ 0 → 0 ≡ level_in (scope_of sc u) m
  none-level e = sym (first-none (scope_of sc u) m (sym is ∙ e))

  some : (f ≡ 0 → ⊥) → first_in (scope_of sc u) m ≡ suc (f - 1)
  some ne = go f refl
    where
      go : (k : ℕ) → f ≡ k → first_in (scope_of sc u) m ≡ suc (f - 1)
      go zero e = absurd (ne e)
      go (suc k) e = let z : suc (f - 1) ≡ f = omega arith in sym is ∙ sym z

  pub some-cell : (f ≡ 0 → ⊥) → 4 * (f - 1) + 2 ≡ cell_in sc u m
  unfolding cell_in
  some-cell ne = rw (some ne)

  pub some-low : (f ≡ 0 → ⊥) → 4 * (f - 1) + 2 < 4 * u
  some-low ne = let i = (first-is sc u m (f - 1) (some ne)).inside in omega arith

  pub some_level : Sized u (length sc) → Held sc u → (f ≡ 0 → ⊥) → get_or sc (4 * (f - 1) + 2) 0 ≡ level_in (scope_of sc u) m
  some_level r h ne = first-told u sc m (f - 1) r h (some ne)
