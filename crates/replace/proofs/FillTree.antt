-- What a plan puts for the indices of a quantifier's body is what fill puts for them on the tree. Assumes nothing.
use mathlib.Core.Path.{◌≡◌, refl, ap, sym, ◌∙◌}
use mathlib.Core.Bool.{Bool, true, false}
use mathlib.Core.List.{List, [], ◌∷◌, ◌++◌, append_assoc, append-nil, map, reverse, reverse-cons, reverse-append}
use Prim.Native.Nat.{ℕ, zero, suc, ◌+◌, ◌-◌, ◌*◌, ◌≤◌, ◌<◌}
use native.Mathlib.Nat.{zero-add, add-zero}
use native.Mathlib.Numerals.{add-one}
use native.Mathlib.Omega.{arith}
use borrow.Author.Tests.{le-leb, leb-true, leb-false, lt-ltb, le-ltb}
use lib.Dec.{leb, eqb}
use lib.ListN.{length, get_or, take, drop, length-map, length-drop, length-reverse, get_or-map}
use lib.Seq.{get_or-take, split_at}
use Rattle.tree.specs.Form.{Leaf, free, bound, Form, leaf, pick, encode}
use Rattle.tree.specs.Tag.{Sort}
use Rattle.form.specs.Lists.{Place, kept, filled}
use Rattle.reader.specs.declared.lists.Table.{Table}
use Rattle.form.proofs.DecodeLaws.{Ok}
use Rattle.rules.specs.Walk.{Binding, inside, outside, binding, Outer, named, dangling, walk_index, walk_leaf, walk, up, lift, put, subst, each}
use Rattle.rules.specs.Shift.{reaches, lower}
use Rattle.shift.specs.Internal.Items.{words_of, rewritten}
use Rattle.shift.specs.declared.items.Item.{Item}
use Rattle.shift.specs.declared.items.Item.TheVariants.{Plain, Ident}
use Rattle.rules.proofs.WalkLaws.{binding-inside, binding-back, shift-shift, each-all, walk-agree}
use Rattle.rules.proofs.LimitLaws.{tight, ok-tight}
use Rattle.shift.proofs.ShiftLaws.{moved}
use Rattle.shift.proofs.RowLaws.{ident_of, items_of, walk-items-in}
use Rattle.rules.specs.Fill.{kept_count, fill_index, fill_for}
use Rattle.replace.specs.Internal.Pieces.{piece_words, filled_words, place_piece, fill_piece, piece_of, planned, fill_plan}
use Rattle.replace.specs.declared.pieces.Piece.TheVariants.{Index, Part}
use Rattle.replace.specs.declared.pieces.Plan.{Plan}
use Rattle.replace.proofs.EntryLaws.{PlaceAt}
use Rattle.replace.proofs.ActionLaws.{tight-depth, moved-words, moved-lift, moved-lower}

-- the word of a place, and how many places are kept and filled
abbrev pub word_for : Place → ℕ
word_for kept = 0
word_for (filled x) = 1

pub count-both : (ps : List Place) → kept_count ps + filled_words (map word_for ps) ≡ length ps
unfolding filled_words
count-both [] = refl
count-both (kept ∷ ps) = let h = count-both ps in omega arith
count-both (filled x ∷ ps) = let h = count-both ps in omega arith

kept_append : (a b : List Place) → kept_count (a ++ b) ≡ kept_count a + kept_count b
kept_append [] b = omega arith
kept_append (kept ∷ a) b = let h = kept_append a b in omega arith
kept_append (filled x ∷ a) b = kept_append a b

kept-one : (p : Place) (n : ℕ) → n + kept_count (p ∷ []) ≡ kept_count (p ∷ []) + n
kept-one p n = omega arith

kept_cons : (p : Place) (ps : List Place) → kept_count (p ∷ ps) ≡ kept_count (p ∷ []) + kept_count ps
kept_cons kept ps = omega arith
kept_cons (filled x) ps = omega arith

pub kept-reverse : (ps : List Place) → kept_count (reverse ps) ≡ kept_count ps
kept-reverse [] = refl
kept-reverse (p ∷ ps) = rw (reverse-cons p ps, kept_append (reverse ps) (p ∷ []), kept-reverse ps) (kept-one p (kept_count ps) ∙ sym (kept_cons p ps))

pub drop-map : (f : Place → ℕ) (i : ℕ) (ps : List Place) → drop i (map f ps) ≡ map f (drop i ps)
drop-map f zero ps = refl
drop-map f (suc i) [] = refl
drop-map f (suc i) (p ∷ ps) = drop-map f i ps

-- an index past some places, of which some are kept
fill-at : (m c : ℕ) (qs rs : List Place) (j : ℕ) → fill_index m c (qs ++ rs) (length qs + j) ≡ fill_index m (c + kept_count qs) rs j
fill-at m c [] rs j = rw (zero-add, add-zero)
fill-at m c (kept ∷ qs) rs j =
    let e : suc (length qs) + j ≡ suc (length qs + j) = omega arith in
    let k : suc c + kept_count qs ≡ c + suc (kept_count qs) = omega arith in
    rw (e, ← k) (fill-at m (suc c) qs rs j)
fill-at m c (filled x ∷ qs) rs j =
    let e : suc (length qs) + j ≡ suc (length qs + j) = omega arith in
    rw e (fill-at m c qs rs j)

pub fill-past : (m : ℕ) (qs : List Place) (j : ℕ) → fill_index m 0 qs (length qs + j) ≡ leaf (bound (m + j))
fill-past m qs j = rw append-nil at (fill-at m 0 qs [] j)

pub fill_here : (m : ℕ) (a b : List Place) (x : Place) → fill_index m 0 (reverse (a ++ (x ∷ b))) (length b) ≡ fill_index m (kept_count b) (x ∷ reverse a) 0
fill_here m a b x =
    let e : reverse (a ++ (x ∷ b)) ≡ reverse b ++ (x ∷ reverse a) = rw (reverse-append a (x ∷ b), reverse-cons x b) (append_assoc (reverse b) (x ∷ []) (reverse a)) in
    let n : length b ≡ length (reverse b) + 0 = rw (length-reverse b) (omega arith) in
    rw (e, n, fill-at m 0 (reverse b) (x ∷ reverse a) 0, kept-reverse b, zero-add)

-- a place whose expression becomes another
abbrev pub low_place : (Form → Form) → Place → Place
low_place low kept = kept
low_place low (filled x) = filled (low x)

pub low-words : (low : Form → Form) (ps : List Place) → map word_for (map (low_place low) ps) ≡ map word_for ps
low-words low [] = refl
low-words low (kept ∷ ps) = ap (λ z. 0 ∷ z) (low-words low ps)
low-words low (filled x ∷ ps) = ap (λ z. 1 ∷ z) (low-words low ps)

pub low_same : (ps : List Place) → map (low_place (λ x. x)) ps ≡ ps
low_same [] = refl
low_same (kept ∷ ps) = ap (λ z. kept ∷ z) (low_same ps)
low_same (filled x ∷ ps) = ap (λ z. filled x ∷ z) (low_same ps)

-- the plan whose parts are moved down by dn
abbrev pub down_plan : ℕ → Table → Plan
down_plan dn t = record { table = t; fills = true; gone = filled_words (take t.n t.words); down = dn }

-- an expression that is moved down by dn and up by u becomes the one that is put, lifted by u
abbrev pub Moves : ℕ → (Form → Form) → Place → Type 0
Moves dn low kept = Unit {0}
Moves dn low (filled x) = (u : ℕ) → u ≤ 4294901760 → walk (moved u dn) 0 x ≡ lift u (low x)

-- what the code puts for the place of an index
abbrev place_moved : ℕ → ℕ → ℕ → Place → Form
place_moved dn u v kept = leaf (bound v)
place_moved dn u v (filled x) = walk (moved u dn) 0 x

place-lift : (dn : ℕ) (low : Form → Form) (k m c u v : ℕ) (x : Place) (qs : List Place) → u ≡ m + k → u ≤ 4294901760 → v ≡ k + c → Moves dn low x
    → place_moved dn u v x ≡ walk (up k) 0 (fill_index m c (low_place low x ∷ qs) 0)
unfolding walk
place-lift dn low k m c u v kept qs e h w s = ap (λ z. leaf (bound z)) (omega arith)
place-lift dn low k m c u v (filled y) qs e h w s = s u h ∙ (rw e (sym (shift-shift m k 0 (low y))))

place-words : (list lm : List ℕ) (s e dn u v w : ℕ) (i : Item) (p : Place) → w ≡ word_for p → PlaceAt (Unit {0}) list lm s e p
    → piece_words list lm (pick (eqb w 0) (Index v) (Part s e u dn)) i ≡ encode (place_moved dn u v p)
unfolding piece_words encode
place-words list lm s e dn u v w i kept q h = rw q
place-words list lm s e dn u v w i (filled x) q h = rw (q, h.0) (moved-words u dn x)

pub small-moves : (list lm : List ℕ) (s e : ℕ) (p : Place) → PlaceAt (Unit {0}) list lm s e p → Moves 0 (λ x. x) p
small-moves list lm s e kept h = tt
small-moves list lm s e (filled x) h = λ u l. moved-lift u x l h.1

index-words : (list lm : List ℕ) (v : ℕ) (i : Item) → piece_words list lm (Index v) i ≡ encode (leaf (bound v))
unfolding piece_words encode
index-words list lm v i = refl

-- the numbers of an index at depth k whose place has the places b inside it
index-falls : (k j : ℕ) (b : List Place) → length b ≡ j → k + j - filled_words (map word_for b) ≡ k + kept_count b
index-falls k j b e = let h = count-both b in omega arith

-- a well-formed form is not too deep
pub ok-flat : (k : ℕ) {d : ℕ} {s : Sort} {f : Form} → k + 32 * d ≤ 4096 → Ok d s f → each (λ i x. leb i 4096) k f ≡ true
ok-flat k {f = f} deep ok = each-all (tight 4096) (λ i x. leb i 4096) (λ i x h. le-leb i 4096 (tight-depth 4096 i x h)) k f (ok-tight ok 4096 k deep)

module _ (dn : ℕ) (low : Form → Form) (t : Table) (list lm : List ℕ) (ps : List Place) (words : take t.n t.words ≡ map word_for ps) (count : t.n ≡ length ps)
    (placed : (i : ℕ) → i < length ps → PlaceAt (Unit {0}) list lm (get_or t.starts i 0) (get_or t.ends i 0) (get_or ps i kept)) (moves : (i : ℕ) → i < length ps → Moves dn low (get_or ps i kept)) where
  abbrev qs : List Place
  qs = map (low_place low) ps

  low_count : length qs ≡ length ps
  low_count = length-map ps (low_place low)

  abbrev gone : ℕ
  gone = filled_words (take t.n t.words)

  abbrev spot : ℕ → ℕ
  spot j = t.n - 1 - j

  abbrev fill_moved : ℕ → Outer → Form
  fill_moved k (named m) = leaf (free m)
  fill_moved k (dangling j) =
      pick (leb t.n j) (leaf (bound (k + j - gone)))
      (place_moved dn (k + t.n - gone) (k + j - filled_words (drop (spot j + 1) (take t.n t.words))) (get_or ps (spot j) kept))

  word_at : (i : ℕ) → i < t.n → get_or t.words i 0 ≡ word_for (get_or ps i kept)
  word_at i h = sym (get_or-take t.n t.words i 0 h) ∙ (ap (λ l. get_or l i 0) words ∙ get_or-map word_for ps i kept)

  outside-words : (k j : ℕ) → piece_words list lm (pick (leb t.n j) (Index (k + j - gone)) (place_piece (down_plan dn t) (k + t.n) (k + j) (spot j))) (Ident (k + t.n) 2 (k + j)) ≡ encode (fill_moved k (dangling j))
  unfolding place_piece
  outside-words k j = go (leb t.n j) refl
    where
      go : (b : Bool) → leb t.n j ≡ b
          → piece_words list lm (pick b (Index (k + j - gone)) (place_piece (down_plan dn t) (k + t.n) (k + j) (spot j))) (Ident (k + t.n) 2 (k + j))
          ≡ encode (pick b (leaf (bound (k + j - gone))) (place_moved dn (k + t.n - gone) (k + j - filled_words (drop (spot j + 1) (take t.n t.words))) (get_or ps (spot j) kept)))
      go true q = index-words list lm (k + j - gone) (Ident (k + t.n) 2 (k + j))
      go false q =
          let h = leb-false t.n j q in
          place-words list lm (get_or t.starts (spot j) 0) (get_or t.ends (spot j) 0) dn (k + t.n - gone) _ (get_or t.words (spot j) 0) _ (get_or ps (spot j) kept) (word_at (spot j) (omega arith))
          (placed (spot j) (omega arith))

  index-piece : (k i : ℕ) (z : Binding) → binding k i ≡ z → piece_words list lm (fill_piece (down_plan dn t) (k + t.n) i) (Ident (k + t.n) 2 i) ≡ encode (walk_index fill_moved k i z)
  unfolding fill_piece piece_words words_of encode
  index-piece k i inside q =
      let e : k + t.n - t.n ≡ k = omega arith in
      rw (e, lt-ltb i k (binding-inside k i q))
  index-piece k i (outside j) q =
      let e : k + t.n - t.n ≡ k = omega arith in
      let d : k + j - k ≡ j = omega arith in
      rw (← binding-back k i j q, e, le-ltb (k + j) k (omega arith), d) (outside-words k j)

  fill-leaf : (k : ℕ) (x : Leaf) → planned (down_plan dn t) list lm (ident_of (k + t.n) x) ≡ encode (walk_leaf fill_moved k x)
  unfolding piece_of piece_words words_of encode
  fill-leaf k (free m) = refl
  fill-leaf k (bound i) = index-piece k i (binding k i) refl

  fill-plain : (w : ℕ) → planned (down_plan dn t) list lm (Plain w) ≡ w ∷ []
  unfolding piece_of piece_words words_of
  fill-plain w = refl

  -- within the limits it is what fill puts there
  near : (k j : ℕ) → k ≤ 4096 → t.n ≤ 32 → j < t.n → place_moved dn (k + t.n - gone) (k + j - filled_words (drop (spot j + 1) (take t.n t.words))) (get_or ps (spot j) kept) ≡ walk (up k) 0 (fill_index (kept_count qs) 0 (reverse qs) j)
  near k j h few under =
      let l = low_count in
      let i = spot j in
      let b = drop (suc i) qs in
      let a : get_or qs i kept ≡ low_place low (get_or ps i kept) = get_or-map (low_place low) ps i kept in
      let s : qs ≡ take i qs ++ (low_place low (get_or ps i kept) ∷ b) = split_at qs i kept (omega arith) ∙ ap (λ z. take i qs ++ (z ∷ b)) a in
      let n : length b ≡ j = length-drop (suc i) qs ∙ omega arith in
      let both = count-both qs in
      let w : take t.n t.words ≡ map word_for qs = words ∙ sym (low-words low ps) in
      let g : gone ≡ filled_words (map word_for qs) = ap filled_words w in
      let f : filled_words (drop (i + 1) (take t.n t.words)) ≡ filled_words (map word_for b) = rw (w, drop-map word_for (i + 1) qs, add-one) in
      let r : fill_index (kept_count qs) 0 (reverse qs) j ≡ fill_index (kept_count qs) (kept_count b) (low_place low (get_or ps i kept) ∷ reverse (take i qs)) 0
      = ap (λ z. fill_index (kept_count qs) 0 (reverse qs) z) (sym n) ∙ (ap (λ l. fill_index (kept_count qs) 0 (reverse l) (length b)) s ∙ fill_here (kept_count qs) (take i qs) b (low_place low (get_or ps i kept))) in
      rw (r, f)
      (place-lift dn low k (kept_count qs) (kept_count b) (k + t.n - gone) (k + j - filled_words (map word_for b)) (get_or ps i kept) (reverse (take i qs)) (omega arith) (omega arith) (index-falls k j b n) (moves i (omega arith)))

  far : (k j : ℕ) → t.n ≤ j → leaf (bound (k + j - gone)) ≡ walk (up k) 0 (fill_index (kept_count qs) 0 (reverse qs) j)
  unfolding walk
  far k j h =
      let m = low_count in
      let l = length-reverse qs in
      let n : j ≡ length (reverse qs) + (j - length (reverse qs)) = omega arith in
      let both = count-both qs in
      let g : gone ≡ filled_words (map word_for qs) = ap filled_words (words ∙ sym (low-words low ps)) in
      let r : fill_index (kept_count qs) 0 (reverse qs) j ≡ leaf (bound (kept_count qs + (j - length (reverse qs)))) = ap (λ z. fill_index (kept_count qs) 0 (reverse qs) z) n ∙ fill-past (kept_count qs) (reverse qs) (j - length (reverse qs)) in
      rw r (ap (λ z. leaf (bound z)) (omega arith))

  fill-agree : t.n ≤ 32 → (k : ℕ) (x : Outer) → leb k 4096 ≡ true → fill_moved k x ≡ put (fill_for qs) k x
  unfolding walk
  fill-agree few k (named m) h = refl
  fill-agree few k (dangling j) h = go (leb t.n j) refl
    where
      go : (b : Bool) → leb t.n j ≡ b → pick b (leaf (bound (k + j - gone))) (place_moved dn (k + t.n - gone) (k + j - filled_words (drop (spot j + 1) (take t.n t.words))) (get_or ps (spot j) kept))
          ≡ walk (up k) 0 (fill_index (kept_count qs) 0 (reverse qs) j)
      go true q = far k j (leb-true t.n j q)
      go false q = near k j (leb-true k 4096 h) few (leb-false t.n j q)

  -- k more declarations are open inside
  pub fill-tree-flat : t.n ≤ 32 → (k : ℕ) (f : Form) → each (λ i x. leb i 4096) k f ≡ true → rewritten (planned (down_plan dn t) list lm) (items_of (k + t.n) f) ≡ encode (walk (put (fill_for (map (low_place low) ps))) k f)
  fill-tree-flat few k f flat =
      walk-items-in t.n (planned (down_plan dn t) list lm) fill_moved fill-plain fill-leaf k f
      ∙ ap encode (walk-agree (λ i x. leb i 4096) fill_moved (put (fill_for qs)) (fill-agree few) k f flat)

  pub fill-tree-down : t.n ≤ 32 → (k : ℕ) {d : ℕ} {s : Sort} {f : Form} → k + 32 * d ≤ 2048 → Ok d s f
      → rewritten (planned (down_plan dn t) list lm) (items_of (k + t.n) f) ≡ encode (walk (put (fill_for (map (low_place low) ps))) k f)
  fill-tree-down few k {f = f} deep ok = fill-tree-flat few k f (ok-flat k (omega arith) ok)

-- every index that dangles in a place's expression is at least dn
abbrev pub Above : ℕ → Place → Type 0
Above dn kept = Unit {0}
Above dn (filled x) = each (reaches dn) 0 x ≡ true

-- with nothing moved down, and with expressions in which no index dangles below dn
module _ (t : Table) (list lm : List ℕ) (ps : List Place) (words : take t.n t.words ≡ map word_for ps) (count : t.n ≡ length ps)
    (placed : (i : ℕ) → i < length ps → PlaceAt (Unit {0}) list lm (get_or t.starts i 0) (get_or t.ends i 0) (get_or ps i kept)) where
  pub fill-tree : t.n ≤ 32 → {d : ℕ} {s : Sort} {f : Form} → d ≤ 64 → Ok d s f → rewritten (planned (fill_plan t) list lm) (items_of t.n f) ≡ encode (subst (fill_for ps) f)
  fill-tree few deep ok =
      rw (zero-add, low_same ps) at
      (fill-tree-down 0 (λ x. x) t list lm ps words count placed (λ i h. small-moves list lm (get_or t.starts i 0) (get_or t.ends i 0) (get_or ps i kept) (placed i h)) few 0 (omega arith) ok)

  above-moves : (dn s e : ℕ) (p : Place) → PlaceAt (Unit {0}) list lm s e p → Above dn p → Moves dn (lower dn) p
  above-moves dn s e kept h a = tt
  above-moves dn s e (filled x) h a = λ u l. moved-lower u dn x l h.1 a

  pub fill-tree-lower : (dn : ℕ) → ((i : ℕ) → i < length ps → Above dn (get_or ps i kept)) → t.n ≤ 32 → (k : ℕ) {d : ℕ} {s : Sort} {f : Form} → k + 32 * d ≤ 2048 → Ok d s f
      → rewritten (planned (down_plan dn t) list lm) (items_of (k + t.n) f) ≡ encode (walk (put (fill_for (map (low_place (lower dn)) ps))) k f)
  fill-tree-lower dn above few k deep ok =
      fill-tree-down dn (lower dn) t list lm ps words count placed (λ i h. above-moves dn (get_or t.starts i 0) (get_or t.ends i 0) (get_or ps i kept) (placed i h) (above i h)) few k deep ok
