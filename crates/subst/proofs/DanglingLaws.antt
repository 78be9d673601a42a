-- The flags that the loops set, read in order, are the dangling set of the tree. Assumes nothing.
use mathlib.Core.Path.{◌≡◌, refl, ap, sym, ◌∙◌}
use mathlib.Core.Bool.{Bool, true, false, ◌&&◌}
use mathlib.Core.List.{List, [], ◌∷◌, ◌++◌, append-nil}
use Prim.Native.Nat.{ℕ, zero, suc, ◌+◌, ◌-◌, ◌≤◌, ◌<◌}
use native.Mathlib.Nat.{add-zero, zero-add}
use native.Mathlib.Numerals.{add-one}
use native.Mathlib.Omega.{arith}
use borrow.Author.Tests.{eq-eqb, ne_eqb, le-leb, lt-leb, lt-ltb, le-ltb, ltb-true}
use mir.Val.{bool_byte}
use lib.Dec.{leb, ltb, eqb}
use lib.Seq.{set_out}
use lib.ListN.{length, length-append, get_or, drop, set, replicate, length-set, length-replicate, drop_of_length-le}
use Rattle.tree.specs.Form.{Leaf, free, bound, Form, leaf, node, noted, Decls, undeclared, bare, typed, names_of, Forms, none, more, pick}
use Rattle.form.specs.Answer.{stop, told, written, check_outcome}
use Rattle.form.specs.declared.answer.Kind.TheVariants.{Either}
use Rattle.form.specs.Answer.{Answer}
use Rattle.std.specs.Prelude.{Ok, Err}
use Rattle.std.proofs.lemmas.List.{drop_more}
use Rattle.rules.specs.Walk.{Binding, inside, outside, binding, Outer, named, dangling, collect_index, collect_leaf, collect, collect_decls, collect_all}
use Rattle.rules.specs.Dangling.{index_of, insert, insert_all, dangling_set, dangling_outcome}
use Rattle.shift.specs.Internal.Items.{items, size_of, item_at, rewritten, all_items, item_in, store}
use Rattle.subst.specs.Internal.Flags.{index_words, flag_all, flag_words, selected, Flagging, set_words}
use Rattle.shift.specs.declared.items.Item.{Item}
use Rattle.shift.specs.declared.items.Item.TheVariants.{Plain, Ident}
use Rattle.rules.proofs.WalkLaws.{binding-inside, binding-back, and_left, and_right, each-all}
use Rattle.rules.proofs.LimitLaws.{small, ok-small}
use Rattle.shift.proofs.CheckedLaws.{Checked, check-refuses}
use Rattle.shift.proofs.RowLaws.{ident_of, plain, items_of, items_decls, items_all, marked-items, rewritten-append, each-items}
use Rattle.shift.proofs.ItemLaws.{next, store-append, stored}
use Rattle.shift.proofs.ShiftLaws.{in_range, range-leaf, range-word, between-high}
use Rattle.form.specs.declared.answer.Refusal.{Refusal}
use Rattle.form.specs.declared.answer.Refusal.TheVariants.{TooLong, OutputTooShort}

-- what is collected over the tree is put together item by item
module _ (g : Item → List ℕ) (p : ℕ → Outer → List ℕ) (skip : (w : ℕ) → g (Plain w) ≡ []) (does : (k : ℕ) (x : Leaf) → g (ident_of k x) ≡ collect_leaf [] p k x) where
  rewritten-none : (o : List ℕ) (b : List Item) → rewritten g (plain o ++ b) ≡ rewritten g b
  unfolding rewritten
  rewritten-none [] b = refl
  rewritten-none (w ∷ o) b = rw (skip w, rewritten-none o b)

  mutual
    unfolding rewritten items_of collect

    pub collect-items : (k : ℕ) (f : Form) → rewritten g (items_of k f) ≡ collect [] ◌++◌ p k f
    collect-items k (leaf x) = append-nil (g (ident_of k x)) ∙ does k x
    collect-items k (node t o ds ks) = rw (skip t, rewritten-none o, rewritten-none ds, collect-items_all (length ds + k) ks)
    collect-items k (noted t o ds ks) =
        rw (skip t, rewritten-none o, rewritten-append g (items_decls k ds), collect-items_decls k ds, collect-items_all (length (names_of ds) + k) ks)

    collect-items_decls : (k : ℕ) (ds : Decls) → rewritten g (items_decls k ds) ≡ collect_decls [] ◌++◌ p k ds
    collect-items_decls k undeclared = refl
    collect-items_decls k (bare n ds) = rw (skip n, skip 0, collect-items_decls k ds)
    collect-items_decls k (typed n f ds) = rw (skip n, skip 1, rewritten-append g (items_of k f), collect-items k f, collect-items_decls k ds)

    collect-items_all : (k : ℕ) (fs : Forms) → rewritten g (items_all k fs) ≡ collect_all [] ◌++◌ p k fs
    collect-items_all k none = refl
    collect-items_all k (more f fs) = rw (rewritten-append g (items_of k f) (items_all k fs), collect-items k f, collect-items_all k fs)

-- the index of an item, by the tests of the code
module _ (it : Item) (k t v : ℕ) (e : it ≡ Ident k t v) where
  pub index-at : t ≡ 2 → k ≤ v → index_words it ≡ (v - k) ∷ []
  unfolding index_words
  index-at q h = rw (e, eq-eqb t 2 q, le-ltb v k h)

  pub index-bound : t ≡ 2 → v < k → index_words it ≡ []
  unfolding index_words
  index-bound q h = rw (e, eq-eqb t 2 q, lt-ltb v k h)

  pub index-other : (t ≡ 2 → ⊥) → index_words it ≡ []
  unfolding index_words
  index-other q = rw (e, ne_eqb t 2 q)

pub index-plain : (it : Item) (w : ℕ) → it ≡ Plain w → index_words it ≡ []
unfolding index_words
index-plain it w e = rw e

index-binding : (k i : ℕ) (z : Binding) → binding k i ≡ z → pick (ltb i k) [] ((i - k) ∷ []) ≡ collect_index [] index_of k z
index-binding k i inside q = rw (lt-ltb i k (binding-inside k i q))
index-binding k i (outside j) q =
    let e : k + j ≡ i = binding-back k i j q in
    let d : i - k ≡ j = omega arith in
    rw (le-ltb i k (omega arith), d)

index-leaf : (k : ℕ) (x : Leaf) → index_words (ident_of k x) ≡ collect_leaf [] index_of k x
unfolding index_words
index-leaf k (free n) = refl
index-leaf k (bound i) = index-binding k i (binding k i) refl

index_word : (w : ℕ) → index_words (Plain w) ≡ []
unfolding index_words
index_word w = refl

-- one flag more is one index more
later : (i : ℕ) (fl : List Bool) (j : ℕ) → j < i → insert j (selected i fl) ≡ j ∷ selected i fl
unfolding selected
later i [] j h = refl
later i (false ∷ fl) j h = later (suc i) fl j (omega arith)
later i (true ∷ fl) j h = rw (lt-ltb j i h)

insert-past : (n i : ℕ) (is : List ℕ) → i < n → i ∷ insert n is ≡ insert n (i ∷ is)
insert-past n i is h = rw (le-ltb n i (omega arith), ne_eqb n i (λ q. omega arith)) refl

pub flag-insert : (i : ℕ) (fl : List Bool) (j : ℕ) → j < length fl → selected i (set fl j true) ≡ insert (i + j) (selected i fl)
unfolding selected
flag-insert i [] j h = absurd (omega arith)
flag-insert i (false ∷ fl) zero h = rw add-zero (sym (later (suc i) fl i (omega arith)))
flag-insert i (true ∷ fl) zero h = rw (add-zero, le-ltb i i (omega arith), eq-eqb i i refl)
flag-insert i (false ∷ fl) (suc j) h =
    let e : i + suc j ≡ suc i + j = omega arith in
    rw e (flag-insert (suc i) fl j (omega arith))
flag-insert i (true ∷ fl) (suc j) h =
    let e : i + suc j ≡ suc i + j = omega arith in
    let rest : selected (suc i) (set fl j true) ≡ insert (i + suc j) (selected (suc i) fl) = rw e (flag-insert (suc i) fl j (omega arith)) in
    ap (λ z. i ∷ z) rest ∙ insert-past (i + suc j) i (selected (suc i) fl) (omega arith)

abbrev pub Below : ℕ → List ℕ → Type 0
Below n [] = Unit {0}
Below n (i ∷ is) = (i < n) × Below n is

kept-below : (fl : List Bool) (i : ℕ) (is : List ℕ) → Below (length fl) is → Below (length (set fl i true)) is
kept-below fl i is h = rw length-set h

flags-insert : (is : List ℕ) (fl : List Bool) → Below (length fl) is → selected 0 (flag_all fl is) ≡ insert_all (selected 0 fl) is
unfolding flag_all
flags-insert [] fl h = refl
flags-insert (i ∷ is) fl h =
    let e : selected 0 (set fl i true) ≡ insert i (selected 0 fl) = rw zero-add at (flag-insert 0 fl i h.0) in
    flags-insert is (set fl i true) (kept-below fl i is h.1) ∙ ap (λ z. insert_all z is) e

clear-flags : (i n : ℕ) → selected i (replicate n false) ≡ []
unfolding selected
clear-flags i zero = refl
clear-flags i (suc n) = clear-flags (suc i) n

-- where the numbers of all indices are below n, so are the indices that dangle
below-append : (n : ℕ) (a b : List ℕ) → Below n a → Below n b → Below n (a ++ b)
below-append n [] b h k = k
below-append n (i ∷ a) b h k = (h.0, below-append n a b h.1 k)

below-ident : (n k v : ℕ) (b c : Bool) → ltb v k ≡ c → pick b (pick c true (leb 0 (v - k) && ltb v n)) true ≡ true → Below n (pick b (pick c [] ((v - k) ∷ [])) [])
below-ident n k v true true q e = tt
below-ident n k v true false q e = let l : v < n = ltb-true v n (and_right (leb 0 (v - k)) (ltb v n) e) in (omega arith, tt)
below-ident n k v false c q e = tt

below-item : (n : ℕ) (x : Item) → item_in 0 n x ≡ true → Below n (index_words x)
unfolding item_in index_words
below-item n (Plain w) e = tt
below-item n (Ident k t v) e = below-ident n k v (eqb t 2) (ltb v k) refl e

below-items : (n : ℕ) (xs : List Item) → all_items (item_in 0 n) xs ≡ true → Below n (rewritten index_words xs)
unfolding all_items rewritten
below-items n [] e = tt
below-items n (x ∷ xs) e =
    below-append n (index_words x) (rewritten index_words xs) (below-item n x (and_left (item_in 0 n x) (all_items (item_in 0 n) xs) e))
    (below-items n xs (and_right (item_in 0 n x) (all_items (item_in 0 n) xs) e))

pub flags-are : (row marks : List ℕ) (flags flags' : List Bool) → Flagging row marks flags → flags' ≡ flag_all flags (rewritten index_words (items row marks))
    → selected 0 flags' ≡ insert_all [] (rewritten index_words (items row marks))
flags-are row marks flags flags' p e =
    rw e (flags-insert (rewritten index_words (items row marks)) flags (below-items (length flags) (items row marks) p.enough))
    ∙ ap (λ z. insert_all z (rewritten index_words (items row marks))) (ap (selected 0) p.clear ∙ clear-flags 0 (length flags))

-- n flags that are clear, for indices below n
pub flagging : (row marks : List ℕ) (n : ℕ) → n ≤ 65536 → all_items (item_in 0 n) (items row marks) ≡ true → Flagging row marks (replicate n false)
flagging row marks n few enough = record { clear = rw (length-replicate {A = Bool}) refl; enough = rw (length-replicate {A = Bool}) enough; few = rw (length-replicate {A = Bool}) few }

-- the loops
flags-append : (a b : List ℕ) (fl : List Bool) → flag_all fl (a ++ b) ≡ flag_all (flag_all fl a) b
unfolding flag_all
flags-append [] b fl = refl
flags-append (i ∷ a) b fl = flags-append a b (set fl i true)

pub flags-more : (row marks : List ℕ) (i : ℕ) → i < length row → {x : Item} → x ≡ item_at (drop i row) (drop i marks) → (fl fl' : List Bool) → fl' ≡ flag_all fl (index_words x)
    → flag_all fl (rewritten index_words (items (drop i row) (drop i marks))) ≡ flag_all fl' (rewritten index_words (items (drop (i + size_of x) row) (drop (i + size_of x) marks)))
unfolding rewritten
flags-more row marks i low {x} at fl fl' e = rw (next row marks i low at, flags-append (index_words x), ← e)

pub flags-none : (row marks : List ℕ) (fl : List Bool) (i : ℕ) → length row ≤ i → flag_all fl (rewritten index_words (items (drop i row) (drop i marks))) ≡ fl
unfolding rewritten items flag_all
flags-none row marks fl i h = rw (drop_of_length-le row h)

next-flag : (i : ℕ) (w : Bool) (fl : List Bool) → selected i (w ∷ fl) ≡ flag_words i w ++ selected (suc i) fl
unfolding selected flag_words
next-flag i false fl = refl
next-flag i true fl = refl

pub selected-next : (fl : List Bool) (i : ℕ) → i < length fl → selected i (drop i fl) ≡ flag_words i (get_or fl i false) ++ selected (i + 1) (drop (i + 1) fl)
selected-next fl i h = rw (drop_more fl i false h, next-flag, add-one)

pub selected-none : (fl : List Bool) (i : ℕ) → length fl ≤ i → selected i (drop i fl) ≡ []
unfolding selected
selected-none fl i h = rw (drop_of_length-le fl h)

pub flag-size : (i j : ℕ) (w : Bool) → length (flag_words i w) ≡ length (flag_words j w)
unfolding flag_words
flag-size i j false = refl
flag-size i j true = refl

pub flag_one : (i : ℕ) (w : Bool) → length (flag_words i w) ≤ 1
unfolding flag_words
flag_one i false = omega arith
flag_one i true = omega arith

-- how many flags are set, by one more place
pub flag-number : (i : ℕ) (w : Bool) → bool_byte w ≡ length (flag_words i w)
unfolding flag_words
flag-number i false = refl
flag-number i true = refl

pub count-next : (fl : List Bool) (i n a : ℕ) → i < length fl → a ≡ length (flag_words 0 (get_or fl i false)) → n + length (selected i (drop i fl)) ≡ n + a + length (selected (i + 1) (drop (i + 1) fl))
count-next fl i n a h e = rw (selected-next fl i h, length-append, e, flag-size i 0 (get_or fl i false)) (omega arith)

-- a place with a flag is written, as far as there is room
pub put-place : (out : List ℕ) (n i : ℕ) → set out n i ≡ store out n (flag_words i true)
unfolding flag_words store
put-place out n i = refl

pub put-out : (out : List ℕ) (n i : ℕ) → length out ≤ n → out ≡ store out n (flag_words i true)
put-out out n i l = sym (set_out out n i l) ∙ put-place out n i

pub write-next : (fl : List Bool) (i n a : ℕ) (out out' : List ℕ) → i < length fl → a ≡ n + length (flag_words 0 (get_or fl i false)) → out' ≡ store out n (flag_words i (get_or fl i false))
    → store out n (selected i (drop i fl)) ≡ store out' a (selected (i + 1) (drop (i + 1) fl))
write-next fl i n a out out' h e w = rw (selected-next fl i h, store-append out n (flag_words i (get_or fl i false)), ← w, e, flag-size 0 i (get_or fl i false))

-- the whole call
module _ (row marks : List ℕ) (flags flags' : List Bool) (out : List ℕ) (p : Flagging row marks flags) (e : flags' ≡ flag_all flags (rewritten index_words (items row marks))) (n : ℕ) (c : n ≡ length (selected 0 flags')) where
  set-size : n ≡ length (insert_all [] (rewritten index_words (items row marks)))
  set-size = c ∙ ap length (flags-are row marks flags flags' p e)

  pub set_room : length out < n → set_words row marks (length out) ≡ stop OutputTooShort
  unfolding set_words
  set_room h = rw (← set-size, lt-leb n (length out) h)

  pub set-answers : n ≤ length out → (out' : List ℕ) → out' ≡ store out 0 (selected 0 flags')
      → (Ok n ≡ told (set_words row marks (length out))) × (out' ≡ written (set_words row marks (length out)) out)
  unfolding set_words
  set-answers h out' w =
      rw (← set-size, le-leb n (length out) h, w, flags-are row marks flags flags' p e)
      (ap Ok set-size, stored out (insert_all [] (rewritten index_words (items row marks))) (rw (← set-size) h))

small-range : (k : ℕ) (x : Outer) → small k x ≡ true → in_range 0 65536 k x ≡ true
small-range k (named m) h = refl
small-range k (dangling j) h = let l : k + j ≤ 65535 = between-high 65535 (k + j) h in rw (le-leb 0 j (omega arith), lt-ltb (k + j) 65536 (omega arith))

module _ (row m : List ℕ) (n room : ℕ) (h : length row ≤ n) (x : Checked Either row m n) where
  items-are : items row m ≡ items_of 0 x.form
  items-are = rw (x.marks, x.words) (marked-items x.form n (rw x.words at h))

  pub all_small : all_items (item_in 0 65536) (items row m) ≡ true
  all_small =
      rw (items-are, each-items (item_in 0 65536) (in_range 0 65536) (range-word 0 65536) (range-leaf 0 65536) 0 x.form)
      (each-all small (in_range 0 65536) small-range 0 x.form (ok-small x.ok 0))

  pub dangling-row : set_words row m room ≡ dangling_outcome row room
  unfolding set_words dangling_outcome dangling_set
  dangling-row = rw (le-leb (length row) 8192 x.short, x.is_found, items-are, collect-items index_words index_of index_word index-leaf 0 x.form)

module _ (row : List ℕ) (room : ℕ) where
  pub dangling-long : 8192 < length row → dangling_outcome row room ≡ stop TooLong
  unfolding dangling_outcome
  dangling-long h = rw (lt-leb (length row) 8192 h)

  pub dangling-refused : (r : Answer) (k : Refusal) → r ≡ told (check_outcome Either row) → r ≡ Err k → dangling_outcome row room ≡ stop k
  unfolding dangling_outcome
  dangling-refused r k q e = check-refuses Either row _ r k q e
