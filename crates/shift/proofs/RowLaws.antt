-- A form's row and its marks, item by item: the link between the trees and the loops. Assumes nothing.
use Rattle.std.proofs.Common.{◌≡◌, ℕ, zero, suc, ◌+◌, ◌-◌, ◌≤◌, Bool, true, false, ◌&&◌, List, [], ◌∷◌, ◌++◌, length, set, replicate, sym, refl, ap, ◌∙◌, append_assoc, append-nil, add-zero, add_assoc, arith, length-append}
use mathlib.Core.Bool.{and-true}
use native.Mathlib.Nat.{sub-zero}
use lib.ListN.{length-replicate}
use Rattle.tree.specs.Form.{Leaf, free, bound, Form, leaf, node, noted, Decls, undeclared, bare, typed, names_of, Forms, none, more, encode, encode_decls, encode_all}
use Rattle.reader.specs.Internal.Reads.{mark, mark_decls, mark_all}
use Rattle.rules.specs.Walk.{Outer, walk_leaf, walk, walk_decls, walk_all, collect_leaf, collect, each}
use Rattle.shift.specs.Internal.Items.{items, rewritten, all_items}
use Rattle.shift.specs.declared.items.Item.{Item}
use Rattle.shift.specs.declared.items.Item.TheVariants.{Plain, Ident}
use Rattle.rules.proofs.WalkLaws.{each_all, each_decls}

abbrev pub ident_of : ℕ → Leaf → Item
ident_of k (free n) = Ident k 1 n
ident_of k (bound n) = Ident k 2 n

abbrev pub plain : List ℕ → List Item
plain [] = []
plain (w ∷ ws) = Plain w ∷ plain ws

abbrev pub zeros : List ℕ → List ℕ
zeros [] = []
zeros (w ∷ ws) = 0 ∷ zeros ws

-- the items of a form under k declarations, and its marks
unfoldable mutual
  pub items_of : ℕ → Form → List Item
  items_of k (leaf x) = ident_of k x ∷ []
  items_of k (node t o ds ks) = Plain t ∷ (plain o ++ (plain ds ++ items_all (length ds + k) ks))
  items_of k (noted t o ds ks) = Plain t ∷ (plain o ++ (items_decls k ds ++ items_all (length (names_of ds) + k) ks))

  pub items_decls : ℕ → Decls → List Item
  items_decls k undeclared = []
  items_decls k (bare n ds) = Plain n ∷ Plain 0 ∷ items_decls k ds
  items_decls k (typed n f ds) = Plain n ∷ Plain 1 ∷ (items_of k f ++ items_decls k ds)

  pub items_all : ℕ → Forms → List Item
  items_all k none = []
  items_all k (more f fs) = items_of k f ++ items_all k fs

unfoldable mutual
  pub marks_of : ℕ → Form → List ℕ
  marks_of k (leaf x) = suc k ∷ 0 ∷ []
  marks_of k (node t o ds ks) = 0 ∷ (zeros o ++ (zeros ds ++ marks_all (length ds + k) ks))
  marks_of k (noted t o ds ks) = 0 ∷ (zeros o ++ (marks_decls k ds ++ marks_all (length (names_of ds) + k) ks))

  pub marks_decls : ℕ → Decls → List ℕ
  marks_decls k undeclared = []
  marks_decls k (bare n ds) = 0 ∷ 0 ∷ marks_decls k ds
  marks_decls k (typed n f ds) = 0 ∷ 0 ∷ (marks_of k f ++ marks_decls k ds)

  pub marks_all : ℕ → Forms → List ℕ
  marks_all k none = []
  marks_all k (more f fs) = marks_of k f ++ marks_all k fs

pub items-plain : (o r m : List ℕ) → items (o ++ r) (zeros o ++ m) ≡ plain o ++ items r m
unfolding items
items-plain [] r m = refl
items-plain (w ∷ o) r m = ap (λ z. Plain w ∷ z) (items-plain o r m)

mutual
  unfolding items items_of marks_of encode

  pub items-encode : (k : ℕ) (f : Form) (r m : List ℕ) → items (encode f ++ r) (marks_of k f ++ m) ≡ items_of k f ++ items r m
  items-encode k (leaf (free n)) r m = refl
  items-encode k (leaf (bound n)) r m = refl
  items-encode k (node t o ds ks) r m =
      ap (λ z. Plain t ∷ z)
      (rw (
        append_assoc o,
        append_assoc ds,
        append_assoc (zeros o),
        append_assoc (zeros ds),
        append_assoc (plain o),
        append_assoc (plain ds),
        items-plain o,
        items-plain ds,
        items-encode_all (length ds + k) ks r m,
      ))
  items-encode k (noted t o ds ks) r m =
      ap (λ z. Plain t ∷ z)
      (rw (
        append_assoc o,
        append_assoc (encode_decls ds),
        append_assoc (zeros o),
        append_assoc (marks_decls k ds),
        append_assoc (plain o),
        append_assoc (items_decls k ds),
        items-plain o,
        items-encode_decls k ds (encode_all ks ++ r) (marks_all (length (names_of ds) + k) ks ++ m),
        items-encode_all (length (names_of ds) + k) ks r m,
      ))

  pub items-encode_decls : (k : ℕ) (ds : Decls) (r m : List ℕ) → items (encode_decls ds ++ r) (marks_decls k ds ++ m) ≡ items_decls k ds ++ items r m
  items-encode_decls k undeclared r m = refl
  items-encode_decls k (bare n ds) r m = ap (λ z. Plain n ∷ Plain 0 ∷ z) (items-encode_decls k ds r m)
  items-encode_decls k (typed n f ds) r m =
      ap (λ z. Plain n ∷ Plain 1 ∷ z)
      (rw (append_assoc (encode f), append_assoc (marks_of k f), append_assoc (items_of k f), items-encode k f (encode_decls ds ++ r) (marks_decls k ds ++ m), items-encode_decls k ds r m))

  items-encode_all : (k : ℕ) (fs : Forms) (r m : List ℕ) → items (encode_all fs ++ r) (marks_all k fs ++ m) ≡ items_all k fs ++ items r m
  items-encode_all k none r m = refl
  items-encode_all k (more f fs) r m =
      rw (append_assoc (encode f), append_assoc (marks_of k f), append_assoc (items_of k f), items-encode k f (encode_all fs ++ r) (marks_all k fs ++ m), items-encode_all k fs r m)

-- marks made by the walk in a row of zeros
set_at : (a b : List ℕ) (x v : ℕ) → set (a ++ (x ∷ b)) (length a) v ≡ a ++ (v ∷ b)
set_at [] b x v = refl
set_at (y ∷ a) b x v = ap (λ z. y ∷ z) (set_at a b x v)

pub zeros-append : (a b : List ℕ) → zeros (a ++ b) ≡ zeros a ++ zeros b
zeros-append [] b = refl
zeros-append (w ∷ a) b = ap (λ z. 0 ∷ z) (zeros-append a b)

pub zeros-length : (a : List ℕ) → length (zeros a) ≡ length a
zeros-length [] = refl
zeros-length (w ∷ a) = ap suc (zeros-length a)

mutual
  unfolding marks_of encode

  pub marks-length : (k : ℕ) (f : Form) → length (marks_of k f) ≡ length (encode f)
  marks-length k (leaf (free n)) = refl
  marks-length k (leaf (bound n)) = refl
  marks-length k (node t o ds ks) = ap suc (rw (length-append, length-append, length-append o, length-append ds, zeros-length o, zeros-length ds, marks-length_all (length ds + k) ks))
  marks-length k (noted t o ds ks) =
      ap suc (rw (length-append, length-append, length-append o, length-append (encode_decls ds), zeros-length o, marks-length_decls k ds, marks-length_all (length (names_of ds) + k) ks))

  pub marks-length_decls : (k : ℕ) (ds : Decls) → length (marks_decls k ds) ≡ length (encode_decls ds)
  marks-length_decls k undeclared = refl
  marks-length_decls k (bare n ds) = ap (λ z. suc (suc z)) (marks-length_decls k ds)
  marks-length_decls k (typed n f ds) = ap (λ z. suc (suc z)) (rw (length-append, length-append (encode f), marks-length k f, marks-length_decls k ds))

  marks-length_all : (k : ℕ) (fs : Forms) → length (marks_all k fs) ≡ length (encode_all fs)
  marks-length_all k none = refl
  marks-length_all k (more f fs) = rw (length-append, length-append (encode f), marks-length k f, marks-length_all k fs)

mutual
  unfolding mark marks_of encode

  pub mark-zeros : (f : Form) (at k : ℕ) (a b : List ℕ) → length a ≡ at → mark f at k (a ++ (zeros (encode f) ++ b)) ≡ a ++ (marks_of k f ++ b)
  mark-zeros (leaf (free n)) at k a b e = rw (← e) (set_at a (0 ∷ b) 0 (suc k))
  mark-zeros (leaf (bound n)) at k a b e = rw (← e) (set_at a (0 ∷ b) 0 (suc k))
  mark-zeros (node t o ds ks) at k a b e =
      let x : a ++ (zeros (t ∷ (o ++ (ds ++ encode_all ks))) ++ b) ≡ (a ++ (0 ∷ (zeros o ++ zeros ds))) ++ (zeros (encode_all ks) ++ b) = simp (zeros-append, append_assoc) in
      let l : length (a ++ (0 ∷ (zeros o ++ zeros ds))) ≡ at + suc (length o + length ds) = rw (length-append, length-append, zeros-length, zeros-length) (omega arith) in
      rw (x, mark-zeros_all ks (at + suc (length o + length ds)) (length ds + k) (a ++ (0 ∷ (zeros o ++ zeros ds))) b l) (simp append_assoc)
  mark-zeros (noted t o ds ks) at k a b e =
      let x : a ++ (zeros (t ∷ (o ++ (encode_decls ds ++ encode_all ks))) ++ b) ≡ (a ++ (0 ∷ zeros o)) ++ (zeros (encode_decls ds) ++ (zeros (encode_all ks) ++ b)) = simp (zeros-append, append_assoc) in
      let l : length (a ++ (0 ∷ zeros o)) ≡ at + suc (length o) = rw (length-append, zeros-length) (omega arith) in
      let y : (a ++ (0 ∷ zeros o)) ++ (marks_decls k ds ++ (zeros (encode_all ks) ++ b)) ≡ ((a ++ (0 ∷ zeros o)) ++ marks_decls k ds) ++ (zeros (encode_all ks) ++ b) = simp append_assoc in
      let m : length ((a ++ (0 ∷ zeros o)) ++ marks_decls k ds) ≡ at + suc (length o + length (encode_decls ds)) = rw (length-append, marks-length_decls k ds, l) (omega arith) in
      rw (x, mark-zeros_decls ds (at + suc (length o)) k (a ++ (0 ∷ zeros o)) (zeros (encode_all ks) ++ b) l, y, mark-zeros_all ks (at + suc (length o + length (encode_decls ds))) (length (names_of ds) + k) ((a ++ (0 ∷ zeros o)) ++ marks_decls k ds) b m) (simp append_assoc)

  mark-zeros_decls : (ds : Decls) (at k : ℕ) (a b : List ℕ) → length a ≡ at → mark_decls ds at k (a ++ (zeros (encode_decls ds) ++ b)) ≡ a ++ (marks_decls k ds ++ b)
  mark-zeros_decls undeclared at k a b e = refl
  mark-zeros_decls (bare n ds) at k a b e =
      let x : a ++ (0 ∷ 0 ∷ (zeros (encode_decls ds) ++ b)) ≡ (a ++ (0 ∷ 0 ∷ [])) ++ (zeros (encode_decls ds) ++ b) = simp append_assoc in
      let l : length (a ++ (0 ∷ 0 ∷ [])) ≡ at + 2 = rw length-append (omega arith) in
      rw (x, mark-zeros_decls ds (at + 2) k (a ++ (0 ∷ 0 ∷ [])) b l) (simp append_assoc)
  mark-zeros_decls (typed n f ds) at k a b e =
      let x : a ++ (0 ∷ 0 ∷ (zeros (encode f ++ encode_decls ds) ++ b)) ≡ (a ++ (0 ∷ 0 ∷ [])) ++ (zeros (encode f) ++ (zeros (encode_decls ds) ++ b)) = simp (zeros-append, append_assoc) in
      let l : length (a ++ (0 ∷ 0 ∷ [])) ≡ at + 2 = rw length-append (omega arith) in
      let y : (a ++ (0 ∷ 0 ∷ [])) ++ (marks_of k f ++ (zeros (encode_decls ds) ++ b)) ≡ ((a ++ (0 ∷ 0 ∷ [])) ++ marks_of k f) ++ (zeros (encode_decls ds) ++ b) = simp append_assoc in
      let m : length ((a ++ (0 ∷ 0 ∷ [])) ++ marks_of k f) ≡ at + 2 + length (encode f) = rw (length-append, marks-length k f, l) refl in
      rw (x, mark-zeros f (at + 2) k (a ++ (0 ∷ 0 ∷ [])) (zeros (encode_decls ds) ++ b) l, y, mark-zeros_decls ds (at + 2 + length (encode f)) k ((a ++ (0 ∷ 0 ∷ [])) ++ marks_of k f) b m) (simp append_assoc)

  mark-zeros_all : (fs : Forms) (at k : ℕ) (a b : List ℕ) → length a ≡ at → mark_all fs at k (a ++ (zeros (encode_all fs) ++ b)) ≡ a ++ (marks_all k fs ++ b)
  mark-zeros_all none at k a b e = refl
  mark-zeros_all (more f fs) at k a b e =
      let x : a ++ (zeros (encode f ++ encode_all fs) ++ b) ≡ a ++ (zeros (encode f) ++ (zeros (encode_all fs) ++ b)) = simp (zeros-append, append_assoc) in
      let y : a ++ (marks_of k f ++ (zeros (encode_all fs) ++ b)) ≡ (a ++ marks_of k f) ++ (zeros (encode_all fs) ++ b) = simp append_assoc in
      let l : length (a ++ marks_of k f) ≡ at + length (encode f) = rw (length-append, marks-length k f) (omega arith) in
      rw (x, mark-zeros f at k a (zeros (encode_all fs) ++ b) e, y, mark-zeros_all fs (at + length (encode f)) k (a ++ marks_of k f) b l) (simp append_assoc)

pub zeros-replicate : (l : List ℕ) (n : ℕ) → length l ≤ n → replicate n 0 ≡ zeros l ++ replicate (n - length l) 0
zeros-replicate [] n h = rw sub-zero
zeros-replicate (w ∷ l) zero h = absurd (omega arith)
zeros-replicate (w ∷ l) (suc n) h =
    let e : suc n - suc (length l) ≡ n - length l = omega arith in
    rw e (ap (λ z. 0 ∷ z) (zeros-replicate l n (omega arith)))

-- the marks that a reader makes in a row of zeros, under u declarations
pub mark-front : (f : Form) (u n : ℕ) → length (encode f) ≤ n → mark f 0 u (replicate n 0) ≡ marks_of u f ++ replicate (n - length (encode f)) 0
mark-front f u n h = rw (zeros-replicate (encode f) n h) (mark-zeros f 0 u [] (replicate (n - length (encode f)) 0) refl)

pub mark-length : (f : Form) (u n : ℕ) → length (encode f) ≤ n → length (mark f 0 u (replicate n 0)) ≡ n
mark-length f u n h = rw (mark-front f u n h, length-append, marks-length u f, length-replicate) (omega arith)

pub only-mark : (f : Form) → mark f 0 0 (replicate (length (encode f)) 0) ≡ marks_of 0 f
only-mark f =
    let z : length (encode f) - length (encode f) ≡ 0 = omega arith in
    rw (z, append-nil) at (mark-front f 0 (length (encode f)) (omega arith))

-- the items of a form's row with the marks that the walk made
pub marked-items : (f : Form) (n : ℕ) → length (encode f) ≤ n → items (encode f) (mark f 0 0 (replicate n 0)) ≡ items_of 0 f
unfolding items
marked-items f n h =
    let i = items-encode 0 f [] (replicate (n - length (encode f)) 0) in
    rw (mark-front f 0 n h) (rw (append-nil, append-nil) at i)

-- a rewriting of each item is the walk
pub rewritten-append : (g : Item → List ℕ) (a b : List Item) → rewritten g (a ++ b) ≡ rewritten g a ++ rewritten g b
unfolding rewritten
rewritten-append g [] b = refl
rewritten-append g (x ∷ a) b = rw (rewritten-append g a b, append_assoc)

-- a declarations are open round the form that the walk begins with
module _ (a : ℕ) (g : Item → List ℕ) (act : ℕ → Outer → Form) (keep : (w : ℕ) → g (Plain w) ≡ w ∷ []) (does : (k : ℕ) (x : Leaf) → g (ident_of (k + a) x) ≡ encode (walk_leaf act k x)) where
  rewritten-plain : (o : List ℕ) (b : List Item) → rewritten g (plain o ++ b) ≡ o ++ rewritten g b
  unfolding rewritten
  rewritten-plain [] b = refl
  rewritten-plain (w ∷ o) b = rw (keep w, rewritten-plain o b)

  mutual
    unfolding rewritten items_of walk encode

    pub walk-items-in : (k : ℕ) (f : Form) → rewritten g (items_of (k + a) f) ≡ encode (walk act k f)
    walk-items-in k (leaf x) = append-nil (g (ident_of (k + a) x)) ∙ does k x
    walk-items-in k (node t o ds ks) = rw (keep t, rewritten-plain o, rewritten-plain ds, ← add_assoc (length ds) k a, walk-items_all-in (length ds + k) ks)
    walk-items-in k (noted t o ds ks) =
        rw (keep t, rewritten-plain o, rewritten-append g (items_decls (k + a) ds), walk-items_decls-in k ds, ← add_assoc (length (names_of ds)) k a, walk-items_all-in (length (names_of ds) + k) ks)

    walk-items_decls-in : (k : ℕ) (ds : Decls) → rewritten g (items_decls (k + a) ds) ≡ encode_decls (walk_decls act k ds)
    walk-items_decls-in k undeclared = refl
    walk-items_decls-in k (bare n ds) = rw (keep n, keep 0, walk-items_decls-in k ds)
    walk-items_decls-in k (typed n f ds) = rw (keep n, keep 1, rewritten-append g (items_of (k + a) f), walk-items-in k f, walk-items_decls-in k ds)

    walk-items_all-in : (k : ℕ) (fs : Forms) → rewritten g (items_all (k + a) fs) ≡ encode_all (walk_all act k fs)
    walk-items_all-in k none = refl
    walk-items_all-in k (more f fs) = rw (rewritten-append g (items_of (k + a) f) (items_all (k + a) fs), walk-items-in k f, walk-items_all-in k fs)

pub walk-items : (g : Item → List ℕ) (act : ℕ → Outer → Form) → ((w : ℕ) → g (Plain w) ≡ w ∷ []) → ((k : ℕ) (x : Leaf) → g (ident_of k x) ≡ encode (walk_leaf act k x)) → (k : ℕ) (f : Form)
    → rewritten g (items_of k f) ≡ encode (walk act k f)
walk-items g act keep does k f = rw add-zero at (walk-items-in 0 g act keep (λ k x. rw add-zero (does k x)) k f)

-- a test of each item is the test of each outer identifier
and_assoc : (a b c : Bool) → (a && b && c) ≡ (a && (b && c))
and_assoc true b c = refl
and_assoc false b c = refl

all_append : (q : Item → Bool) (a b : List Item) → all_items q (a ++ b) ≡ (all_items q a && all_items q b)
unfolding all_items
all_append q [] b = refl
all_append q (x ∷ a) b = rw (all_append q a b) (sym (and_assoc (q x) (all_items q a) (all_items q b)))

module _ (a : ℕ) (q : Item → Bool) (p : ℕ → Outer → Bool) (keep : (w : ℕ) → q (Plain w) ≡ true) (does : (k : ℕ) (x : Leaf) → q (ident_of (k + a) x) ≡ collect_leaf true p k x) where
  all_plain : (o : List ℕ) (b : List Item) → all_items q (plain o ++ b) ≡ all_items q b
  unfolding all_items
  all_plain [] b = refl
  all_plain (w ∷ o) b = rw (keep w, all_plain o b)

  mutual
    unfolding all_items items_of collect

    pub each-items-in : (k : ℕ) (f : Form) → all_items q (items_of (k + a) f) ≡ each p k f
    each-items-in k (leaf x) = and-true (q (ident_of (k + a) x)) ∙ does k x
    each-items-in k (node t o ds ks) = rw (keep t, all_plain o, all_plain ds, ← add_assoc (length ds) k a, each-items_all-in (length ds + k) ks)
    each-items-in k (noted t o ds ks) =
        rw (keep t, all_plain o, all_append q (items_decls (k + a) ds), each-items_decls-in k ds, ← add_assoc (length (names_of ds)) k a, each-items_all-in (length (names_of ds) + k) ks)

    each-items_decls-in : (k : ℕ) (ds : Decls) → all_items q (items_decls (k + a) ds) ≡ each_decls p k ds
    each-items_decls-in k undeclared = refl
    each-items_decls-in k (bare n ds) = rw (keep n, keep 0, each-items_decls-in k ds)
    each-items_decls-in k (typed n f ds) = rw (keep n, keep 1, all_append q (items_of (k + a) f), each-items-in k f, each-items_decls-in k ds)

    each-items_all-in : (k : ℕ) (fs : Forms) → all_items q (items_all (k + a) fs) ≡ each_all p k fs
    each-items_all-in k none = refl
    each-items_all-in k (more f fs) = rw (all_append q (items_of (k + a) f) (items_all (k + a) fs), each-items-in k f, each-items_all-in k fs)

pub each-items : (q : Item → Bool) (p : ℕ → Outer → Bool) → ((w : ℕ) → q (Plain w) ≡ true) → ((k : ℕ) (x : Leaf) → q (ident_of k x) ≡ collect_leaf true p k x) → (k : ℕ) (f : Form)
    → all_items q (items_of k f) ≡ each p k f
each-items q p keep does k f = rw add-zero at (each-items-in 0 q p keep (λ k x. rw add-zero (does k x)) k f)
