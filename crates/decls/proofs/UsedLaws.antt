-- Which declarations the words of a form or of annotations use, as on the tree. Assumes nothing.
use mathlib.Core.Path.{◌≡◌, refl, ap, sym, ◌∙◌}
use mathlib.Core.Bool.{true, ◌&&◌, and-true}
use mathlib.Core.List.{List, [], ◌++◌, append-nil}
use Prim.Native.Nat.{ℕ, ◌+◌, ◌-◌, ◌≤◌}
use native.Mathlib.Nat.{zero-add, le_refl}
use native.Mathlib.Omega.{arith}
use borrow.Author.Tests.{lt-ltb, le-ltb}
use lib.ListN.{length, drop, length-append, length-drop}
use lib.Seq.{take_at}
use Rattle.tree.specs.Form.{Leaf, free, bound, Form, noted, Decls, none, encode, encode_decls}
use Rattle.rules.specs.Walk.{Binding, inside, outside, binding, collect, collect_index, collect_leaf}
use Rattle.rules.specs.Prune.{is_not, unused}
use Rattle.rules.proofs.WalkLaws.{binding-inside, binding-back, each_decls}
use Rattle.shift.specs.Internal.Items.{items, all_items, apart}
use Rattle.shift.specs.declared.items.Item.TheVariants.{Plain, Ident}
use Rattle.shift.proofs.RowLaws.{ident_of, items_of, items_decls, marks_of, marks_decls, marks-length_decls, each-items-in, items-encode_decls}
use Rattle.shift.proofs.WordwiseLaws.{apart-encode}
use Rattle.replace.specs.Internal.Pieces.{part}
use Rattle.decls.specs.Internal.Used.{not_index, cleared, cleared_by, cleared_in}
use Rattle.decls.proofs.ClearLaws.{cleared-items, cleared-by, clears-is}

-- an index that a form never uses, as the code tests it
not-here : (n j k i : ℕ) (z : Binding) → binding k i ≡ z → not_index n j (Ident (k + n) 2 i) ≡ collect_index true (is_not j) k z
unfolding not_index
not-here n j k i inside q =
    let e : k + n - n ≡ k = omega arith in
    rw (e, lt-ltb i k (binding-inside k i q))
not-here n j k i (outside m) q =
    let e : k + n - n ≡ k = omega arith in
    let d : k + m - k ≡ m = omega arith in
    rw (← binding-back k i m q, e, le-ltb (k + m) k (omega arith), d)

not-leaf : (n j k : ℕ) (x : Leaf) → not_index n j (ident_of (k + n) x) ≡ collect_leaf true (is_not j) k x
unfolding not_index
not-leaf n j k (free m) = refl
not-leaf n j k (bound i) = not-here n j k i (binding k i) refl

not_plain : (n j w : ℕ) → not_index n j (Plain w) ≡ true
unfolding not_index
not_plain n j w = refl

pub unused-items : (n j : ℕ) (f : Form) → all_items (not_index n j) (items_of n f) ≡ unused j f
unused-items n j f = rw zero-add at (each-items-in n (not_index n j) (is_not j) (not_plain n j) (not-leaf n j) 0 f)

-- the annotations of declarations, as those of a form with no words of its own
abbrev notes_only : Decls → Form
notes_only ds = noted 0 [] ds none

pub unused-decls : (n j : ℕ) (ds : Decls) → all_items (not_index n j) (items_decls n ds) ≡ each_decls (is_not j) 0 ds
unfolding not_index all_items items_of collect
unused-decls n j ds =
    let e : all_items (not_index n j) (items_decls n ds ++ []) ≡ (each_decls (is_not j) 0 ds && true) = unused-items n j (notes_only ds) in
    rw (append-nil, and-true (each_decls (is_not j) 0 ds)) at e

apart-decls : (n : ℕ) (ds : Decls) → apart n (encode_decls ds) (marks_decls n ds) ≡ true
unfolding apart encode marks_of
apart-decls n ds = rw (append-nil, append-nil, append-nil, append-nil) at (apart-encode n n (notes_only ds) [] [] (le_refl n))

items-decls : (n : ℕ) (ds : Decls) → items (encode_decls ds) (marks_decls n ds) ≡ items_decls n ds
unfolding items
items-decls n ds = rw (append-nil, append-nil, append-nil) at (items-encode_decls n ds [] [])

-- what clearing by a part of a row leaves, and by the annotations of declarations under n others
module _ (n : ℕ) (row marks : List ℕ) (start end : ℕ) (words : List ℕ) (long : end ≤ length row) (marked : end ≤ length marks) (count : length words ≡ n + 1) where
  pub clears-items : apart n (part start end row) (part start end marks) ≡ true → cleared_in n row marks start end words ≡ cleared n (drop 1 words) (items (part start end row) (part start end marks))
  clears-items a = clears-is n row marks start end words long marked count ∙ cleared-items n (drop 1 words) (part start end row) (part start end marks) a

  pub clears-decls : (ds : Decls) → part start end row ≡ encode_decls ds → part start end marks ≡ marks_decls n ds → cleared_in n row marks start end words ≡ cleared_by (λ i. each_decls (is_not i) 0 ds) (drop 1 words)
  clears-decls ds e m =
      clears-items (rw (e, m) (apart-decls n ds))
      ∙ rw (e, m, items-decls n ds) (cleared-by n (drop 1 words) (items_decls n ds) (λ i. each_decls (is_not i) 0 ds) (λ i. unused-decls n i ds))

-- where they stand in a row
pub part-at : (row ws r : List ℕ) (start end : ℕ) → drop start row ≡ ws ++ r → end ≡ start + length ws → part start end row ≡ ws
unfolding part
part-at row ws r start end e h =
    let k : end - start ≡ length ws = omega arith in
    rw (k, e) (take_at ws r (length ws) refl)

pub part_in : (row ws r : List ℕ) (start end : ℕ) → start ≤ length row → drop start row ≡ ws ++ r → end ≡ start + length ws → end ≤ length row
part_in row ws r start end h e k =
    let l = length-drop start row in
    let a = ap length e ∙ length-append ws r in
    omega arith

pub clears-notes : (n : ℕ) (row marks : List ℕ) (start end : ℕ) (words : List ℕ) → length words ≡ n + 1 → (ds : Decls) (r m : List ℕ) → start ≤ length row → start ≤ length marks
    → drop start row ≡ encode_decls ds ++ r → drop start marks ≡ marks_decls n ds ++ m → end ≡ start + length (encode_decls ds)
    → cleared_in n row marks start end words ≡ cleared_by (λ i. each_decls (is_not i) 0 ds) (drop 1 words)
clears-notes n row marks start end words count ds r m a b e f k =
    let j : end ≡ start + length (marks_decls n ds) = k ∙ ap (λ z. start + z) (sym (marks-length_decls n ds)) in
    clears-decls n row marks start end words (part_in row (encode_decls ds) r start end a e k) (part_in marks (marks_decls n ds) m start end b f j) count ds
    (part-at row (encode_decls ds) r start end e k) (part-at marks (marks_decls n ds) m start end f j)
