-- The rule of Places on the words of a row is the rule on trees. Assumes nothing.
use mathlib.Core.Path.{◌≡◌, refl}
use mathlib.Core.Bool.{Bool, true, false, ◌&&◌}
use mathlib.Core.Option.{Option, none as absent, some}
use mathlib.Core.List.{List, [], ◌∷◌, ◌++◌}
use Prim.Native.Nat.{ℕ, suc, ◌+◌, ◌-◌, ◌≤◌, ◌<◌}
use native.Mathlib.Numerals.{add-one}
use native.Mathlib.Omega.{arith}
use borrow.Author.Tests.{ne_eqb, eq-eqb, lt-ltb, le-ltb, lt-leb}
use lib.Dec.{ltb}
use lib.ListN.{length, get_or, take, drop, replicate}
use lib.Seq.{take-append_seam}
use Rattle.tree.specs.Form.{Form, pick, encode, encode_decls, encode_all}
use Rattle.tree.specs.Tag.{Sort, expr}
use Rattle.form.specs.Decode.{Got, got, no-form, is_leaf, decode, Whole, one, not-one, row_form, found, missing, as_sort, form_of}
use Rattle.reader.specs.Internal.Reads.{mark, Told, decode_in}
use Rattle.form.specs.declared.answer.Kind.TheVariants.{Expression}
use Rattle.form.proofs.DecodeLaws.{clash, Ok, ok-free, ok-bound, ok-node, ok-noted, flags-node}
use Rattle.form.proofs.RowLaws.{row-encode}
use Rattle.reader.proofs.ReaderLaws.{in-decode}
use Rattle.rules.specs.Shift.{reaches}
use Rattle.shift.specs.Internal.Items.{items, all_items, item_in}
use Rattle.shift.proofs.RowLaws.{marked-items, each-items}
use Rattle.rules.proofs.WalkLaws.{each-agree}
use Rattle.rules.proofs.LimitLaws.{small, ok-small}
use Rattle.shift.proofs.ShiftLaws.{in_range, range-leaf, range-word, down-range}
use Rattle.shift.proofs.CheckedLaws.{Checked}
use Rattle.rules.specs.Replacement.{left, right, Offer, offer, no-offer, index_of, offer_of, offered, above}
use Rattle.places.specs.Internal.Positions.{end_at}
use Rattle.places.specs.Internal.Sides.{sides_from, equality_words, index_words, left_for, right_for, replace_by, replacement_words, above_whole, above_words}
use Rattle.std.specs.Prelude.{Option as Maybe, Some, None}
use Rattle.places.specs.declared.sides.Sides.{Sides}
use Rattle.places.specs.declared.sides.Replacement.{Replacement}

pub told-ends : (at u : ℕ) (g : Got) (a b : List ℕ) (r : Maybe ℕ) → Told at u g a b r → r ≡ end_at at g
unfolding Told end_at
told-ends at u (got f x) a b r t = t.0
told-ends at u no-form a b r t = t

pub told-plain : (at d u : ℕ) (s : Sort) (ws a b : List ℕ) (r : Maybe ℕ) → d ≤ 65 → u ≤ 65535 → Told at u (decode_in d u s ws) a b r → Told at u (decode d s ws) a b r
told-plain at d u s ws a b r deep few t = rw (in-decode s ws d u (omega arith) few) at t

pub skip_is : (at d : ℕ) (s : Sort) (ws : List ℕ) (r : Maybe ℕ) → d ≤ 64 → r ≡ end_at at (decode_in d 0 s ws) → r ≡ end_at at (decode d s ws)
skip_is at d s ws r h e = rw (in-decode s ws d 0 (omega arith) (omega arith)) at e

-- the equality that is the whole row
pub equality-empty : (row : List ℕ) → length row ≡ 0 → None ≡ equality_words row
unfolding equality_words
equality-empty [] h = refl
equality-empty (t ∷ ws) h = absurd (omega arith)

module _ (row : List ℕ) (some_words : length row ≡ 0 → ⊥) where
  pub equality-other : (get_or row 0 0 ≡ 101 → ⊥) → None ≡ equality_words row
  unfolding equality_words
  equality-other h = go row some_words h
    where
      go : (row : List ℕ) → (length row ≡ 0 → ⊥) → (get_or row 0 0 ≡ 101 → ⊥) → None ≡ equality_words row
      go [] s h = absurd (s refl)
      go (t ∷ ws) s h = rw (ne_eqb t 101 h)

  pub equality-is : (r : Maybe ℕ) → get_or row 0 0 ≡ 101 → r ≡ end_at 1 (decode 63 expr (drop 1 row)) → sides_from (length row) r ≡ equality_words row
  unfolding equality_words
  equality-is r h e = go row some_words h e
    where
      go : (row : List ℕ) → (length row ≡ 0 → ⊥) → get_or row 0 0 ≡ 101 → r ≡ end_at 1 (decode 63 expr (drop 1 row)) → sides_from (length row) r ≡ equality_words row
      go [] s h e = absurd (s refl)
      go (t ∷ ws) s h e = rw (eq-eqb t 101 h, ← e)

-- the index at the front of an expression
abbrev pub as_index : Option ℕ → Maybe ℕ
as_index (some i) = Some i
as_index absent = None

pub not-index : (t : ℕ) (ws : List ℕ) → (t ≡ 2 → ⊥) → index_words (t ∷ ws) ≡ None
unfolding index_words
not-index t [] h = refl
not-index t (i ∷ ws) h = rw (ne_eqb t 2 h)

not_leaf : (t : ℕ) → is_leaf t ≡ false → t ≡ 2 → ⊥
not_leaf t h e = let z : is_leaf 2 ≡ false = rw e at h in clash cc

pub index_is : {d : ℕ} {f : Form} → Ok d expr f → (x : List ℕ) → index_words (encode f ++ x) ≡ as_index (index_of f)
unfolding index_words encode
index_is (ok-free e) x = refl
index_is (ok-bound e) x = refl
index_is (ok-node {t = t} {o = o} {ds = ds} {ks = ks} l h k) x = not-index t ((o ++ (ds ++ encode_all ks)) ++ x) (not_leaf t l)
index_is (ok-noted {t = t} {o = o} {ds = ds} {ks = ks} a h v k) x = not-index t ((o ++ (encode_decls ds ++ encode_all ks)) ++ x) (not_leaf t (flags-node expr t (o ++ []) o _ _ _ [] (h [])))

abbrev pub placed : Sides → Offer → Maybe Replacement
placed s (offer i left) = Some (left_for s i)
placed s (offer i right) = Some (right_for s i)
placed s no-offer = None

place-by : (s : Sides) (a b : Option ℕ) → replace_by s (as_index a) (as_index b) ≡ placed s (offer_of a b)
place-by s (some i) (some j) = go (ltb i j)
  where
    go : (b : Bool) → pick b (Some (right_for s i)) (Some (left_for s j)) ≡ placed s (pick b (offer i right) (offer j left))
    go true = refl
    go false = refl
place-by s absent (some j) = refl
place-by s (some i) absent = refl
place-by s absent absent = refl

pub rule-words : {d : ℕ} (s : Sides) (row : List ℕ) (l r : Form) (x y : List ℕ) → Ok d expr l → Ok d expr r → drop s.left row ≡ encode l ++ x → drop s.right row ≡ encode r ++ y
    → replacement_words s row ≡ placed s (offered l r)
unfolding replacement_words
rule-words s row l r x y h k a b = rw (a, b, index_is h x, index_is k y) (place-by s (index_of l) (index_of r))

-- dangling indices above the target
pub above-words : (i : ℕ) (f : Form) → Ok 64 expr f → length (encode f) ≤ 8192 → above_words i (encode f) ≡ above i f
unfolding above_words
above-words i f h l = rw (row-encode h l)

above-items : (i n : ℕ) (s : Sort) (f : Form) → Ok 64 s f → length (encode f) ≤ n → all_items (item_in (suc i) 65536) (items (encode f) (mark f 0 0 (replicate n 0))) ≡ above i f
above-items i n s f h l =
    rw (marked-items f n l, each-items (item_in (suc i) 65536) (in_range (suc i) 65536) (range-word (suc i) 65536) (range-leaf (suc i) 65536) 0 f)
    (each-agree small (in_range (suc i) 65536) (reaches (suc i)) (down-range (suc i)) 0 f (ok-small h 0))

found-expr : (row : List ℕ) (s : Sort) (f : Form) → form_of Expression row ≡ found s f → row_form expr row ≡ one f
unfolding form_of
found-expr row s f e = go (row_form expr row) e
  where
    go : (w : Whole) → as_sort expr w ≡ found s f → w ≡ one f
    go (one g) e = cc
    go not-one e = absurd (clash cc)

pub above-marked : (i n : ℕ) (row m : List ℕ) → length row ≤ n → Checked Expression row m n → all_items (item_in (i + 1) 65536) (items row m) ≡ above_words i row
unfolding above_words
above-marked i n row m l x =
    let e : row_form expr row ≡ one x.form = found-expr row x.sort x.form x.is_found in
    let w : row ≡ encode x.form = x.words in
    let k : length (encode x.form) ≤ n = rw w at l in
    rw (e, add-one, w, x.marks) (above-items i n x.sort x.form x.ok k)

pub above-missing : (i : ℕ) (row : List ℕ) → form_of Expression row ≡ missing → false ≡ above_words i row
unfolding above_words form_of
above-missing i row e = go (row_form expr row) e
  where
    go : (w : Whole) → as_sort expr w ≡ missing → false ≡ above_whole i w
    go (one g) e = absurd (clash cc)
    go not-one e = refl

pub above-long : (i : ℕ) (row : List ℕ) → 8192 < length row → false ≡ above_words i row
unfolding above_words row_form
above-long i row h = rw (lt-leb (length row) 8192 h)

-- the same of a target that is one of at most 32 declarations
pub above_low : (i : ℕ) (row : List ℕ) (r : Bool) → i < 32 → r ≡ above_words i row → r ≡ (ltb i 32 && above_words i row)
above_low i row r h e = rw (lt-ltb i 32 h) e

pub above-is : (i : ℕ) (row : List ℕ) (r : Bool) → r ≡ (ltb i 32 && above_words i row) → i < 32 → r ≡ above_words i row
above-is i row r e h = rw (lt-ltb i 32 h) at e

-- the words of a part
pub part-words : (row ws x : List ℕ) (s e : ℕ) → drop s row ≡ ws ++ x → e ≡ s + length ws → take (e - s) (drop s row) ≡ ws
part-words row ws x s e a b =
    let n : e - s ≡ length ws = omega arith in
    rw (n, a) (take-append_seam ws x)

-- what a reader of the whole row tells
module _ (u : ℕ) (f : Form) (g : Got) (x a b : List ℕ) (r : Maybe ℕ) (e : g ≡ got f x) (h : Told 0 u g a b r) where
  pub told-marks : b ≡ mark f 0 u a
  unfolding Told
  told-marks = (rw e at h).1

  pub told-not-bad : r ≡ None → ⊥
  unfolding Told
  told-not-bad q = let z = (rw e at h).0 in clash cc
