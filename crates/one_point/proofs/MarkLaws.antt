-- The marks of what is left of a body, made where its words are written: where they begin, what they leave alone, and how they move. Assumes
-- nothing.
use mathlib.Core.Path.{◌≡◌, refl, ap, sym, ◌∙◌}
use mathlib.Core.Bool.{Bool, true, false, ◌&&◌}
use mathlib.Core.Option.{Option, none as absent, some}
use mathlib.Core.List.{List, [], ◌∷◌, ◌++◌, append_assoc, append-nil}
use Prim.Native.Nat.{ℕ, zero, suc, ◌+◌, ◌-◌, ◌≤◌}
use native.Mathlib.Nat.{add-zero, zero-add, add_assoc}
use native.Mathlib.Omega.{arith}
use lib.ListN.{length, get_or, take, drop, set, replicate, length-append, length-drop, length-set, take-append-drop, drop_of_length-le}
use lib.Dec.{leb}
use lib.Seq.{drop-set-lt, drop-drop, drop_at, take_at, length-take-le, set_at}
use Rattle.tree.specs.Form.{Form, leaf, node, noted, Decls, undeclared, bare, typed, names_of, Forms, none, more, free, bound, pick, encode, encode_decls, encode_all}
use Rattle.tree.specs.Tag.{pred}
use Rattle.form.specs.Decode.{Got, got, no-form, decode}
use Rattle.reader.specs.Internal.Reads.{mark, mark_decls, mark_all, Told, decode_in}
use Rattle.form.proofs.DecodeLaws.{clash, decode-sound}
use Rattle.form.proofs.HeadLaws.{here, gone}
use Rattle.reader.proofs.ReaderLaws.{no_word, in-decode}
use Rattle.shift.proofs.RowLaws.{zeros, marks_of, zeros-replicate, marks-length, mark-zeros, mark-front}
use Rattle.rules.specs.Replacement.{nothing}
use Rattle.rules.specs.Scan.{Scan, scanned}
use Rattle.replace.proofs.BuildLaws.{rest_part}
use Rattle.places.specs.Internal.Positions.{end_at}
use Rattle.places.specs.Internal.Wrote.{Wrote}
use Rattle.one_point.specs.Internal.Writes.{left_words}
use Rattle.one_point.specs.Internal.Marks.{left_of, mark_left, ClearFrom, MarksTold}
use Rattle.std.specs.Prelude.{Some, None, Option as Maybe}

-- marks keep the number of words, and leave those alone that follow
mutual
  unfolding mark encode

  pub mark-long : (f : Form) (at u : ℕ) (ms : List ℕ) → length (mark f at u ms) ≡ length ms
  mark-long (leaf x) at u ms = length-set ms at (suc u)
  mark-long (node t o ds ks) at u ms = mark-long_all ks (at + suc (length o + length ds)) (length ds + u) ms
  mark-long (noted t o ds ks) at u ms =
      mark-long_all ks (at + suc (length o + length (encode_decls ds))) (length (names_of ds) + u) (mark_decls ds (at + suc (length o)) u ms) ∙ mark-long_decls ds (at + suc (length o)) u ms

  mark-long_decls : (ds : Decls) (at u : ℕ) (ms : List ℕ) → length (mark_decls ds at u ms) ≡ length ms
  mark-long_decls undeclared at u ms = refl
  mark-long_decls (bare n ds) at u ms = mark-long_decls ds (at + 2) u ms
  mark-long_decls (typed n f ds) at u ms = mark-long_decls ds (at + 2 + length (encode f)) u (mark f (at + 2) u ms) ∙ mark-long f (at + 2) u ms

  pub mark-long_all : (fs : Forms) (at u : ℕ) (ms : List ℕ) → length (mark_all fs at u ms) ≡ length ms
  mark-long_all none at u ms = refl
  mark-long_all (more f fs) at u ms = mark-long_all fs (at + length (encode f)) u (mark f at u ms) ∙ mark-long f at u ms

mutual
  unfolding mark encode

  pub mark-behind : (f : Form) (at u q : ℕ) (ms : List ℕ) → at + length (encode f) ≤ q → drop q (mark f at u ms) ≡ drop q ms
  mark-behind (leaf (free n)) at u q ms h = drop-set-lt q ms at (suc u) (omega arith)
  mark-behind (leaf (bound n)) at u q ms h = drop-set-lt q ms at (suc u) (omega arith)
  mark-behind (node t o ds ks) at u q ms h =
      let a = length-append o (ds ++ encode_all ks) in
      let b = length-append ds (encode_all ks) in
      mark-behind_all ks (at + suc (length o + length ds)) (length ds + u) q ms (omega arith)
  mark-behind (noted t o ds ks) at u q ms h =
      let a = length-append o (encode_decls ds ++ encode_all ks) in
      let b = length-append (encode_decls ds) (encode_all ks) in
      mark-behind_all ks (at + suc (length o + length (encode_decls ds))) (length (names_of ds) + u) q (mark_decls ds (at + suc (length o)) u ms) (omega arith) ∙ mark-behind_decls ds (at + suc (length o)) u q ms (omega arith)

  mark-behind_decls : (ds : Decls) (at u q : ℕ) (ms : List ℕ) → at + length (encode_decls ds) ≤ q → drop q (mark_decls ds at u ms) ≡ drop q ms
  mark-behind_decls undeclared at u q ms h = refl
  mark-behind_decls (bare n ds) at u q ms h = mark-behind_decls ds (at + 2) u q ms (omega arith)
  mark-behind_decls (typed n f ds) at u q ms h =
      let a = length-append (encode f) (encode_decls ds) in
      mark-behind_decls ds (at + 2 + length (encode f)) u q (mark f (at + 2) u ms) (omega arith) ∙ mark-behind f (at + 2) u q ms (omega arith)

  pub mark-behind_all : (fs : Forms) (at u q : ℕ) (ms : List ℕ) → at + length (encode_all fs) ≤ q → drop q (mark_all fs at u ms) ≡ drop q ms
  mark-behind_all none at u q ms h = refl
  mark-behind_all (more f fs) at u q ms h =
      let a = length-append (encode f) (encode_all fs) in
      mark-behind_all fs (at + length (encode f)) u q (mark f at u ms) (omega arith) ∙ mark-behind f at u q ms (omega arith)

-- marks made in a part of the row, which begins at pos
set_after : (a b : List ℕ) (i v : ℕ) → set (a ++ b) (length a + i) v ≡ a ++ set b i v
set_after [] b i v = rw zero-add
set_after (x ∷ a) b i v =
    let e : suc (length a) + i ≡ suc (length a + i) = omega arith in
    rw e (ap (λ z. x ∷ z) (set_after a b i v))

module _ (a b : List ℕ) where
  mutual
    unfolding mark

    mark-after : (f : Form) (i u : ℕ) (c : List ℕ) → mark f (length a + i) u (a ++ c) ≡ a ++ mark f i u c
    mark-after (leaf x) i u c = set_after a c i (suc u)
    mark-after (node t o ds ks) i u c = rw (add_assoc (length a) i (suc (length o + length ds))) (mark-after_all ks (i + suc (length o + length ds)) (length ds + u) c)
    mark-after (noted t o ds ks) i u c =
        rw (add_assoc (length a) i (suc (length o + length (encode_decls ds))), add_assoc (length a) i (suc (length o)), mark-after_decls ds (i + suc (length o)) u c)
        (mark-after_all ks (i + suc (length o + length (encode_decls ds))) (length (names_of ds) + u) (mark_decls ds (i + suc (length o)) u c))

    mark-after_decls : (ds : Decls) (i u : ℕ) (c : List ℕ) → mark_decls ds (length a + i) u (a ++ c) ≡ a ++ mark_decls ds i u c
    mark-after_decls undeclared i u c = refl
    mark-after_decls (bare n ds) i u c = rw (add_assoc (length a) i 2) (mark-after_decls ds (i + 2) u c)
    mark-after_decls (typed n f ds) i u c =
        rw (add_assoc (length a) i 2, mark-after f (i + 2) u c, add_assoc (length a) (i + 2) (length (encode f))) (mark-after_decls ds (i + 2 + length (encode f)) u (mark f (i + 2) u c))

    mark-after_all : (fs : Forms) (i u : ℕ) (c : List ℕ) → mark_all fs (length a + i) u (a ++ c) ≡ a ++ mark_all fs i u c
    mark-after_all none i u c = refl
    mark-after_all (more f fs) i u c = rw (mark-after f i u c, add_assoc (length a) i (length (encode f))) (mark-after_all fs (i + length (encode f)) u (mark f i u c))

pub mark-part : (f : Form) (pos u : ℕ) (ms : List ℕ) → pos ≤ length ms → take pos ms ++ mark f 0 u (drop pos ms) ≡ mark f pos u ms
mark-part f pos u ms h =
    let l : length (take pos ms) ≡ pos = length-take-le pos ms h in
    let e = mark-after (take pos ms) [] f 0 u (drop pos ms) in
    sym (rw (l, add-zero, take-append-drop) at e)

-- words that are not marked
drop-replicate : (i n : ℕ) → drop i (replicate {A = ℕ} n 0) ≡ replicate (n - i) 0
drop-replicate zero n = let e : n - 0 ≡ n = omega arith in rw e refl
drop-replicate (suc i) zero = let e : 0 - suc i ≡ 0 = omega arith in rw e refl
drop-replicate (suc i) (suc n) = let e : suc n - suc i ≡ n - i = omega arith in rw e (drop-replicate i n)

pub clear_later : (p q : ℕ) (ms : List ℕ) → p ≤ q → ClearFrom p ms → ClearFrom q ms
clear_later p q ms h c =
    let e : p + (q - p) ≡ q = omega arith in
    let n : length ms - p - (q - p) ≡ length ms - q = omega arith in
    rw (e, n) at (sym (drop-drop (q - p) p ms) ∙ (ap (drop (q - p)) c ∙ drop-replicate (q - p) (length ms - p)))

pub all-clear : (ms : List ℕ) → ms ≡ replicate (length ms) 0 → ClearFrom 0 ms
all-clear ms e = let z : length ms - 0 ≡ length ms = omega arith in rw z e

pub clear-after : (f : Form) (pos end : ℕ) (ms ms' : List ℕ) → ClearFrom pos ms → end ≡ pos + length (encode f) → ms' ≡ mark f pos 0 ms → ClearFrom end ms'
clear-after f pos end ms ms' c e m =
    let k = clear_later pos end ms (omega arith) c in
    rw m (mark-behind f pos 0 end ms (omega arith) ∙ (k ∙ ap (λ n. replicate (n - end) 0) (sym (mark-long f pos 0 ms))))

pub clear-left : (g : Option Form) (pos end : ℕ) (ms ms' : List ℕ) → ClearFrom pos ms → end ≡ pos + length (left_words g) → ms' ≡ mark_left g pos ms → ClearFrom end ms'
clear-left (some f) pos end ms ms' c e m = clear-after f pos end ms ms' c e m
clear-left absent pos end ms ms' c e m = let z : end ≡ pos = omega arith in rw (z, m) c

-- marks moved down by two words
set-two : (p q : List ℕ) (x y n : ℕ) → length p ≡ n → set (set (p ++ (x ∷ y ∷ q)) n 0) (n + 1) 0 ≡ p ++ (0 ∷ 0 ∷ q)
set-two p q x y n l =
    let m : length (p ++ (0 ∷ [])) ≡ n + 1 = rw (length-append, l) in
    let g : p ++ (0 ∷ y ∷ q) ≡ (p ++ (0 ∷ [])) ++ (y ∷ q) = simp append_assoc in
    rw (set_at p x (y ∷ q) 0 n l, g, set_at (p ++ (0 ∷ [])) y q 0 (n + 1) m, append_assoc)

module _ (f : Form) (pos end : ℕ) (ms m : List ℕ) (clear : ClearFrom pos ms) (ends : end ≡ pos + 2 + length (encode f)) (fits : end ≤ length m) (is : m ≡ mark f (pos + 2) 0 ms) where
  abbrev front : List ℕ
  front = take pos ms

  long : length m ≡ length ms
  long = ap length is ∙ mark-long f (pos + 2) 0 ms

  front_long : length front ≡ pos
  front_long = let l = long in length-take-le pos ms (omega arith)

  abbrev behind : ℕ
  behind = length ms - end

  -- the row as its front, words of the form, two words and the rest
  split-low : ms ≡ front ++ (zeros (encode f) ++ (0 ∷ 0 ∷ replicate behind 0))
  split-low =
      let l = long in
      let z = zeros-replicate (encode f) (length ms - pos) (omega arith) in
      let n : length ms - pos - length (encode f) ≡ suc (suc behind) = omega arith in
      sym (take-append-drop pos ms) ∙ ap (λ (w : List ℕ). front ++ w) (clear ∙ rw n at z)

  split-high : ms ≡ (front ++ (0 ∷ 0 ∷ [])) ++ (zeros (encode f) ++ replicate behind 0)
  split-high =
      let l = long in
      let z = zeros-replicate (encode f) (length ms - pos - 2) (omega arith) in
      let n : length ms - pos - 2 - length (encode f) ≡ behind = omega arith in
      let k : length ms - pos ≡ suc (suc (length ms - pos - 2)) = omega arith in
      sym (take-append-drop pos ms) ∙ (ap (λ (w : List ℕ). front ++ w) (clear ∙ rw k (ap (λ (w : List ℕ). 0 ∷ 0 ∷ w) (rw n at z))) ∙ sym (append_assoc front (0 ∷ 0 ∷ []) (zeros (encode f) ++ replicate behind 0)))

  low-is : mark f pos 0 ms ≡ front ++ (marks_of 0 f ++ (0 ∷ 0 ∷ replicate behind 0))
  low-is = ap (mark f pos 0) split-low ∙ mark-zeros f pos 0 front (0 ∷ 0 ∷ replicate behind 0) front_long

  head-long : length (front ++ (0 ∷ 0 ∷ [])) ≡ pos + 2
  head-long = rw (length-append, front_long)

  high_is : m ≡ (front ++ (0 ∷ 0 ∷ [])) ++ (marks_of 0 f ++ replicate behind 0)
  high_is = is ∙ (ap (mark f (pos + 2) 0) split-high ∙ mark-zeros f (pos + 2) 0 (front ++ (0 ∷ 0 ∷ [])) (replicate behind 0) head-long)

  marks-there : take (end - (pos + 2)) (drop (pos + 2) m) ≡ marks_of 0 f
  marks-there =
      let n : length (marks_of 0 f) ≡ end - (pos + 2) = marks-length 0 f ∙ omega arith in
      rw (high_is, drop_at (front ++ (0 ∷ 0 ∷ [])) (marks_of 0 f ++ replicate behind 0) (pos + 2) head-long) (take_at (marks_of 0 f) (replicate behind 0) (end - (pos + 2)) n)

  front-there : take pos m ≡ front
  front-there = ap (take pos) (high_is ∙ append_assoc front (0 ∷ 0 ∷ []) (marks_of 0 f ++ replicate behind 0)) ∙ take_at front _ pos front_long

  rest-there : drop end m ≡ replicate behind 0
  rest-there =
      let n = marks-length 0 f in
      let k : length ((front ++ (0 ∷ 0 ∷ [])) ++ marks_of 0 f) ≡ end = rw (length-append, head-long) (omega arith) in
      ap (drop end) (high_is ∙ sym (append_assoc (front ++ (0 ∷ 0 ∷ [])) (marks_of 0 f) (replicate behind 0))) ∙ drop_at ((front ++ (0 ∷ 0 ∷ [])) ++ marks_of 0 f) (replicate behind 0) end k

  module _ (r : ℕ) (m₁ : List ℕ) (w : Wrote pos m (take (end - (pos + 2)) (drop (pos + 2) m)) r m₁) (d : drop end m₁ ≡ drop end m) (l : length m₁ ≡ length m) where
    abbrev there : List ℕ
    there = front ++ marks_of 0 f

    end_is : r ≡ pos + length (marks_of 0 f)
    unfolding Wrote
    end_is = rw marks-there at w.0

    there-long : length there ≡ r
    there-long = rw (length-append, front_long) (sym end_is)

    two-more : r + 1 + 1 ≡ end
    two-more = let e = end_is in let n = marks-length 0 f in omega arith

    moved-split : m₁ ≡ there ++ (get_or m₁ r 0 ∷ get_or m₁ (r + 1) 0 ∷ replicate behind 0)
    unfolding Wrote
    moved-split =
        let b = two-more in
        let t : take r m₁ ≡ there = rw (marks-there, front-there) at w.1 in
        let x : drop r m₁ ≡ get_or m₁ r 0 ∷ get_or m₁ (r + 1) 0 ∷ replicate behind 0 = rw (here m₁ r (omega arith), here m₁ (r + 1) (omega arith), b, d, rest-there) in
        sym (take-append-drop r m₁) ∙ rw (t, x)

    pub moved_marks : set (set m₁ r 0) (r + 1) 0 ≡ mark f pos 0 ms
    moved_marks =
        ap (λ z. set (set z r 0) (r + 1) 0) moved-split
        ∙ (set-two there (replicate behind 0) (get_or m₁ r 0) (get_or m₁ (r + 1) 0) r there-long ∙ (append_assoc front (marks_of 0 f) (0 ∷ 0 ∷ replicate behind 0) ∙ sym low-is))

-- the marks of a form at the start of a longer row
pub front-marks : (f : Form) (n k : ℕ) → length (encode f) ≡ n → n ≤ k → take n (mark f 0 0 (replicate k 0)) ≡ mark f 0 0 (replicate n 0)
front-marks f n k l h =
    let z : n - length (encode f) ≡ 0 = omega arith in
    let a : mark f 0 0 (replicate n 0) ≡ marks_of 0 f = rw (z, append-nil) at (mark-front f 0 n (omega arith)) in
    rw (a, mark-front f 0 k (omega arith)) (take_at (marks_of 0 f) (replicate (k - length (encode f)) 0) n (marks-length 0 f ∙ l))

-- a predicate read in a part of the row, with its marks in a part of theirs
module _ (row : List ℕ) (at d pos : ℕ) (marks ys b : List ℕ) (r : Maybe ℕ) (low : pos ≤ length marks) (over : b ≡ [])
    (t : Told 0 0 (decode_in d 0 pred (take (length row - at) (drop at row))) (take (length marks - pos) (drop pos marks)) ys r) where
  abbrev there-is : Got
  there-is = decode_in d 0 pred (drop at row)

  told-there : Told 0 0 there-is (drop pos marks) ys r
  told-there = rw (rest_part row at, rest_part marks pos) at t

  pub slice-end : (q : ℕ) → r ≡ Some q → Some (at + q) ≡ end_at at there-is
  unfolding Told end_at
  slice-end q e = go there-is told-there
    where
      go : (g : Got) → Told 0 0 g (drop pos marks) ys r → Some (at + q) ≡ end_at at g
      go (got f x) u = let z : q ≡ 0 + length (encode f) = cc u.0 in ap Some (omega arith)
      go no-form u = absurd (clash cc)

  pub slice-bad : r ≡ None → None ≡ end_at at there-is
  unfolding Told end_at
  slice-bad e = go there-is told-there
    where
      go : (g : Got) → Told 0 0 g (drop pos marks) ys r → None ≡ end_at at g
      go (got f x) u = let z = u.0 in absurd (clash cc)
      go no-form u = refl

  pub slice-marks : MarksTold (λ f. scanned nothing (some f)) pos there-is marks (take pos marks ++ (ys ++ b))
  unfolding Told MarksTold
  slice-marks = go there-is told-there
    where
      go : (g : Got) → Told 0 0 g (drop pos marks) ys r → MarksTold (λ f. scanned nothing (some f)) pos g marks (take pos marks ++ (ys ++ b))
      go (got f x) u = rw (over, append-nil, u.1) (mark-part f pos 0 marks low)
      go no-form u = tt

  pub slice_in : at ≤ length row → (q : ℕ) → r ≡ Some q → at + q ≤ length row
  unfolding Told decode_in
  slice_in h q e = go (leb d 65535 && leb 0 65535) told-there
    where
      by : (g : Got) → decode d pred (drop at row) ≡ g → Told 0 0 g (drop pos marks) ys r → at + q ≤ length row
      by (got f x) k u =
          let z : q ≡ 0 + length (encode f) = cc u.0 in
          let w = ap length (decode-sound d pred (drop at row) f x k).0 ∙ length-append (encode f) x in
          let l = length-drop at row in
          omega arith
      by no-form k u = absurd (clash cc)

      go : (c : Bool) → Told 0 0 (pick c (decode d pred (drop at row)) no-form) (drop pos marks) ys r → at + q ≤ length row
      go true u = by (decode d pred (drop at row)) refl u
      go false u = absurd (clash cc)

pub past_row : (row : List ℕ) (d at : ℕ) → length row ≤ at → decode_in d 0 pred (drop at row) ≡ no-form
unfolding decode_in
past_row row d at h = rw (gone row at h, no_word d pred) (go (leb d 65535 && leb 0 65535))
  where
    go : (c : Bool) → pick c no-form no-form ≡ no-form
    go true = refl
    go false = refl

-- what is told of marks where nothing is read, and where something is
module _ (z : Form → Scan) (pos : ℕ) (a b : List ℕ) where
  pub no-marks : (g : Got) → g ≡ no-form → MarksTold z pos g a b
  unfolding MarksTold
  no-marks g e = rw e tt

  pub tell-marks : (g : Got) (f : Form) (x : List ℕ) → g ≡ got f x → b ≡ mark_left (left_of (z f)) pos a → MarksTold z pos g a b
  unfolding MarksTold
  tell-marks g f x e m = rw e m

  pub marks-told : (g : Got) (f : Form) (x : List ℕ) → g ≡ got f x → MarksTold z pos g a b → b ≡ mark_left (left_of (z f)) pos a
  unfolding MarksTold
  marks-told g f x e m = rw e at m

  pub plain-marks : (d : ℕ) (ws : List ℕ) → d ≤ 65 → MarksTold z pos (decode_in d 0 pred ws) a b → MarksTold z pos (decode d pred ws) a b
  plain-marks d ws h m = rw (in-decode pred ws d 0 (omega arith) (omega arith)) at m

pub bad-end : (at : ℕ) → None ≡ end_at at no-form
unfolding end_at
bad-end at = refl

pub rest-none : (l : List ℕ) (p : ℕ) → drop (length l - p) (drop p l) ≡ []
rest-none l p = let e = length-drop p l in drop_of_length-le (drop p l) {i = length l - p} (omega arith)
