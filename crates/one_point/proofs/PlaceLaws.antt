-- One point after the scan: the place that is filled, the rest of the body, and the whole call. Assumes nothing.
use mathlib.Core.Path.{◌≡◌, refl, ap, sym, ◌∙◌}
use mathlib.Core.Bool.{Bool, true, false}
use mathlib.Core.List.{List, [], ◌∷◌, ◌++◌, append-nil, map}
use Prim.Native.Nat.{ℕ, zero, suc, ◌+◌, ◌-◌, ◌≤◌, ◌<◌}
use native.Mathlib.Nat.{zero-add}
use native.Mathlib.Omega.{arith}
use borrow.Author.Tests.{lt-ltb, le-ltb, ltb-true}
use lib.Dec.{eqb, ltb}
use lib.ListN.{length, get_or, take, drop, set, replicate, length-map, get_or-replicate}
use lib.Seq.{drop-length}
use Rattle.tree.specs.Form.{Form, pick, encode}
use Rattle.tree.specs.Tag.{expr, pred}
use Rattle.form.specs.Decode.{Got, got, no-form, decode}
use Rattle.form.specs.Answer.{finish}
use Rattle.reader.specs.Internal.Reads.{mark, decode_in}
use Rattle.form.proofs.DecodeLaws.{clash, Ok, decode-encode, decode-sound}
use Rattle.shift.specs.Internal.Items.{items}
use Rattle.shift.proofs.RowLaws.{items_of, marks_of, mark-front}
use Rattle.replace.specs.Internal.Pieces.{part as part_of, are_names, Leaves, InRow, Ready, down_plan, depth_left}
use Rattle.rules.proofs.OkLaws.{ok-deep}
use Rattle.replace.proofs.InsideLaws.{Small}
use Rattle.replace.proofs.SmallLaws.{small-form, leaves}
use Rattle.replace.specs.Internal.Partial.{partial_row}
use Rattle.one_point.specs.Internal.Reduce.{is_quantifier, operator_in, decls_in, one_table, placed_form, placed_outcome, Placing, Marking, Shallow, is_got, is_sure, RestMarking, is_simple, target_of, named_row, Putting}
use Rattle.one_point.specs.Internal.Marks.{raise_mark, CanRaise}
use Rattle.one_point.proofs.RaiseLaws.{raised-are, marks-raise}
use Rattle.places.specs.Internal.Positions.{end_at, Cleared}
use Rattle.one_point.proofs.ScanLaws.{ends_at, ends-not}
use Rattle.places.proofs.PartsLaws.{some_words}
use Rattle.one_point.proofs.HeadedLaws.{head-count, plain-count, simple-plain}
use Rattle.rules.specs.Fill.{unnoted}
use Rattle.rules.specs.Replacement.{above}
use Rattle.one_point.proofs.PartialLaws.{first-filled, part-items}
use Rattle.one_point.proofs.InsidePoint.{Fitting, point-row}
use Rattle.reader.specs.declared.lists.Table.{Table}
use Rattle.replace.proofs.BuildLaws.{rest_part}
use Rattle.std.specs.Prelude.{Some, None, Option, is_some}

-- the word of an emptied body
pub first_word : (l : List ℕ) (w : ℕ) → 1 ≤ length l → take 1 (set l 0 w) ≡ w ∷ []
first_word [] w h = absurd (omega arith)
first_word (x ∷ l) w h = refl

-- a whole row that is one form
module _ (row : List ℕ) (f : Form) where
  pub whole-pred : (d : ℕ) → decode d pred row ≡ got f [] → (row ≡ encode f) × Ok d pred f
  whole-pred d e = let s = decode-sound d pred row f [] e in (s.0 ∙ append-nil (encode f), s.1)

  pub whole-expr : decode 63 expr row ≡ got f [] → (row ≡ encode f) × Ok 63 expr f
  whole-expr e = let s = decode-sound 63 expr row f [] e in (s.0 ∙ append-nil (encode f), s.1)

pub row-all : (row ws : List ℕ) → row ≡ ws → row ≡ ws ++ drop (length row) row
row-all row ws e = e ∙ (sym (append-nil ws) ∙ ap (λ (z : List ℕ). ws ++ z) (sym (drop-length row)))

-- a table of which the first place is filled by a whole row
module _ (n : ℕ) (few : n ≤ 32) (part pm : List ℕ) (marked : length part ≤ length pm) where
  one_inside : InRow (down_plan (one_table n (length part)) n) (length part)
  unfolding InRow
  one_inside i h = rw (get_or-replicate {A = ℕ} 32 i 0 0 (omega arith), get_or-replicate {A = ℕ} 32 i (length part) 0 (omega arith)) (omega arith, omega arith)

  pub one-ready : Ready (down_plan (one_table n (length part)) n) part pm
  one-ready = record { tabled = record { few = few; words = refl; starts = refl; ends = refl }; in_row = one_inside; marked = marked }

-- the declarations behind one, as a part of the names
pub rest-same : (sure : Bool) (t : ℕ) (ns : List ℕ) (p : ℕ) (tb : Table) (d : ℕ) (part pm row marks : List ℕ) (room : ℕ)
    → partial_row sure t (take p ns) (take (length ns - (p + 1)) (drop (p + 1) ns)) tb d part pm row marks room ≡ partial_row sure t (take p ns) (drop (p + 1) ns) tb d part pm row marks room
rest-same sure t ns p tb d part pm row marks room = rw (rest_part ns (p + 1))

-- the marks of a replacement
pub marking-of : (part pm pm' : List ℕ) (f : Form) → Cleared part pm → decode 63 expr part ≡ got f [] → pm' ≡ mark f 0 0 pm → length pm' ≡ length pm → Marking part pm'
marking-of part pm pm' f h is m l = record { enough = let e = h.enough in omega arith; are = λ g q. go g (sym q ∙ is) }
  where
    go : (g : Form) → ◌≡◌ {A = Got} (got g []) (got f []) → pm' ≡ mark g 0 0 (replicate (length pm') 0)
    go g e =
        let k : g ≡ f = cc in
        m ∙ (ap (λ (z : List ℕ). mark f 0 0 z) (h.zeros ∙ ap (λ (n : ℕ). replicate n 0) (sym l)) ∙ ap (λ (z : Form). mark z 0 0 (replicate (length pm') 0)) (sym k))

-- a replacement that leaves the rest so deep
module _ (part : List ℕ) (f : Form) (is : decode 63 expr part ≡ got f []) (g : Form) where
  part_small : (m : ℕ) → m ≤ 62 → Leaves part (64 - m) → Small m f
  part_small m h x =
      let (w, o) = whole-expr part f is in
      let q : 65 - (64 - m) ≡ suc m = omega arith in
      small-form m f (ok-deep o 64 (omega arith)) (omega arith) (rw (← w, ← q) (x.deep (omega arith))) (rw (← w) (x.words (omega arith)))

  pub fitting : (r : ℕ) → 0 < r → r ≤ 63 → Leaves part (r + 1) → Ok r pred g → Fitting f g
  fitting zero h n x o = absurd (omega arith)
  fitting (suc r) h n x o =
      let q : suc r + 1 ≡ 64 - (63 - suc r) = omega arith in
      record { over = 63 - suc r; deep = suc r; small = part_small (63 - suc r) (omega arith) (rw (← q) x); ok = o; sum = omega arith }

-- a part that is sure to stay within the limits in the rest
module _ (part rest : List ℕ) (f g : Form) (is-part : decode 63 expr part ≡ got f []) (is-rest : decode 63 pred rest ≡ got g []) where
  fits-at : (r : ℕ) → r < depth_left part → 0 < r → Ok r pred g → Fitting f g
  fits-at r l h ok =
      let x = leaves part (depth_left part) refl in
      let m = x.most in
      let q : depth_left part - 1 + 1 ≡ depth_left part = omega arith in
      fitting part f is-part g (depth_left part - 1) (omega arith) (omega arith) (rw q x) (ok-deep ok (depth_left part - 1) (omega arith))

  read_at : (r : ℕ) → (0 < r → r < depth_left part) → (h : Got) → decode r pred rest ≡ h → is_got h ≡ true → Fitting f g
  unfolding decode
  read_at zero l (got k x) e i = absurd (clash cc)
  read_at zero l no-form e i = absurd (clash cc)
  read_at (suc r) l (got k x) e i =
      let m = (leaves part (depth_left part) refl).most in
      let b = l (omega arith) in
      let (w, o) = decode-sound (suc r) pred rest k x e in
      let c : got k x ≡ got g [] = sym (decode-encode (ok-deep o 63 (omega arith)) x) ∙ (ap (decode 63 pred) (sym w) ∙ is-rest) in
      let z : k ≡ g = cc in
      fits-at (suc r) (l (omega arith)) (omega arith) (rw z at o)
  read_at (suc r) l no-form e i = absurd (clash cc)

  pub sure-fitting : (d : ℕ) → Shallow d rest → is_sure d part rest ≡ true → Fitting f g
  unfolding is_sure
  sure-fitting d s e = go (ltb d (depth_left part)) refl e
    where
      go : (b : Bool) → ltb d (depth_left part) ≡ b → pick b true (is_got (decode (depth_left part - 1) pred rest)) ≡ true → Fitting f g
      go true q e = fits-at d (ltb-true d (depth_left part) q) s.some (whole-pred rest g d (s.same g is-rest)).1
      go false q e = read_at (depth_left part - 1) (λ h. omega arith) (decode (depth_left part - 1) pred rest) refl e

-- how the code finds it out
module _ (d : ℕ) (part rest : List ℕ) (r : ℕ) (is : r ≡ depth_left part) where
  pub sure-deep : d < r → true ≡ is_sure d part rest
  unfolding is_sure
  sure-deep h = rw (lt-ltb d (depth_left part) (rw is at h)) refl

  module _ (n : r ≤ d) where
    sure-by : (b : Bool) → b ≡ is_got (decode (r - 1) pred rest) → b ≡ is_sure d part rest
    unfolding is_sure
    sure-by b e = rw (le-ltb d (depth_left part) (rw is at n), ← is) e

    pub sure-none : r ≡ 0 → false ≡ is_sure d part rest
    unfolding decode
    sure-none z = sure-by false (rw z refl)

    module _ (s : Option ℕ) (e : s ≡ end_at 0 (decode_in (r - 1) 0 pred rest)) where
      most : r - 1 ≤ 64
      most = let x = (leaves part r is).most in omega arith

      pub sure-read : is_some s ≡ is_sure d part rest
      sure-read = go s refl
        where
          go : (o : Option ℕ) → s ≡ o → is_some o ≡ is_sure d part rest
          go (Some p) q = sure-by true (sym (ap is_got (ends_at rest (r - 1) pred 0 most s e p q).is))
          go None q = sure-by false (sym (ap is_got (ends-not rest (r - 1) pred 0 most s e q)))

-- the place p of names filled in the rest
module _ (t : ℕ) (which : is_quantifier t ≡ true) (ns : List ℕ) (names : are_names ns ≡ true) (few : length ns ≤ 32) (i : ℕ) (low : i < length ns) (part rest : List ℕ) (by form : Form) (is-part : decode 63 expr part ≡ got by [])
    (up : above i by ≡ true) (is-rest : decode 63 pred rest ≡ got form []) (pm : List ℕ) (k : Marking part pm) (marks : List ℕ) (is : marks ≡ mark form 0 (suc i) (replicate (length rest) 0))
    (bare : eqb (get_or rest 0 0) (t + 10) ≡ false) where
  pub named-row : (sure : Bool) → (sure ≡ true → Fitting by form) → (p : ℕ) → p + suc i ≡ length ns → (room : ℕ) → named_row sure t ns p part pm rest marks room ≡ finish pred room (placed_form t (map unnoted ns) i by form)
  named-row sure inside p e room =
      let w = whole-pred rest form 63 is-rest in
      let v = whole-expr part by is-part in
      let a : p ≡ length ns - suc i = omega arith in
      let b : length ns - (length ns - suc i) ≡ suc i = omega arith in
      let l : length rest ≡ length (encode form) = ap length w.0 in
      let m : marks ≡ marks_of (suc i) form ++ replicate (length rest - length (encode form)) 0 = is ∙ mark-front form (suc i) (length rest) (omega arith) in
      let there : items (part_of 0 (length part) part) (part_of 0 (length part) pm) ≡ items_of 0 by
      = part-items by part pm 0 (length part) (length pm) (ap length v.0 ∙ sym (zero-add (length (encode by)))) (row-all part (encode by) v.0) k.enough (k.are by is-part) in
      let c : eqb (get_or (encode form) 0 0) (t + 10) ≡ false = rw (← w.0) bare in
      rw (a, b, length-map ns unnoted)
      (ap (λ (r : List ℕ). partial_row sure t (take (length ns - suc i) ns) (drop (length ns - suc i + 1) ns) (one_table (suc i) (length part)) (suc i) part pm r marks room) w.0
      ∙ point-row t which ns i by low few (one_table (suc i) (length part)) part pm refl (first-filled 32 i (omega arith)) there v.1 up form w.1 marks (replicate (length rest - length (encode form)) 0) m names (one-ready (suc i) (omega arith) part pm k.enough) c sure inside room)

-- the target's place filled in the rest
module _ (head : List ℕ) (i : ℕ) (part rest : List ℕ) (h : Placing head i part rest) where
  -- the marks of the rest, raised
  rest-long : length (encode h.form) ≡ length rest
  rest-long = ap length (sym (whole-pred rest h.form 63 h.is-rest).0)

  module _ (ms : List ℕ) (m : RestMarking rest ms) where
    pub can-raise : CanRaise (i + 1) ms
    can-raise =
        let l = h.long in
        let f = h.heading.few in
        let q = h.target in
        marks-raise h.form (i + 1) (length ms) ms (rest-long ∙ sym m.long) (let k = m.long in omega arith) (omega arith) (m.are h.form h.is-rest)

    pub raised-rest : (ms' : List ℕ) → ms' ≡ map (raise_mark (i + 1)) ms → ms' ≡ mark h.form 0 (suc i) (replicate (length rest) 0)
    raised-rest ms' e =
        let o : i + 1 ≡ suc i = omega arith in
        rw (o, m.long) at (raised-are h.form (i + 1) (length ms) ms ms' (rest-long ∙ sym m.long) (m.are h.form h.is-rest) e)

  pub outcome-is : (room : ℕ) → placed_outcome (operator_in head) (decls_in head) i part rest room ≡ finish pred room (placed_form (operator_in head) (decls_in head) i h.by h.form)
  unfolding placed_outcome
  outcome-is room = rw (h.is-part, h.is-rest)

  -- the place that the code finds
  module _ (p : ℕ) (e : p ≡ get_or head 1 0 - 1 - i) where
    pub place-there : p + suc i ≡ length (decls_in head)
    place-there = let q = h.target in let c = head-count head h.heading in omega arith

    pub target_is : target_of head p ≡ i
    target_is = let q = h.target in let c = head-count head h.heading in omega arith

    module _ (pm : List ℕ) (k : Marking part pm) (marks : List ℕ) (is : marks ≡ mark h.form 0 (suc i) (replicate (length rest) 0)) where
      abbrev pub putting : Putting head p part pm rest marks
      putting = record { index = i; place = place-there; placing = h; marking = k; marked = is }

-- the first word of a rest
pub rest-word : (head : List ℕ) (p : ℕ) (part pm body marks : List ℕ) (h : Putting head p part pm body marks) → 0 < length body
rest-word head p part pm body marks h = rw (whole-pred body h.placing.form 63 h.placing.is-rest).0 (some_words h.placing.form)

-- the place of a name
pub named-place : (head : List ℕ) (p : ℕ) (part pm body marks : List ℕ) (h : Putting head p part pm body marks) → is_simple head body ≡ true → (p < length (take (length head - 2) (drop 2 head))) × (length (take (length head - 2) (drop 2 head)) ≤ 32)
named-place head p part pm body marks h s =
    let c = plain-count head h.placing.heading (simple-plain head body s) in
    let f = h.placing.heading.few in
    let q = h.place in
    rw (rest_part head 2) (omega arith, omega arith)
