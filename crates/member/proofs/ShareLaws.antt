-- The parts that are offered to the places, by the words: the table of places, and the equalities that are written. Assumes nothing.
use mathlib.Core.Path.{◌≡◌, refl, ap, sym, ◌∙◌}
use mathlib.Core.Bool.{Bool, true, false}
use mathlib.Core.List.{List, [], ◌++◌, append-nil}
use mathlib.Core.Option.{Option, none as absent, some}
use Prim.Native.Nat.{ℕ, suc, ◌+◌, ◌-◌, ◌≤◌, ◌<◌}
use native.Mathlib.Omega.{arith}
use borrow.Author.Tests.{ltb-true, eqb-true, eqb-false}
use lib.Dec.{leb, ltb, eqb}
use lib.ListN.{length, get_or, take, drop, set, replicate, get_or-replicate, length-append, length-set, length-drop, length-replicate}
use lib.Seq.{get_or-set_same, get_or-set_other, length-take-le}
use Rattle.tree.specs.Form.{Form, pick, encode, encode_all}
use Rattle.tree.specs.Tag.{expr}
use Rattle.form.specs.Lists.{Place, kept, filled}
use Rattle.reader.specs.declared.lists.Table.{Table}
use Rattle.form.proofs.DecodeLaws.{Ok, clash, decode-encode}
use Rattle.rules.specs.Walk.{lift}
use Rattle.shift.specs.Internal.Items.{items, rewritten, moved_words, store}
use Rattle.rules.proofs.LimitLaws.{ok-small}
use Rattle.shift.proofs.RowLaws.{marked-items}
use Rattle.shift.proofs.ItemLaws.{rewritten-length}
use Rattle.shift.proofs.ShiftLaws.{keeps}
use Rattle.replace.specs.Internal.Pieces.{part}
use Rattle.replace.proofs.ActionLaws.{moved-words, moved-lift}
use Rattle.rules.specs.Replacement.{index_of}
use Rattle.rules.specs.Split.{equal}
use Rattle.rules.specs.Partial.{no_places}
use Rattle.rules.specs.Member.{is_free}
use Rattle.places.specs.Internal.Sides.{index_words}
use Rattle.places.specs.Internal.Wrote.{Wrote}
use Rattle.places.specs.Internal.Positions.{Beside, MarkedAt, both_pairs, parts_at, part_words, Within, form_marks}
use Rattle.std.specs.Prelude.{Option as Maybe, Some, None}
use Rattle.member.specs.Internal.Member.{Shares, shares, keep_part, spot_at, share, equalities, PlacedAt, PlaceIs, TableIs, no_table, with_place, spot_in, shifted_words, Shared}
use Rattle.places.specs.declared.sides.Sides.{Sides}
use Rattle.places.proofs.SidesLaws.{as_index, index_is, part-words}
use Rattle.places.proofs.WroteLaws.{wrote-end, wrote_on, wrote-equal, nothing_written, put-wrote, part-long}
use Rattle.places.proofs.PartsLaws.{PartIs, part_of, beside-in, marked-part}
use Rattle.places.proofs.StepLaws.{left_is, middle-is, right_is, end_is, rest-is, part_in}

-- an empty table
pub no-table : (row lm : List ℕ) (n : ℕ) (t : Table) → n ≤ 32 → t ≡ no_table n → TableIs row lm n t (no_places n)
no-table row lm n t few e = rw e (record { number = refl; count = length-replicate n kept; words = refl; starts = refl; ends = refl; at = at; inside = inside })
  where
    at : (i : ℕ) → i < n → PlaceIs row lm (get_or (replicate 32 0) i 0) (get_or (replicate 32 0) i 0) (get_or (replicate 32 0) i 0) (get_or (no_places n) i kept)
    at i h = rw (get_or-replicate {A = Place} n i kept kept h) (get_or-replicate {A = ℕ} 32 i 0 0 (omega arith))

    inside : (i : ℕ) → i < n → (get_or {A = ℕ} (replicate 32 0) i 0 ≤ get_or {A = ℕ} (replicate 32 0) i 0) × (get_or {A = ℕ} (replicate 32 0) i 0 ≤ length row)
    inside i h = rw (get_or-replicate {A = ℕ} 32 i 0 0 (omega arith)) (omega arith, omega arith)

-- a place filled
module _ {row lm : List ℕ} {n : ℕ} {t : Table} {ps : List Place} (is : TableIs row lm n t ps) (few : n ≤ 32) (j : ℕ) (low : j < n) (s e : ℕ) (f : Form) (here : PlacedAt row lm s e f) (up : s ≤ e) (in_row : e ≤ length row) where
  filled_at : (i : ℕ) → i < n → (b : Bool) → eqb i j ≡ b → PlaceIs row lm (get_or (set t.words j 1) i 0) (get_or (set t.starts j s) i 0) (get_or (set t.ends j e) i 0) (get_or (set ps j (filled f)) i kept)
  filled_at i h true q =
      let k = is.words in
      let l = is.starts in
      let m = is.ends in
      let c = is.count in
      rw (
        eqb-true i j q,
        get_or-set_same t.words j 1 0 (omega arith),
        get_or-set_same t.starts j s 0 (omega arith),
        get_or-set_same t.ends j e 0 (omega arith),
        get_or-set_same ps j (filled f) kept (omega arith),
      ) (refl, here)
  filled_at i h false q =
      let ne = eqb-false i j q in
      rw (
        get_or-set_other t.words j i 1 0 ne,
        get_or-set_other t.starts j i s 0 ne,
        get_or-set_other t.ends j i e 0 ne,
        get_or-set_other ps j i (filled f) kept ne,
      ) (is.at i h)

  filled_in : (i : ℕ) → i < n → (b : Bool) → eqb i j ≡ b → (get_or (set t.starts j s) i 0 ≤ get_or (set t.ends j e) i 0) × (get_or (set t.ends j e) i 0 ≤ length row)
  filled_in i h true q =
      let l = is.starts in
      let m = is.ends in
      rw (eqb-true i j q, get_or-set_same t.starts j s 0 (omega arith), get_or-set_same t.ends j e 0 (omega arith)) (up, in_row)
  filled_in i h false q =
      let ne = eqb-false i j q in
      rw (get_or-set_other t.starts j i s 0 ne, get_or-set_other t.ends j i e 0 ne) (is.inside i h)

  pub table_filled : TableIs row lm n (with_place t j s e) (set ps j (filled f))
  table_filled =
      record {
        number = is.number;
        count = length-set ps j (filled f) ∙ is.count;
        words = length-set t.words j 1 ∙ is.words;
        starts = length-set t.starts j s ∙ is.starts;
        ends = length-set t.ends j e ∙ is.ends;
        at = λ i h. filled_at i h (eqb i j) refl;
        inside = λ i h. filled_in i h (eqb i j) refl;
      }

-- the free place that an index names
word-free : (row lm : List ℕ) (w s e : ℕ) (p : Place) → PlaceIs row lm w s e p → eqb w 0 ≡ is_free p
word-free row lm w s e kept h = rw h
word-free row lm w s e (filled f) h = rw h.0

spot-by : {row lm : List ℕ} {n : ℕ} {t : Table} {ps : List Place} → TableIs row lm n t ps → (x : Option ℕ) → spot_in t (as_index x) ≡ spot_at n ps x
spot-by is absent = refl
spot-by {row} {lm} {n} {t} {ps} is (some i) = rw is.number (go (ltb i n) refl)
  where
    go : (b : Bool) → ltb i n ≡ b → pick b (pick (eqb (get_or t.words (n - 1 - i) 0) 0) (Some (n - 1 - i)) None) None ≡ pick b (pick (is_free (get_or ps (n - 1 - i) kept)) (Some (n - 1 - i)) None) None
    go true h =
        let l : i < n = ltb-true i n h in
        rw (word-free row lm (get_or t.words (n - 1 - i) 0) (get_or t.starts (n - 1 - i) 0) (get_or t.ends (n - 1 - i) 0) (get_or ps (n - 1 - i) kept) (is.at (n - 1 - i) (omega arith)))
    go false h = refl

pub spot_is : {row lm : List ℕ} {n : ℕ} {t : Table} {ps : List Place} → TableIs row lm n t ps → {d : ℕ} (l : Form) → Ok d expr l → (p : ℕ) (x : List ℕ) → drop p row ≡ encode l ++ x → (j : Maybe ℕ) → j ≡ spot_in t (index_words (drop p row))
    → j ≡ spot_at n ps (index_of l)
spot_is is l ok p x w j e = e ∙ rw (w, index_is ok x) (spot-by is (index_of l))

pub spot-low : (n : ℕ) (ps : List Place) (x : Option ℕ) (j : ℕ) → spot_at n ps x ≡ Some j → j < n
spot-low n ps absent j e = absurd (clash cc)
spot-low n ps (some i) j e = go (ltb i n) refl (is_free (get_or ps (n - 1 - i) kept)) e
  where
    go : (b : Bool) → ltb i n ≡ b → (f : Bool) → pick b (pick f (Some (n - 1 - i)) None) None ≡ Some j → j < n
    go true h true e = let l = ltb-true i n h in let q : n - 1 - i ≡ j = cc in omega arith
    go true h false e = absurd (clash cc)
    go false h f e = absurd (clash cc)

pub spot_low : (t : Table) (x : Maybe ℕ) (j : ℕ) → spot_in t x ≡ Some j → j < t.n
spot_low t None j e = absurd (clash cc)
spot_low t (Some i) j e = go (ltb i t.n) refl (eqb (get_or t.words (t.n - 1 - i) 0) 0) e
  where
    go : (b : Bool) → ltb i t.n ≡ b → (f : Bool) → pick b (pick f (Some (t.n - 1 - i)) None) None ≡ Some j → j < t.n
    go true h true e = let l = ltb-true i t.n h in let q : t.n - 1 - i ≡ j = cc in omega arith
    go true h false e = absurd (clash cc)
    go false h f e = absurd (clash cc)

-- a shifted part written
module _ (row lm : List ℕ) (u : ℕ) (s : Sides) (within : Within row s) (marked : length row ≤ length lm) where
  abbrev moved_part : List ℕ
  moved_part = rewritten (moved_words u 0) (items (part s.right s.end row) (part s.right s.end lm))

  pub moved-long : length moved_part ≡ s.end - s.right
  unfolding part
  moved-long =
      let a = within.right-up in
      let b = within.right-in in
      let d = length-drop s.right row in
      rewritten-length (moved_words u 0) (keeps u 0) (part s.right s.end row) (part s.right s.end lm) ∙ length-take-le (s.end - s.right) (drop s.right row) (omega arith)

  pub shifted-wrote : (pos : ℕ) (out out₁ out₂ : List ℕ) → pos + 1 + (s.middle - s.left) + (s.end - s.right) ≤ length out → length out₁ ≡ length out
      → out₁ ≡ pick (leb (pos + 1 + length (take (s.middle - s.left) (drop s.left row))) (length (set out pos 101))) (store (set out pos 101) (pos + 1) (take (s.middle - s.left) (drop s.left row))) (set out pos 101)
      → out₂ ≡ pick (leb (pos + 1 + (s.middle - s.left) + length (take (s.end - s.right) (drop s.right row))) (length out₁)) (store out₁ (pos + 1 + (s.middle - s.left)) (rewritten (moved_words u 0) (items (take (s.end - s.right) (drop s.right row)) (take (s.end - s.right) (drop s.right lm))))) out₁
      → Wrote pos out (shifted_words row lm u s) (pos + 1 + (s.middle - s.left) + (s.end - s.right)) out₂
  unfolding part
  shifted-wrote pos out out₁ out₂ r g w e =
      let mid = pos + 1 + (s.middle - s.left) in
      let l = length-set out pos 101 in
      let k : length (take (s.end - s.right) (drop s.right row)) ≡ length moved_part = part-long row s.right s.end within.right-up within.right-in ∙ sym moved-long in
      let a : Wrote (pos + 1) (set out pos 101) (take (s.middle - s.left) (drop s.left row)) mid out₁ = put-wrote _ (set out pos 101) out₁ (pos + 1) (s.middle - s.left) (part-long row s.left s.middle within.left_up within.left_in) (omega arith) w in
      let v : Wrote mid out₁ moved_part (mid + (s.end - s.right)) out₂ = put-wrote moved_part out₁ out₂ mid (s.end - s.right) moved-long (omega arith) (rw k at e) in
      wrote-equal pos mid (mid + (s.end - s.right)) out (take (s.middle - s.left) (drop s.left row)) out₁ moved_part out₂ 101 (omega arith) a v

-- the next part
module _ (lm : List ℕ) {row : List ℕ} {p q m w k words : ℕ} (x : PartIs row p q m w k words) (s : Sides) (is : s ≡ part_words row p q) (marks : drop q lm ≡ form_marks x.r ++ drop (q + length (encode x.r)) lm) where
  right-words : part s.right s.end row ≡ encode x.r
  unfolding part
  right-words = rw (right_is x s is, end_is x s is) (part-words row (encode x.r) (drop (q + length (encode x.r)) row) q (q + length (encode x.r)) x.words-r refl)

  right-marks : length (form_marks x.r) ≡ length (encode x.r) → part s.right s.end lm ≡ form_marks x.r
  unfolding part
  right-marks h = rw (right_is x s is, end_is x s is) (part-words lm (form_marks x.r) (drop (q + length (encode x.r)) lm) q (q + length (encode x.r)) marks (rw h))

  module _ (long : length (form_marks x.r) ≡ length (encode x.r)) where
    pub placed : PlacedAt row lm s.right s.end x.r
    placed = record { is = rw (right-words, ← append-nil (encode x.r)) (decode-encode x.ok-r []); marked = rw (right-words, right-marks long) }

    pub shifted-words : (u : ℕ) → u ≤ 32 → shifted_words row lm u s ≡ encode (equal x.l (lift u x.r))
    unfolding encode
    shifted-words u h =
        let a : rewritten (moved_words u 0) (items (part s.right s.end row) (part s.right s.end lm)) ≡ encode (lift u x.r)
        = rw (right-words, right-marks long, marked-items x.r (length (encode x.r)) (omega arith), moved-words u 0 x.r, moved-lift u x.r (omega arith) (ok-small x.ok-r 0)) in
        let b : take (s.middle - s.left) (drop s.left row) ≡ encode x.l
        = rw (left_is x s is, middle-is x s is) (part-words row (encode x.l) (drop (p + length (encode x.l)) row) p (p + length (encode x.l)) x.words-l refl) in
        rw (a, b, append-nil)

    -- parts shared out
    module _ (n u : ℕ) (up : u ≤ 32) (ps : List Place) (spot : Maybe ℕ) (at : spot ≡ spot_at n ps (index_of x.l)) where
      abbrev Rest : List (Form × Form)
      Rest = parts_at row s.middle s.end (m - 1)

      pub share-fill : (j : ℕ) → spot ≡ Some j → (out : List ℕ) (t : Table) (e c : ℕ) (o : List ℕ) → Shared row lm n u w out k (share n Rest (set ps j (filled x.r))) t e c o → Shared row lm n u w out k (share n (parts_at row p q m) ps) t e c o
      unfolding share
      share-fill j h out t e c o z = rw (rest-is x s is, ← at, h) z

      share-kept : (out out₁ : List ℕ) (w₁ : ℕ) → Wrote w out (encode (equal x.l (lift u x.r))) w₁ out₁ → (z : Shares) (t : Table) (e c : ℕ) (o : List ℕ) → Shared row lm n u w₁ out₁ (k + 1) z t e c o
          → Shared row lm n u w out k (keep_part (x.l, x.r) z) t e c o
      unfolding Shared encode
      share-kept out out₁ w₁ h (shares qs rs) t e c o (a, b, d) = (a, wrote_on w w₁ e out (encode (equal x.l (lift u x.r))) out₁ (encode_all (equalities u rs)) o h b, omega (arith, d))

      pub share-pass : spot ≡ None → (out out₁ : List ℕ) (w₁ : ℕ) → Wrote w out (shifted_words row lm u s) w₁ out₁ → (t : Table) (e c : ℕ) (o : List ℕ) → Shared row lm n u w₁ out₁ (k + 1) (share n Rest ps) t e c o
          → Shared row lm n u w out k (share n (parts_at row p q m) ps) t e c o
      unfolding share
      share-pass h out out₁ w₁ wr t e c o z = rw (rest-is x s is, ← at, h) (share-kept out out₁ w₁ (rw (shifted-words u up) at wr) (share n Rest ps) t e c o z)

  pub shifted-length : (u : ℕ) → length row ≤ length lm → Within row s → (out out₁ : List ℕ) (w₁ : ℕ) → Wrote w out (shifted_words row lm u s) w₁ out₁ → w₁ ≡ w + 1 + (length (encode x.l) + length (encode x.r))
  shifted-length u mk wi out out₁ w₁ h =
      let e = wrote-end w w₁ out (shifted_words row lm u s) out₁ h in
      let a = moved-long row lm u s wi mk in
      let b = left_is x s is in
      let c = middle-is x s is in
      let d = right_is x s is in
      let f = end_is x s is in
      let g = wi.left_up in
      let i = wi.left_in in
      let v = length-take-le (s.middle - s.left) (drop s.left row) (let z = length-drop s.left row in omega arith) in
      let l : length (shifted_words row lm u s) ≡ suc (length (encode x.l) + length (encode x.r)) = ap suc (length-append (take (s.middle - s.left) (drop s.left row)) (moved_part row lm u s wi mk) ∙ rw (v, a) (omega arith)) in
      omega arith

-- the next part, as the code finds it
pub record NextPart (row lm : List ℕ) (p q m w k room : ℕ) (s : Sides) : Type 0 where
  pub part : PartIs row p q m w k room
  pub low : p < length row
  pub words : drop s.left row ≡ encode part.l ++ drop (p + length (encode part.l)) row
  pub left : s.left ≡ p
  pub middle : s.middle ≡ p + length (encode part.l)
  pub right : s.right ≡ q
  pub end : s.end ≡ q + length (encode part.r)
  pub within : Within row s
  pub marks : drop q lm ≡ form_marks part.r ++ drop (q + length (encode part.r)) lm
  pub rest : MarkedAt row lm s.end (m - 1)

pub next_part : (row lm : List ℕ) (p q m w k words : ℕ) → Beside row p q m w k words → 0 < m → both_pairs row p q ≡ false → MarkedAt row lm q m → (s : Sides) → s ≡ part_words row p q → NextPart row lm p q m w k words s
next_part row lm p q m w k words b left apart marked s is =
    let x = part_of m b left apart in
    let rest = marked-part row lm m b left marked x in
    record {
      part = x;
      low = let h = beside-in b left in omega arith;
      words = rw (left_is x s is) x.words-l;
      left = left_is x s is;
      middle = middle-is x s is;
      right = right_is x s is;
      end = end_is x s is;
      within = part_in x s is;
      marks = rest.0;
      rest = rw (end_is x s is) rest.1;
    }

-- no parts
pub share-none : (row lm : List ℕ) (n u w k : ℕ) (out : List ℕ) (ps : List Place) (t : Table) (qs : List (Form × Form)) → qs ≡ [] → TableIs row lm n t ps → Shared row lm n u w out k (share n qs ps) t w k out
unfolding Shared share encode
share-none row lm n u w k out ps t qs e h = rw e (h, nothing_written w out, omega arith)
