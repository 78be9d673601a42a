-- A predicate read from its children, what a scan tells of it, and the bounds that follow. Assumes nothing.
use mathlib.Core.Path.{◌≡◌, refl, ap, ◌∙◌}
use mathlib.Core.Bool.{true, false}
use mathlib.Core.List.{List, [], ◌∷◌, append-nil}
use Prim.Native.Nat.{ℕ, zero, suc, ◌+◌, ◌-◌, ◌*◌, ◌≤◌, ◌<◌}
use native.Mathlib.Numerals.{sub-one}
use native.Mathlib.Omega.{arith}
use borrow.Author.Tests.{lt-leb}
use lib.ListN.{length, get_or, drop}
use Rattle.std.specs.Prelude.{Some, None}
use Rattle.std.specs.Option.{unwrap_or}
use Rattle.tree.specs.Form.{Form, node, none, more, encode}
use Rattle.tree.specs.Tag.{Sort, expr, pred, own, own_of, shape_of, pred_tags, sorts}
use Rattle.form.specs.Decode.{read, Got, got, no-form, Gots, gots, no-forms, is_leaf, close, decode, decode_all}
use Rattle.tree.specs.declared.tag.Shape.TheVariants.{Plain, Preds}
use Rattle.form.proofs.DecodeLaws.{clash, decode-encode, decode-at, decode-sound}
use Rattle.form.proofs.HeadLaws.{gone, here, between_in}
use Rattle.reader.proofs.ReaderLaws.{no_word, node-here}
use Rattle.rules.proofs.OkLaws.{ok-deep}
use Rattle.rules.specs.Split.{equal}
use Rattle.rules.specs.Scan.{Scan}
use Rattle.one_point.specs.Internal.Scans.{Became, Told, ScanTold, Sided, read_kids, kids_at, is_read, are_kids}
use Rattle.one_point.specs.declared.scanned.Scanned.{Scanned}
use Rattle.places.proofs.PartsLaws.{some_words}
use Rattle.one_point.proofs.ScanLaws.{EndsAt, fits}

-- what a scan tells, taken apart and put together
pub record ScannedAt (z : Form → Scan) (row : List ℕ) (d at pos : ℕ) (out : List ℕ) (r : Scanned) (out' : List ℕ) : Type 0 where
  pub form : Form
  pub is : decode d pred (drop at row) ≡ got form (drop (at + length (encode form)) row)
  pub became : Became row at form pos out (z form) r out'

module _ (z : Form → Scan) (row : List ℕ) (d at pos : ℕ) (out : List ℕ) where
  pub told-ok : (r : Scanned) (out' : List ℕ) → ScanTold z row d at pos out (Some r) out' → ScannedAt z row d at pos out r out'
  unfolding Told
  told-ok r out' t = go (decode d pred (drop at row)) refl t
    where
      go : (g : Got) → decode d pred (drop at row) ≡ g → Told z row at pos out g (Some r) out' → ScannedAt z row d at pos out r out'
      go (got f x) q t = record { form = f; is = q ∙ ap (λ (y : List ℕ). got f y) (decode-at d pred row at f x q); became = t }
      go no-form q t = absurd (clash cc)

  pub told-no : (out' : List ℕ) → ScanTold z row d at pos out None out' → decode d pred (drop at row) ≡ no-form
  unfolding Told
  told-no out' t = go (decode d pred (drop at row)) t
    where
      go : (g : Got) → Told z row at pos out g None out' → g ≡ no-form
      go (got f x) t = absurd t
      go no-form t = refl

  pub tell : (r : Scanned) (out' : List ℕ) (f : Form) (x : List ℕ) → decode d pred (drop at row) ≡ got f x → Became row at f pos out (z f) r out' → ScanTold z row d at pos out (Some r) out'
  unfolding Told
  tell r out' f x e b = rw e b

  pub tell_no : (out' : List ℕ) → decode d pred (drop at row) ≡ no-form → ScanTold z row d at pos out None out'
  unfolding Told
  tell_no out' e = rw e refl

-- where what was scanned ends, in the row and in the output
pub record Bounds (row : List ℕ) (at pos : ℕ) (r : Scanned) : Type 0 where
  pub up : at < r.next
  pub inside : r.next ≤ length row
  pub low : unwrap_or r.end pos ≤ pos + 2 * (r.next - at)

pub bounds : {z : Form → Scan} {row : List ℕ} {d at pos : ℕ} {out : List ℕ} {r : Scanned} {out' : List ℕ} → ScannedAt z row d at pos out r out' → Bounds row at pos r
bounds {row = row} {d = d} {at = at} a =
    let i = fits row d at a.form a.is in
    let s = some_words a.form in
    let n = a.became.next in
    let e = a.became.short in
    record { up = omega arith; inside = omega arith; low = omega arith }

-- nothing is read past the end of the row, nor at depth 0
pub none-past : (row : List ℕ) (d at : ℕ) → length row ≤ at → decode d pred (drop at row) ≡ no-form
none-past row d at h = rw (gone row at h) (no_word d pred)

pub none_deep : (row : List ℕ) (d at : ℕ) → d ≡ 0 → decode d pred (drop at row) ≡ no-form
unfolding decode
none_deep row d at e = rw e refl

-- a node without own words
pub record PlainTag (t p e : ℕ) : Type 0 where
  pub node-tag : is_leaf t ≡ false
  pub shape : shape_of pred t ≡ Plain p e

pub not-tag : PlainTag 8 1 0
unfolding shape_of pred_tags
not-tag = record { node-tag = refl; shape = refl }

pub implies-tag : PlainTag 251 2 0
unfolding shape_of pred_tags
implies-tag = record { node-tag = refl; shape = refl }

equal-tag : PlainTag 101 0 2
unfolding shape_of pred_tags
equal-tag = record { node-tag = refl; shape = refl }

module _ (row : List ℕ) (at : ℕ) (low : at < length row) where
  abbrev Kids-read : ℕ → List Sort → ℕ → Gots
  Kids-read d ss q = decode_all (λ s l. decode (d - 1) s l) ss (drop q row)

  module _ (t p e : ℕ) (x : PlainTag t p e) (tag : get_or row at 0 ≡ t) where
    plain-read : (d : ℕ) → 0 < d → decode d pred (drop at row) ≡ close t [] [] (Kids-read d (sorts p e) (at + 1))
    unfolding own own_of read
    plain-read zero h = absurd (omega arith)
    plain-read (suc d) h = rw (node-here d pred row at low, tag, x.shape, sub-one) refl

    module _ (d : ℕ) (deep : 0 < d) (s : Sort) where
      -- of one child
      pub one-got : sorts p e ≡ s ∷ [] → (f : Form) (y : List ℕ) → decode (d - 1) s (drop (at + 1) row) ≡ got f y → decode d pred (drop at row) ≡ got (node t [] [] (more f none)) y
      unfolding decode_all
      one-got q f y h = plain-read d deep ∙ rw (q, h, x.node-tag)

      pub first-no : (ss : List Sort) → sorts p e ≡ s ∷ ss → decode (d - 1) s (drop (at + 1) row) ≡ no-form → decode d pred (drop at row) ≡ no-form
      unfolding decode_all
      first-no ss q h = plain-read d deep ∙ rw (q, h)

      -- of two
      module _ (q : sorts p e ≡ s ∷ s ∷ []) (l : Form) (y : List ℕ) (a : decode (d - 1) s (drop (at + 1) row) ≡ got l y) where
        pub two-got : (r : Form) (z : List ℕ) → decode (d - 1) s y ≡ got r z → decode d pred (drop at row) ≡ got (node t [] [] (more l (more r none))) z
        unfolding decode_all
        two-got r z b = plain-read d deep ∙ rw (q, a, b, x.node-tag)

        pub second-no : decode (d - 1) s y ≡ no-form → decode d pred (drop at row) ≡ no-form
        unfolding decode_all
        second-no b = plain-read d deep ∙ rw (q, a, b)

-- an equality, from its sides
module _ (row : List ℕ) (d at : ℕ) (low : at < length row) (deep : 0 < d) (tag : get_or row at 0 ≡ 101) where
  pub equal-no : decode (d - 1) expr (drop (at + 1) row) ≡ no-form → decode d pred (drop at row) ≡ no-form
  equal-no h = first-no row at low 101 0 2 equal-tag tag d deep expr (expr ∷ []) refl h

  module _ (right : ℕ) (a : EndsAt row (d - 1) expr (at + 1) right) where
    pub equal-no-right : decode (d - 1) expr (drop right row) ≡ no-form → decode d pred (drop at row) ≡ no-form
    equal-no-right h = second-no row at low 101 0 2 equal-tag tag d deep expr refl a.form _ a.is (rw a.end at h)

    module _ (next : ℕ) (b : EndsAt row (d - 1) expr right next) where
      equal_is : decode d pred (drop at row) ≡ got (equal a.form b.form) (drop next row)
      equal_is =
          let e = a.end in
          let n = b.end in
          rw n (two-got row at low 101 0 2 equal-tag tag d deep expr refl a.form _ a.is b.form (drop (right + length (encode b.form)) row) (rw (← e) b.is))

      as-deep : d ≤ 64 → (s : ℕ) (f : Form) (x : List ℕ) → decode (d - 1) expr (drop s row) ≡ got f x → decode 64 expr (drop s row) ≡ got f x
      as-deep most s f x e =
          let (w, ok) = decode-sound (d - 1) expr (drop s row) f x e in
          rw w (decode-encode (ok-deep ok 64 (omega arith)) x)

      pub equal-read : d ≤ 64 → (x : Sided row at right next) × (decode d pred (drop at row) ≡ got (equal x.left x.other) (drop next row))
      equal-read most =
          let e = a.end in
          let n = b.end in (
            record {
              left = a.form;
              other = b.form;
              words = (decode-sound d pred (drop at row) (equal a.form b.form) (drop next row) equal_is).0;
              is-left = rw e (as-deep most (at + 1) a.form _ a.is);
              is-other = rw n (as-deep most right b.form _ b.is);
              left_end = e;
              other-end = n;
            },
            equal_is,
          )

-- an associative node, from the number of its children
module _ (row : List ℕ) (at : ℕ) (low : at < length row) (t : ℕ) (leaf-not : is_leaf t ≡ false) (shape : shape_of pred t ≡ Preds 2) (tag : get_or row at 0 ≡ t) where
  pub no-count : (d : ℕ) → 0 < d → length row ≤ at + 1 → decode d pred (drop at row) ≡ no-form
  unfolding own own_of read
  no-count zero h k = absurd (omega arith)
  no-count (suc d) h k = rw (node-here d pred row at low, tag, shape, gone row (at + 1) k) refl

  module _ (two : at + 1 < length row) where
    pub few-count : (d : ℕ) → 0 < d → get_or row (at + 1) 0 < 2 → decode d pred (drop at row) ≡ no-form
    unfolding own own_of read
    few-count zero h k = absurd (omega arith)
    few-count (suc d) h k = rw (node-here d pred row at low, tag, shape, here row (at + 1) two, lt-leb 2 (get_or row (at + 1) 0) k) refl

    count-read : (d : ℕ) → 0 < d → 2 ≤ get_or row (at + 1) 0 → get_or row (at + 1) 0 ≤ 4294967295 → decode d pred (drop at row) ≡ close t (get_or row (at + 1) 0 ∷ []) [] (read_kids row (d - 1) (at + 2) (get_or row (at + 1) 0))
    unfolding own own_of read
    count-read zero h a b = absurd (omega arith)
    count-read (suc d) h a b =
        let z : at + 1 + 1 ≡ at + 2 = omega arith in
        rw (node-here d pred row at low, tag, shape, here row (at + 1) two, between_in 2 4294967295 (get_or row (at + 1) 0) a b, append-nil, z, sub-one) refl

    module _ (d : ℕ) (deep : 0 < d) (least : 2 ≤ get_or row (at + 1) 0) (most : get_or row (at + 1) 0 ≤ 4294967295) where
      pub junction-got : are_kids row (d - 1) (at + 2) (get_or row (at + 1) 0) ≡ true → (x : List ℕ) × (decode d pred (drop at row) ≡ got (node t (get_or row (at + 1) 0 ∷ []) [] (kids_at row (d - 1) (at + 2) (get_or row (at + 1) 0))) x)
      unfolding are_kids kids_at
      junction-got e = go (read_kids row (d - 1) (at + 2) (get_or row (at + 1) 0)) refl e
        where
          go : (g : Gots) → read_kids row (d - 1) (at + 2) (get_or row (at + 1) 0) ≡ g → is_read g ≡ true
              → (x : List ℕ) × (decode d pred (drop at row) ≡ got (node t (get_or row (at + 1) 0 ∷ []) [] (kids_at row (d - 1) (at + 2) (get_or row (at + 1) 0))) x)
          go (gots fs x) q e = (x, count-read d deep least most ∙ rw (q, leaf-not))
          go no-forms q e = absurd (clash cc)

      pub junction-no : are_kids row (d - 1) (at + 2) (get_or row (at + 1) 0) ≡ false → decode d pred (drop at row) ≡ no-form
      unfolding are_kids
      junction-no e = go (read_kids row (d - 1) (at + 2) (get_or row (at + 1) 0)) refl e
        where
          go : (g : Gots) → read_kids row (d - 1) (at + 2) (get_or row (at + 1) 0) ≡ g → is_read g ≡ false → decode d pred (drop at row) ≡ no-form
          go (gots fs x) q e = absurd (clash cc)
          go no-forms q e = count-read d deep least most ∙ rw q
