-- Children searched in order, and what is left of an associative node. Assumes nothing.
use mathlib.Core.Path.{◌≡◌, refl, ap, sym, ◌∙◌}
use mathlib.Core.Bool.{Bool, true, false}
use mathlib.Core.Option.{Option, none as absent, some}
use mathlib.Core.List.{List, [], ◌∷◌}
use Prim.Native.Nat.{ℕ, ◌+◌, ◌-◌, ◌*◌, ◌≤◌, ◌<◌}
use native.Mathlib.Omega.{arith}
use lib.ListN.{length, drop}
use Rattle.std.specs.Prelude.{Option as Maybe, Some, None, is_some}
use Rattle.std.specs.Option.{unwrap_or}
use Rattle.tree.specs.Form.{Form, Forms, none, more, count, encode, encode_all}
use Rattle.tree.specs.Tag.{pred}
use Rattle.form.specs.Decode.{no-form, decode}
use Rattle.form.proofs.DecodeLaws.{clash}
use Rattle.rules.specs.Replacement.{Taken, taken, nothing}
use Rattle.rules.specs.Scan.{scanned, Scans, scans, present, copies, before, follow, scan, scan_all}
use Rattle.places.specs.Internal.Wrote.{Wrote}
use Rattle.one_point.specs.Internal.Writes.{Neats, no_more, and-more}
use Rattle.one_point.specs.Internal.Parts.{TookIs}
use Rattle.one_point.specs.Internal.Scans.{Left, Became, kids_at, are_kids, one_more, KidsTold, KidsCopied, SearchedKids}
use Rattle.reader.specs.Internal.Reads.{mark, mark_all}
use Rattle.one_point.specs.Internal.Marks.{left_of, lefts_of, mark_left, SearchedMarks}
use Rattle.places.specs.declared.sides.Replacement.{Replacement}
use Rattle.one_point.specs.declared.scanned.Scanned.{Scanned}
use Rattle.places.proofs.WroteLaws.{wrote-end, wrote_on}
use Rattle.one_point.proofs.EndLaws.{none_is, some_is}
use Rattle.one_point.proofs.PartsStepLaws.{took-none, took-some}
use Rattle.one_point.proofs.BecameLaws.{child-of}
use Rattle.one_point.proofs.ChildrenLaws.{kids-same, kids-split, kids-length, kids-no}
use Rattle.one_point.proofs.ReadLaws.{ScannedAt, none-past}

present-copies : (fs : Forms) → present (copies fs) ≡ fs
present-copies none = refl
present-copies (more f fs) = ap (more f) (present-copies fs)

-- one child before others
module _ (row : List ℕ) (at w k : ℕ) (f : Form) (out out₁ : List ℕ) (s : Scanned) (fs : Forms) (all : Forms) (len : length (encode_all all) ≡ length (encode f) + length (encode_all fs)) where
  written : (x : Taken) (g : Option Form) → Became row at f w out (scanned x g) s out₁ → (gs : List (Option Form)) (e m : ℕ) (o : List ℕ)
      → Wrote (unwrap_or s.end w) out₁ (encode_all (present gs)) e o → m ≡ one_more k s.end + count (present gs) → Neats (present gs)
      → Wrote w out (encode_all (present (g ∷ gs))) e o × (m ≡ k + count (present (g ∷ gs))) × Neats (present (g ∷ gs))
  unfolding Left encode
  written x (some g) b gs e m o h c n =
      let (l, q) = some_is s.end b.left.1 in
      let c' : m ≡ k + 1 + count (present gs) = rw q at c in
      (wrote_on w (unwrap_or s.end w) e out (encode g) out₁ (encode_all (present gs)) o b.left.2 h, omega arith, and-more b.left.3 n)
  written x absent b gs e m o h c n =
      let q = none_is s.end b.left.1 in
      (wrote_on w (unwrap_or s.end w) e out [] out₁ (encode_all (present gs)) o b.left.2 h, rw q at c, n)

  passed : (g : Option Form) → Became row at f w out (scanned nothing g) s out₁ → (z : Scans) (r : Maybe Replacement) (e m : ℕ) (o : List ℕ)
      → KidsTold row fs (unwrap_or s.end w) out₁ (one_more k s.end) z r e m o → KidsTold row all w out k (before g z) r e m o
  unfolding KidsTold
  passed g b (scans x gs) r e m o t =
      let u = written nothing g b gs e m o t.1 t.2 t.3 in
      let l = b.short in
      let l' = t.4 in
      (t.0, u.0, u.1, u.2, omega arith)

  stopped : (i : ℕ) (e' : Form) (g : Option Form) → Became row at f w out (scanned (taken i e') g) s out₁ → (e m : ℕ) (o : List ℕ)
      → KidsCopied fs (unwrap_or s.end w) out₁ (one_more k s.end) e m o → KidsTold row all w out k (scans (taken i e') (g ∷ copies fs)) s.found e m o
  unfolding KidsTold KidsCopied Left
  stopped i e' g b e m o t =
      let p = present-copies fs in
      let u = written (taken i e') g b (copies fs) e m o (rw p t.0) (rw p t.1) (rw p t.2) in
      let l = b.short in
      let l' = wrote-end (unwrap_or s.end w) e out₁ (encode_all fs) o t.0 in
      (b.left.0, u.0, u.1, u.2, omega arith)

module _ (row : List ℕ) (d q n : ℕ) (some_left : 0 < n) (w c k : ℕ) (b : Bool) (out out₁ : List ℕ) (s : Scanned) (x : ScannedAt (scan c b) row d q w out s out₁) where
  next-is : s.next ≡ q + length (encode x.form)
  next-is = x.became.next

  pub child-same : are_kids row d q n ≡ are_kids row d s.next (n - 1)
  child-same = rw next-is (kids-same row d q x.form x.is n some_left)

  module _ (are : are_kids row d s.next (n - 1) ≡ true) where
    abbrev Rest : Forms
    Rest = kids_at row d (q + length (encode x.form)) (n - 1)

    rest-are : are_kids row d (q + length (encode x.form)) (n - 1) ≡ true
    rest-are = rw next-is at are

    long : length (encode_all (kids_at row d q n)) ≡ length (encode x.form) + length (encode_all Rest)
    long = kids-length row d q x.form x.is n some_left rest-are

    pass-by : (y : Taken) (g : Option Form) → Became row q x.form w out (scanned y g) s out₁ → is_some s.found ≡ false → (r : Maybe Replacement) (e m : ℕ) (o : List ℕ)
        → KidsTold row Rest (unwrap_or s.end w) out₁ (one_more k s.end) (scan_all c b b Rest) r e m o → KidsTold row (kids_at row d q n) w out k (follow (scanned y g) Rest (scan_all c b b Rest)) r e m o
    unfolding Left TookIs
    pass-by (taken i e') g a p r e m o t = absurd (took-some row i e' s.found a.left.0 p)
    pass-by nothing g a p r e m o t = passed row q w k x.form out out₁ s Rest (kids_at row d q n) long g a (scan_all c b b Rest) r e m o t

    take_by : (y : Taken) (g : Option Form) → Became row q x.form w out (scanned y g) s out₁ → is_some s.found ≡ true → (e m : ℕ) (o : List ℕ)
        → KidsCopied Rest (unwrap_or s.end w) out₁ (one_more k s.end) e m o → KidsTold row (kids_at row d q n) w out k (follow (scanned y g) Rest (scan_all c b b Rest)) s.found e m o
    unfolding Left TookIs
    take_by (taken i e') g a p e m o t = stopped row q w k x.form out out₁ s Rest (kids_at row d q n) long i e' g a e m o t
    take_by nothing g a p e m o t = absurd (took-none row s.found a.left.0 p)

    all-is : (y : Taken) (g : Option Form) → scan c b x.form ≡ scanned y g → scan_all c b b (kids_at row d q n) ≡ follow (scanned y g) Rest (scan_all c b b Rest)
    unfolding scan
    all-is y g e = rw (kids-split row d q x.form x.is n some_left rest-are, e)

    pub child-passed : is_some s.found ≡ false → (r : Maybe Replacement) (e m : ℕ) (o : List ℕ) → KidsTold row (kids_at row d s.next (n - 1)) (unwrap_or s.end w) out₁ (one_more k s.end) (scan_all c b b (kids_at row d s.next (n - 1))) r e m o
        → KidsTold row (kids_at row d q n) w out k (scan_all c b b (kids_at row d q n)) r e m o
    child-passed p r e m o t =
        let y = child-of x.became in
        rw (all-is y.took y.left y.is) (pass-by y.took y.left y.became p r e m o (rw next-is at t))

    pub child-taken : is_some s.found ≡ true → (e m : ℕ) (o : List ℕ) → KidsCopied (kids_at row d s.next (n - 1)) (unwrap_or s.end w) out₁ (one_more k s.end) e m o
        → KidsTold row (kids_at row d q n) w out k (scan_all c b b (kids_at row d q n)) s.found e m o
    child-taken p e m o t =
        let y = child-of x.became in
        rw (all-is y.took y.left y.is) (take_by y.took y.left y.became p e m o (rw next-is at t))

    pub child-ends : s.next + length (encode_all (kids_at row d s.next (n - 1))) ≡ q + length (encode_all (kids_at row d q n))
    child-ends = let a = long in rw next-is (omega arith)

    -- the marks of what is left of them, made from w on
    module _ (ms ms₁ : List ℕ) (marks : ms₁ ≡ mark_left (left_of (scan c b x.form)) w ms) where
      abbrev Marks : Forms → List ℕ
      Marks fs = mark_all fs (unwrap_or s.end w) 0 ms₁

      one-before : (y : Taken) (g : Option Form) → Became row q x.form w out (scanned y g) s out₁ → ms₁ ≡ mark_left g w ms → (gs : List (Option Form)) → Marks (present gs) ≡ mark_all (present (g ∷ gs)) w 0 ms
      unfolding Left mark
      one-before y (some g) a e gs = rw (wrote-end w (unwrap_or s.end w) out (encode g) out₁ a.left.2, e) refl
      one-before y absent a e gs =
          let l : (unwrap_or s.end w) ≡ w = wrote-end w (unwrap_or s.end w) out [] out₁ a.left.2 ∙ omega arith in
          rw (l, e) refl

      marks-by : (y : Taken) (g : Option Form) → scan c b x.form ≡ scanned y g → ms₁ ≡ mark_left g w ms
      marks-by y g e = rw e at marks

      passed-by : (y : Taken) (g : Option Form) → Became row q x.form w out (scanned y g) s out₁ → ms₁ ≡ mark_left g w ms → is_some s.found ≡ false → (z : Scans) → Marks (lefts_of z) ≡ mark_all (lefts_of (follow (scanned y g) Rest z)) w 0 ms
      unfolding Left TookIs
      passed-by (taken i e') g a e p z = absurd (took-some row i e' s.found a.left.0 p)
      passed-by nothing g a e p (scans y gs) = one-before nothing g a e gs

      taken-by : (y : Taken) (g : Option Form) → Became row q x.form w out (scanned y g) s out₁ → ms₁ ≡ mark_left g w ms → is_some s.found ≡ true → (z : Scans) → Marks Rest ≡ mark_all (lefts_of (follow (scanned y g) Rest z)) w 0 ms
      unfolding Left TookIs
      taken-by (taken i e') g a e p z = ap Marks (sym (present-copies Rest)) ∙ one-before (taken i e') g a e (copies Rest)
      taken-by nothing g a e p z = absurd (took-none row s.found a.left.0 p)

      pub passed-marks : is_some s.found ≡ false → mark_all (lefts_of (scan_all c b b (kids_at row d s.next (n - 1)))) (unwrap_or s.end w) 0 ms₁ ≡ mark_all (lefts_of (scan_all c b b (kids_at row d q n))) w 0 ms
      passed-marks p =
          let y = child-of x.became in
          ap (λ (z : ℕ). mark_all (lefts_of (scan_all c b b (kids_at row d z (n - 1)))) (unwrap_or s.end w) 0 ms₁) next-is
          ∙ (passed-by y.took y.left y.became (marks-by y.took y.left y.is) p (scan_all c b b Rest) ∙ sym (ap (λ (z : Scans). mark_all (lefts_of z) w 0 ms) (all-is y.took y.left y.is)))

      pub taken-marks : is_some s.found ≡ true → mark_all (kids_at row d s.next (n - 1)) (unwrap_or s.end w) 0 ms₁ ≡ mark_all (lefts_of (scan_all c b b (kids_at row d q n))) w 0 ms
      taken-marks p =
          let y = child-of x.became in
          ap (λ (z : ℕ). mark_all (kids_at row d z (n - 1)) (unwrap_or s.end w) 0 ms₁) next-is
          ∙ (taken-by y.took y.left y.became (marks-by y.took y.left y.is) p (scan_all c b b Rest) ∙ sym (ap (λ (z : Scans). mark_all (lefts_of z) w 0 ms) (all-is y.took y.left y.is)))

pub over-marks : (c : ℕ) (b : Bool) (fs : Forms) (w : ℕ) (ms : List ℕ) → fs ≡ none → mark_all fs w 0 ms ≡ mark_all (lefts_of (scan_all c b b fs)) w 0 ms
unfolding scan mark
over-marks c b fs w ms e = rw e refl

-- a search that goes to the end of the row says nothing of the marks
pub lost-marks : (row : List ℕ) (d n : ℕ) (b : Bool) (at c pos left w k : ℕ) (ms ms' : List ℕ) → 0 < left → (found : Maybe Replacement) → SearchedMarks row d n b at c pos ms (record { found = found; next = length row; left = left; end = w; count = k }) ms'
lost-marks row d n b at c pos left w k ms ms' h found =
    let z = kids-no row d (length row) (none-past row d (length row) (omega arith)) left h in
    record { whole = λ a. absurd (clash cc) }

-- a child that is no predicate: the search goes to the end of the row
pub search-lost : (row : List ℕ) (d n : ℕ) (b : Bool) (at c pos q left w k : ℕ) (out out' : List ℕ) → 0 < left → decode d pred (drop q row) ≡ no-form → are_kids row d at c ≡ are_kids row d q left → k + left ≤ c → w + 2 * (length row - q) ≤ pos + 2 * (length row - at) → (found : Maybe Replacement)
    → SearchedKids row d n b at c pos out (record { found = found; next = length row; left = left; end = w; count = k }) out'
search-lost row d n b at c pos q left w k out out' h lost same few room found =
    let z = kids-no row d (length row) (none-past row d (length row) (omega arith)) left h in
    record {
      same = same ∙ (kids-no row d q lost left h ∙ sym z);
      whole = λ a. absurd (clash cc);
      ends = λ a. absurd (clash cc);
      few = few;
      inside = omega arith;
      room = omega arith;
    }

pub search-over : (row : List ℕ) (c : ℕ) (b : Bool) (fs : Forms) (w k : ℕ) (out : List ℕ) (r : Maybe Replacement) → r ≡ None → fs ≡ none → (e m : ℕ) (o : List ℕ) → KidsCopied fs w out k e m o → KidsTold row fs w out k (scan_all c b b fs) r e m o
unfolding KidsTold KidsCopied TookIs scan encode
search-over row c b fs w k out r n h e m o t =
    let t₀ : Wrote w out [] e o = rw h at t.0 in
    let l = wrote-end w e out [] o t₀ in
    rw h (n, t₀, rw h at t.1, no_more, omega arith)

pub one_at_most : (k : ℕ) (left : Maybe ℕ) → one_more k left ≤ k + 1
one_at_most k (Some e) = omega arith
one_at_most k None = omega arith
