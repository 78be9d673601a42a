-- The marks of what is left of an equality. Assumes nothing.
use mathlib.Core.Path.{◌≡◌, refl, ap, sym, ◌∙◌}
use mathlib.Core.Bool.{true, false}
use mathlib.Core.Option.{none as absent, some}
use mathlib.Core.List.{List, ◌++◌, append_assoc}
use Prim.Native.Nat.{ℕ, ◌+◌, ◌≤◌}
use native.Mathlib.Omega.{arith}
use lib.ListN.{length, take, drop, take-append-drop}
use lib.Seq.{drop_at, length-take-le}
use Rattle.std.specs.Prelude.{Option as Maybe, is_some}
use Rattle.tree.specs.Form.{Form, encode}
use Rattle.tree.specs.Tag.{expr, pred}
use Rattle.form.specs.Decode.{got, decode}
use Rattle.form.proofs.DecodeLaws.{Ok, decode-encode, decode-sound}
use Rattle.rules.specs.Replacement.{Taken, taken, nothing, accept}
use Rattle.rules.specs.Split.{equal}
use Rattle.rules.specs.Scan.{Scan, scanned, scan}
use Rattle.places.specs.Internal.Positions.{both_pairs}
use Rattle.places.specs.Internal.Wrote.{Wrote}
use Rattle.places.specs.declared.sides.Replacement.{Replacement}
use Rattle.places.proofs.PartsOk.{equal-ok}
use Rattle.one_point.specs.Internal.Parts.{accept_words, TookIs}
use Rattle.one_point.specs.Internal.Scans.{Left, Became, Sided}
use Rattle.one_point.specs.Internal.Marks.{left_of, mark_left, RestMarks}
use Rattle.one_point.specs.declared.scanned.Scanned.{Scanned}
use Rattle.one_point.proofs.EndLaws.{none_is, some_is}
use Rattle.one_point.proofs.PartsStepLaws.{not_taken, took-not, took-none}
use Rattle.one_point.proofs.ScanLaws.{sides-end, sides-in}
use Rattle.one_point.proofs.EqualityLaws.{part-scan, offered}
use Rattle.one_point.proofs.MarkLaws.{marks-told}
use Rattle.one_point.proofs.ScanLimits.{OkScan, scan-ok}

module _ (row : List ℕ) (at right next : ℕ) (n : ℕ) (x : Sided row at right next) where
  abbrev Whole : Form
  Whole = equal x.left x.other

  whole-ok : Ok 65 pred Whole
  whole-ok = equal-ok (decode-sound 64 expr (drop (at + 1) row) x.left (drop right row) x.is-left).1 (decode-sound 64 expr (drop right row) x.other (drop next row) x.is-other).1

  pub sided-read : decode 65 pred (drop at row) ≡ got Whole (drop next row)
  sided-read = rw x.words (decode-encode whole-ok (drop next row))

  -- one part: gone where it is taken, else whole
  module _ (pos : ℕ) (out : List ℕ) (one : both_pairs row (at + 1) right ≡ false) (short : length row ≤ 8192) (r : Maybe Replacement) (is : r ≡ accept_words n (record { left = at + 1; middle = right; right = right; end = next }) row) where
    pub taken-left : is_some r ≡ true → left_of (scan n true Whole) ≡ absent
    unfolding TookIs
    taken-left k = go (accept n x.left x.other) refl (offered row at right next n pos out x one short r is)
      where
        go : (t : Taken) → accept n x.left x.other ≡ t → TookIs row t r → left_of (scan n true Whole) ≡ absent
        go (taken i e) q h = rw (part-scan row at right next n pos out x one short r is (taken i e) q) refl
        go nothing q h = absurd (took-none row r h k)

    pub passed-left : is_some r ≡ false → left_of (scan n true Whole) ≡ some Whole
    passed-left k =
        let z = took-not row (accept n x.left x.other) (rw (not_taken r k) at (offered row at right next n pos out x one short r is)) in
        rw (part-scan row at right next n pos out x one short r is nothing z) refl

  -- what is left of its parts, read where it was written
  module _ (pos : ℕ) (out out' : List ℕ) (low : pos ≤ length out) (s : Scanned) (ms ms' : List ℕ) where
    written-there : (g : Form) (end : ℕ) → Wrote pos out (encode g) end out' → drop pos out' ≡ encode g ++ drop end out'
    unfolding Wrote
    written-there g end w =
        let l : length (take pos out) ≡ pos = length-take-le pos out low in
        let e : out' ≡ take pos out ++ (encode g ++ drop end out') = sym (take-append-drop end out') ∙ (ap (λ (z : List ℕ). z ++ drop end out') w.1 ∙ append_assoc (take pos out) (encode g) (drop end out')) in
        ap (drop pos) e ∙ drop_at (take pos out) (encode g ++ drop end out') pos l

    marks-by : (z : Scan) → Left row pos out z s out' → OkScan n 65 z → RestMarks out' pos s.end ms ms' → ms' ≡ mark_left (left_of z) pos ms
    unfolding Left
    marks-by (scanned y (some g)) l o m =
        let (e, q) = some_is s.end l.1 in
        let d : decode 65 pred (drop pos out') ≡ got g (drop e out') = rw (written-there g e (rw q at l.2)) (decode-encode o.1 (drop e out')) in
        marks-told (λ f. scanned nothing (some f)) pos ms ms' (decode 65 pred (drop pos out')) g (drop e out') d (rw q at m)
    marks-by (scanned y absent) l o m = rw (none_is s.end l.1) at m

    pub rest-marks : length row ≤ 8192 → Became row at Whole pos out (scan n true Whole) s out' → RestMarks out' pos s.end ms ms' → ms' ≡ mark_left (left_of (scan n true Whole)) pos ms
    rest-marks short b m =
        let e = sides-end row at right next x in
        let i = (sides-in row at right next x).1 in
        marks-by (scan n true Whole) b.left (scan-ok whole-ok (omega arith) n true) m
