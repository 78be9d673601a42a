-- The marks that the scan makes: of a child and of what follows it, of a not, and of a predicate that is not entered. Assumes nothing.
use mathlib.Core.Path.{◌≡◌, refl, ap, ◌∙◌}
use mathlib.Core.Bool.{Bool, true, false, not}
use mathlib.Core.Option.{Option, none as absent, some, map}
use mathlib.Core.List.{List}
use Prim.Native.Nat.{ℕ, ◌+◌, ◌-◌, ◌*◌, ◌≤◌, ◌<◌}
use native.Mathlib.Omega.{arith}
use lib.ListN.{length, get_or, drop}
use Rattle.std.specs.Prelude.{Option as Maybe, Some, None, is_some}
use Rattle.std.specs.Option.{unwrap_or}
use Rattle.tree.specs.Form.{Form, encode}
use Rattle.tree.specs.Tag.{pred}
use Rattle.form.specs.Decode.{Got, got, no-form, decode}
use Rattle.reader.specs.Internal.Reads.{mark}
use Rattle.rules.specs.Replacement.{Taken, taken, nothing}
use Rattle.rules.specs.Scan.{Scan, scanned, negate, scan, role_of}
use Rattle.rules.specs.Scan as S
use Rattle.places.specs.Internal.Wrote.{Wrote}
use Rattle.places.specs.declared.sides.Replacement.{Replacement}
use Rattle.places.proofs.WroteLaws.{wrote-end, wrote_self}
use Rattle.one_point.specs.Internal.Writes.{left_words, Neat}
use Rattle.one_point.specs.Internal.Parts.{TookIs}
use Rattle.one_point.specs.Internal.Scans.{Left, ScanTold, Entered, next_scan}
use Rattle.one_point.specs.Internal.Marks.{left_of, mark_left, ClearFrom, Clean, MarksTold, ScanMarks}
use Rattle.one_point.specs.declared.scanned.Scanned.{Scanned}
use Rattle.one_point.proofs.EndLaws.{none-some, some-none}
use Rattle.one_point.proofs.RebuildLaws.{not_of, scan-not}
use Rattle.one_point.proofs.PartsStepLaws.{not_taken, took-not, took-none}
use Rattle.one_point.proofs.ReadLaws.{ScannedAt, told-no, bounds, not-tag, one-got}
use Rattle.one_point.proofs.BecameLaws.{child-of}
use Rattle.one_point.proofs.NodeLaws.{other-scan}
use Rattle.one_point.proofs.MarkLaws.{mark-long, clear_later, clear-left, no-marks, tell-marks, marks-told}

-- where no predicate is read, nothing is said of the marks
pub quiet-marks : (z : Form → Scan) (row : List ℕ) (d at pos : ℕ) (out out' ms ms' : List ℕ) → ScanTold z row d at pos out None out' → ScanMarks z row d at pos ms ms'
quiet-marks z row d at pos out out' ms ms' t = no-marks z pos ms ms' (decode d pred (drop at row)) (told-no z row d at pos out out' t)

pub child-marks : {z : Form → Scan} {row : List ℕ} {d at pos : ℕ} {out : List ℕ} {r : Scanned} {out' : List ℕ} (a : ScannedAt z row d at pos out r out') (ms ms' : List ℕ) → ScanMarks z row d at pos ms ms'
    → ms' ≡ mark_left (left_of (z a.form)) pos ms
child-marks {z} {row} {d} {at} {pos} a ms ms' m = marks-told z pos ms ms' (decode d pred (drop at row)) a.form _ a.is m

-- room for marks further on, and after a child
pub clean-in : (row : List ℕ) (at pos q p : ℕ) (ms : List ℕ) → Clean row at pos ms → pos ≤ p → p + 2 * (length row - q) ≤ pos + 2 * (length row - at) → Clean row q p ms
clean-in row at pos q p ms c h k = let r = c.room in record { room = omega arith; clear = clear_later pos p ms h c.clear }

left-long : (g : Option Form) (pos : ℕ) (ms : List ℕ) → length (mark_left g pos ms) ≡ length ms
left-long (some f) pos ms = mark-long f pos 0 ms
left-long absent pos ms = refl

pub clean_after : {z : Form → Scan} {row : List ℕ} {d at pos : ℕ} {out : List ℕ} {r : Scanned} {out' : List ℕ} (a : ScannedAt z row d at pos out r out') (ms ms' : List ℕ) → ScanMarks z row d at pos ms ms' → Clean row at pos ms
    → Clean row r.next (unwrap_or r.end pos) ms'
unfolding Left
clean_after {z} {row} {d} {at} {pos} {out} {r} {out'} a ms ms' m c =
    let y = child-of a.became in
    let e : ms' ≡ mark_left y.left pos ms = rw y.is at (child-marks a ms ms' m) in
    let l = wrote-end pos (unwrap_or r.end pos) out (left_words y.left) out' y.became.left.2 in
    let n = ap length e ∙ left-long y.left pos ms in
    let b = bounds a in
    let u = b.up in
    let v = b.inside in
    let w = b.low in
    let k = c.room in
    record { room = omega arith; clear = clear-left y.left pos (unwrap_or r.end pos) ms ms' c.clear l e }

-- what follows the left side of an implication starts where that ends, or where it stood if it is gone
pub start-clean : {z : Form → Scan} {row : List ℕ} {d at pos : ℕ} {out : List ℕ} {s : Scanned} {out₁ : List ℕ} (a : ScannedAt z row d (at + 1) (pos + 1) out s out₁) (ms ms₁ : List ℕ) → ScanMarks z row d (at + 1) (pos + 1) ms ms₁ → Clean row at pos ms → (start : ℕ)
    → start ≡ unwrap_or s.end pos → Clean row s.next start ms₁
unfolding Left
start-clean {z} {row} {d} {at} {pos} {out} {s} {out₁} a ms ms₁ m c start e = go s.end refl e
  where
    low : at + 1 < length row
    low = let u = (bounds a).up in let v = (bounds a).inside in omega arith

    gone-marks : (x : Taken) (g : Option Form) → Left row (pos + 1) out (scanned x g) s out₁ → ms₁ ≡ mark_left g (pos + 1) ms → s.end ≡ None → ms₁ ≡ ms
    gone-marks x (some g) l e q = absurd (some-none s.end l.1 q)
    gone-marks x absent l e q = e

    go : (o : Maybe ℕ) → s.end ≡ o → start ≡ unwrap_or o pos → Clean row s.next start ms₁
    go None q e =
        let y = child-of a.became in
        let k = gone-marks y.took y.left y.became.left (rw y.is at (child-marks a ms ms₁ m)) q in
        let u = (bounds a).up in
        let v = (bounds a).inside in
        rw (e, k) (clean-in row at pos s.next pos ms c (omega arith) (omega arith))
    go (Some w) q e =
        let k = clean_after a ms ms₁ m (clean-in row at pos (at + 1) (pos + 1) ms c (omega arith) (let l = low in omega arith)) in
        rw e (rw q at k)

-- a not
module _ (row : List ℕ) (d at n pos : ℕ) (b : Bool) (x : Entered row d at) (tag : get_or row at 0 ≡ 8) (out out₁ : List ℕ) (s : Scanned) (low : pos + 1 ≤ length out) (a : ScannedAt (scan n (not b)) row (d - 1) (at + 1) (pos + 1) out s out₁)
    (ms ms₁ : List ℕ) (m : ScanMarks (scan n (not b)) row (d - 1) (at + 1) (pos + 1) ms ms₁) where
  tell-not : (ms₂ : List ℕ) → ((y : Taken) (g : Option Form) → Left row (pos + 1) out (scanned y g) s out₁ → ms₁ ≡ mark_left g (pos + 1) ms → ms₂ ≡ mark_left (map negate g) pos ms) → ScanMarks (scan n b) row d at pos ms ms₂
  tell-not ms₂ by =
      let y = child-of a.became in
      tell-marks (scan n b) pos ms ms₂ (decode d pred (drop at row)) (not_of a.form) _ (one-got row at x.inside 8 1 0 not-tag tag d x.deeper pred refl a.form _ a.is)
      (rw (scan-not n b a.form y.took y.left y.is) (by y.took y.left y.became.left (rw y.is at (child-marks a ms ms₁ m))))

  pub not-gone-marks : s.end ≡ None → ScanMarks (scan n b) row d at pos ms ms₁
  unfolding Left
  not-gone-marks q = tell-not ms₁ go
    where
      go : (y : Taken) (g : Option Form) → Left row (pos + 1) out (scanned y g) s out₁ → ms₁ ≡ mark_left g (pos + 1) ms → ms₁ ≡ mark_left (map negate g) pos ms
      go y (some g) l e = absurd (some-none s.end l.1 q)
      go y absent l e = e

  pub not-marks : (w : ℕ) → s.end ≡ Some w → ClearFrom pos ms → (ms₂ : List ℕ)
      → ((k : Form) (l : List ℕ) → Neat k → Wrote (pos + 1) out₁ (encode k) w out₁ → ClearFrom pos l → ms₁ ≡ mark k (pos + 1) 0 l → ms₂ ≡ mark (negate k) pos 0 l) → ScanMarks (scan n b) row d at pos ms ms₂
  unfolding Left
  not-marks w q clear ms₂ fin = tell-not ms₂ go
    where
      go : (y : Taken) (g : Option Form) → Left row (pos + 1) out (scanned y g) s out₁ → ms₁ ≡ mark_left g (pos + 1) ms → ms₂ ≡ mark_left (map negate g) pos ms
      go y (some g) l e = fin g ms l.3 (wrote_self (pos + 1) w out (encode g) out₁ low (rw q at l.2)) clear e
      go y absent l e = absurd (none-some s.end l.1 w q)

-- what follows a child
module _ (row : List ℕ) (pos : ℕ) (found : Maybe Replacement) (ms ms' : List ℕ) where
  pub next-copied-marks : is_some found ≡ true → (g : Got) → MarksTold (λ f. scanned nothing (some f)) pos g ms ms' → (n : ℕ) (x : Taken) → TookIs row x found → MarksTold (λ f. next_scan x (scan n false f) f) pos g ms ms'
  unfolding MarksTold next_scan TookIs
  next-copied-marks p (got f y) h n (taken i e) t = h
  next-copied-marks p (got f y) h n nothing t = absurd (took-none row found t p)
  next-copied-marks p no-form h n x t = tt

  pub next-scanned-marks : is_some found ≡ false → (n : ℕ) (g : Got) → MarksTold (scan n false) pos g ms ms' → (x : Taken) → TookIs row x found → MarksTold (λ f. next_scan x (scan n false f) f) pos g ms ms'
  unfolding next_scan
  next-scanned-marks p n g h x t = rw (took-not row x (rw (not_taken found p) at t)) h

-- a predicate that is not entered
pub other-marks : (row : List ℕ) (d at n pos : ℕ) (b : Bool) (ms ms' : List ℕ) → role_of (get_or row at 0) b ≡ S.other → ScanMarks (λ f. scanned nothing (some f)) row d at pos ms ms' → ScanMarks (scan n b) row d at pos ms ms'
unfolding MarksTold
other-marks row d at n pos b ms ms' o t = go (decode d pred (drop at row)) refl t
  where
    go : (g : Got) → decode d pred (drop at row) ≡ g → MarksTold (λ f. scanned nothing (some f)) pos g ms ms' → MarksTold (scan n b) pos g ms ms'
    go (got f x) e t = rw (other-scan row d at n b o f x e) t
    go no-form e t = tt
