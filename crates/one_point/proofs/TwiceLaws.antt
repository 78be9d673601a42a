-- Two nots one in the other: what the scan of their child tells of them, in words and marks. Assumes nothing.
use mathlib.Core.Path.{◌≡◌, refl, ap, ◌∙◌}
use mathlib.Core.Bool.{Bool, true, false, not}
use mathlib.Core.Option.{Option, none as absent, some, map}
use mathlib.Core.List.{List, []}
use Prim.Native.Nat.{ℕ, suc, ◌+◌, ◌-◌, ◌≤◌, ◌<◌}
use native.Mathlib.Omega.{arith}
use borrow.Author.Tests.{ltb-true, ltb-false}
use lib.Dec.{ltb}
use lib.ListN.{length, get_or, drop, get_or-eq_default}
use Rattle.std.specs.Prelude.{Some, None}
use Rattle.tree.specs.Form.{Form, encode}
use Rattle.tree.specs.Tag.{pred}
use Rattle.form.specs.Decode.{got, no-form, decode}
use Rattle.reader.specs.Internal.Reads.{mark}
use Rattle.rules.specs.Scan.{scanned, negate, scan}
use Rattle.places.specs.Internal.Wrote.{Wrote}
use Rattle.places.proofs.PartsLaws.{some_words}
use Rattle.places.proofs.WroteLaws.{wrote-end, wrote-in, kept, wrote_self, based}
use Rattle.one_point.specs.Internal.Writes.{Neat}
use Rattle.one_point.specs.Internal.Scans.{Left, Became, ScanTold, Entered}
use Rattle.one_point.specs.Internal.Marks.{mark_left, ClearFrom, ScanMarks}
use Rattle.one_point.specs.declared.scanned.Scanned.{Scanned}
use Rattle.one_point.proofs.EndLaws.{none-some, some-none}
use Rattle.one_point.proofs.RebuildLaws.{not_of, not-words, scan-not}
use Rattle.one_point.proofs.ReadLaws.{ScannedAt, told-no, tell, tell_no, none_deep, not-tag, one-got, first-no}
use Rattle.one_point.proofs.BecameLaws.{Child, child-of, neat-negate, negate-words}
use Rattle.one_point.proofs.WriteMarks.{two-words}
use Rattle.one_point.proofs.MarkLaws.{tell-marks}
use Rattle.one_point.proofs.ScanMarkLaws.{child-marks}

not-not : (b : Bool) → not (not b) ≡ b
not-not true = refl
not-not false = refl

module _ (row : List ℕ) (d at : ℕ) (x : Entered row d at) (tag : get_or row at 0 ≡ 8) where
  -- no room for the second
  pub twice-shallow : d < 2 → decode d pred (drop at row) ≡ no-form
  twice-shallow h = let l = x.deeper in first-no row at x.inside 8 1 0 not-tag tag d x.deeper pred [] refl (none_deep row (d - 1) (at + 1) (omega arith))

  module _ (second : get_or row (at + 1) 0 ≡ 8) (deep : 2 ≤ d) where
    pub second-in : at + 1 < length row
    second-in = go (ltb (at + 1) (length row)) refl
      where
        go : (b : Bool) → ltb (at + 1) (length row) ≡ b → at + 1 < length row
        go true e = ltb-true (at + 1) (length row) e
        go false e =
            let z = get_or-eq_default row 0 {n = at + 1} (ltb-false (at + 1) (length row) e) in
            absurd (omega arith)

    inside : at + 1 + 1 ≡ at + 2
    inside = omega arith

    below : d - 1 - 1 ≡ d - 2
    below = omega arith

    inner-no : decode (d - 2) pred (drop (at + 2) row) ≡ no-form → decode d pred (drop at row) ≡ no-form
    inner-no h =
        let k = first-no row (at + 1) second-in 8 1 0 not-tag second (d - 1) (omega arith) pred [] refl (rw (inside, below) h) in
        first-no row at x.inside 8 1 0 not-tag tag d x.deeper pred [] refl k

    inner-got : (f : Form) (y : List ℕ) → decode (d - 2) pred (drop (at + 2) row) ≡ got f y → decode d pred (drop at row) ≡ got (not_of (not_of f)) y
    inner-got f y h =
        let k = one-got row (at + 1) second-in 8 1 0 not-tag second (d - 1) (omega arith) pred refl f y (rw (inside, below) h) in
        one-got row at x.inside 8 1 0 not-tag tag d x.deeper pred refl (not_of f) y k

    module _ (n pos : ℕ) (b : Bool) (out out₁ : List ℕ) where
      pub twice-no : ScanTold (scan n b) row (d - 2) (at + 2) pos out None out₁ → ScanTold (scan n b) row d at pos out None out₁
      twice-no t = tell_no (scan n b) row d at pos out out₁ (inner-no (told-no (scan n b) row (d - 2) (at + 2) pos out out₁ t))

      module _ (s : Scanned) (a : ScannedAt (scan n b) row (d - 2) (at + 2) pos out s out₁) where
        abbrev Made : Form
        Made = not_of (not_of a.form)

        abbrev child : Child row (at + 2) a.form pos out (scan n b a.form) s out₁
        child = child-of a.became

        made-scan : scan n b Made ≡ scanned child.took (map negate (map negate child.left))
        made-scan = scan-not n b (not_of a.form) child.took (map negate child.left) (scan-not n (not b) a.form child.took child.left (ap (λ (c : Bool). scan n c a.form) (not-not b) ∙ child.is))

        made-words : length (encode Made) ≡ suc (suc (length (encode a.form)))
        made-words = let u = not-words (not_of a.form) in let v = not-words a.form in omega arith

        tell-made : (r : Scanned) (out₂ : List ℕ) → Became row at Made pos out (scanned child.took (map negate (map negate child.left))) r out₂ → ScanTold (scan n b) row d at pos out (Some r) out₂
        tell-made r out₂ m = tell (scan n b) row d at pos out r out₂ Made _ (inner-got a.form _ a.is) (rw made-scan m)

        -- the child is gone, and both with it
        pub twice-gone : s.end ≡ None → ScanTold (scan n b) row d at pos out (Some s) out₁
        unfolding Left
        twice-gone q = tell-made s out₁ (go child.left child.became)
          where
            go : (g : Option Form) → Became row (at + 2) a.form pos out (scanned child.took g) s out₁ → Became row at Made pos out (scanned child.took (map negate (map negate g))) s out₁
            go (some g) c = absurd (some-none s.end c.left.1 q)
            go absent c =
                let w = made-words in
                let u = c.next in
                let v = c.short in
                record { next = omega arith; left = c.left; short = omega arith }

        module _ (low : pos ≤ length out) (l : ℕ) (q : s.end ≡ Some l) where
          -- what is left of it stands at pos
          pub twice-room : (pos < l) × (l ≤ length out₁) × (get_or out₁ pos 0 ≡ 8 → pos + 2 ≤ l)
          unfolding Left
          twice-room = go child.left child.became.left
            where
              go : (g : Option Form) → Left row pos out (scanned child.took g) s out₁ → (pos < l) × (l ≤ length out₁) × (get_or out₁ pos 0 ≡ 8 → pos + 2 ≤ l)
              go (some g) m =
                  let w = rw q at m.2 in
                  let e = wrote-end pos l out (encode g) out₁ w in
                  let p = some_words g in
                  let i = wrote-in pos l out (encode g) out₁ low w in
                  (omega arith, i, two-words pos l out₁ (omega arith) m.3 (wrote_self pos l out (encode g) out₁ low w))
              go absent m = absurd (none-some s.end m.1 l q)

          pub twice-became : (e : ℕ) (out₂ : List ℕ) → ((k : Form) → Neat k → Wrote pos out₁ (encode k) l out₁ → Wrote pos out₁ (encode (negate (negate k))) e out₂)
              → ScanTold (scan n b) row d at pos out (Some (record { next = s.next; found = s.found; end = Some e })) out₂
          unfolding Left
          twice-became e out₂ fin = tell-made _ out₂ (go child.left child.became)
            where
              go : (g : Option Form) → Became row (at + 2) a.form pos out (scanned child.took g) s out₁
                  → Became row at Made pos out (scanned child.took (map negate (map negate g))) (record { next = s.next; found = s.found; end = Some e }) out₂
              go absent c = absurd (none-some s.end c.left.1 l q)
              go (some g) c =
                  let m = c.left.3 in
                  let p = rw q at c.left.2 in
                  let u = fin g m (wrote_self pos l out (encode g) out₁ low p) in
                  let v : Wrote pos out (encode (negate (negate g))) e out₂ = based pos e out out₁ (encode (negate (negate g))) out₂ (kept pos l out (encode g) out₁ low p pos (omega arith)) u in
                  let i = wrote-end pos e out (encode (negate (negate g))) out₂ v in
                  let j = wrote-end pos l out (encode g) out₁ p in
                  let k = negate-words m in
                  let k' = negate-words (neat-negate m) in
                  let w = made-words in
                  let y = c.next in
                  let z = rw q at c.short in
                  record { next = omega arith; left = (c.left.0, refl, v, neat-negate (neat-negate m)); short = omega arith }

        -- the marks
        module _ (ms ms₁ : List ℕ) (m : ScanMarks (scan n b) row (d - 2) (at + 2) pos ms ms₁) where
          left-marks : ms₁ ≡ mark_left child.left pos ms
          left-marks = rw child.is at (child-marks a ms ms₁ m)

          tell-marked : (ms₂ : List ℕ) → ms₂ ≡ mark_left (map negate (map negate child.left)) pos ms → ScanMarks (scan n b) row d at pos ms ms₂
          tell-marked ms₂ e = tell-marks (scan n b) pos ms ms₂ (decode d pred (drop at row)) Made _ (inner-got a.form _ a.is) (rw made-scan e)

          pub twice-gone-marks : s.end ≡ None → ScanMarks (scan n b) row d at pos ms ms₁
          unfolding Left
          twice-gone-marks q = tell-marked ms₁ (go child.left child.became.left left-marks)
            where
              go : (g : Option Form) → Left row pos out (scanned child.took g) s out₁ → ms₁ ≡ mark_left g pos ms → ms₁ ≡ mark_left (map negate (map negate g)) pos ms
              go (some g) l e = absurd (some-none s.end l.1 q)
              go absent l e = e

          pub twice-marks : pos ≤ length out → (l : ℕ) → s.end ≡ Some l → ClearFrom pos ms → (ms₂ : List ℕ)
              → ((k : Form) (m : List ℕ) → Neat k → Wrote pos out₁ (encode k) l out₁ → ClearFrom pos m → ms₁ ≡ mark k pos 0 m → ms₂ ≡ mark (negate (negate k)) pos 0 m) → ScanMarks (scan n b) row d at pos ms ms₂
          unfolding Left
          twice-marks low l q clear ms₂ fin = tell-marked ms₂ (go child.left child.became.left left-marks)
            where
              go : (g : Option Form) → Left row pos out (scanned child.took g) s out₁ → ms₁ ≡ mark_left g pos ms → ms₂ ≡ mark_left (map negate (map negate g)) pos ms
              go (some g) m e = fin g ms m.3 (wrote_self pos l out (encode g) out₁ low (rw q at m.2)) clear e
              go absent m e = absurd (none-some s.end m.1 l q)
