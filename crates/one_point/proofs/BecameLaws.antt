-- What stands in the output row once the children of a not or of an implication are scanned. Assumes nothing.
use mathlib.Core.Path.{◌≡◌, refl, ap, sym, ◌∙◌}
use mathlib.Core.Bool.{Bool, not}
use mathlib.Core.Option.{Option, none as absent, some, map}
use mathlib.Core.List.{List, [], append-nil}
use Prim.Native.Nat.{ℕ, suc, ◌+◌, ◌-◌, ◌≤◌}
use native.Mathlib.Omega.{arith}
use lib.ListN.{length, get_or, take}
use Rattle.std.specs.Prelude.{Some, None}
use Rattle.tree.specs.Form.{Form, node, noted, encode}
use Rattle.tree.specs.Tag.{pred}
use Rattle.rules.specs.Replacement.{Taken}
use Rattle.rules.specs.Scan.{Scan, scanned, negate, scan}
use Rattle.places.specs.Internal.Wrote.{Wrote}
use Rattle.one_point.specs.Internal.Writes.{Neat, neat-not, neat-other, neat-noted}
use Rattle.one_point.specs.Internal.Scans.{Left, Became, ScanTold, Entered}
use Rattle.one_point.specs.declared.scanned.Scanned.{Scanned}
use Rattle.places.proofs.PartsLaws.{some_words}
use Rattle.places.proofs.WroteLaws.{wrote-end, wrote-in, kept, wrote_self, based}
use Rattle.one_point.proofs.EndLaws.{none-some, some-none}
use Rattle.one_point.proofs.WriteLaws.{negate-other}
use Rattle.one_point.proofs.RebuildLaws.{not_of, not-words, scan-not}
use Rattle.one_point.proofs.ReadLaws.{ScannedAt, told-no, tell, tell_no, not-tag, one-got, first-no}

-- a negated predicate is neat, and has one word more at most
pub neat-negate : {f : Form} → Neat f → Neat (negate f)
neat-negate (neat-not n) = n
neat-negate (neat-other {t = t} {o = o} {ds = ds} {ks = ks} h) = rw (negate-other t o ds ks h) (neat-not (neat-other h))
neat-negate (neat-noted h) = neat-not (neat-noted h)

pub negate-words : {f : Form} → Neat f → length (encode (negate f)) ≤ suc (length (encode f))
negate-words (neat-not {f = g} n) = let a = not-words g in omega arith
negate-words (neat-other {t = t} {o = o} {ds = ds} {ks = ks} h) =
    let a = not-words (node t o ds ks) in
    let b = ap (λ z. length (encode z)) (negate-other t o ds ks h) in
    omega arith
negate-words (neat-noted {t = t} {o = o} {ds = ds} {ks = ks} h) = let a = not-words (noted t o ds ks) in omega arith

-- a scanned child, taken apart
pub record Child (row : List ℕ) (at : ℕ) (f : Form) (pos : ℕ) (out : List ℕ) (z : Scan) (r : Scanned) (out' : List ℕ) : Type 0 where
  pub took : Taken
  pub left : Option Form
  pub is : z ≡ scanned took left
  pub became : Became row at f pos out (scanned took left) r out'

pub child-of : {row : List ℕ} {at : ℕ} {f : Form} {pos : ℕ} {out : List ℕ} {z : Scan} {r : Scanned} {out' : List ℕ} → Became row at f pos out z r out' → Child row at f pos out z r out'
child-of {z = scanned x g} b = record { took = x; left = g; is = refl; became = b }

-- what is left of a child has a word, and ends in the row
pub child-room : {row : List ℕ} {at : ℕ} {f : Form} {z : Scan} {out out' : List ℕ} {r : Scanned} (pos : ℕ) → pos + 1 ≤ length out → Became row at f (pos + 1) out z r out' → (e : ℕ) → r.end ≡ Some e
    → (pos + 2 ≤ e) × (e ≤ length out')
unfolding Left
child-room {z = scanned x absent} {r = r} pos low b e q = absurd (none-some r.end b.left.1 e q)
child-room {z = scanned x (some g)} {out} {out'} pos low b e q =
    let v = rw q at b.left.2 in
    let j = wrote-end (pos + 1) e out (encode g) out' v in
    let w = some_words g in
    (omega arith, wrote-in (pos + 1) e out (encode g) out' low v)

module _ (row : List ℕ) (at n pos : ℕ) (b : Bool) (f g : Form) (is : f ≡ not_of g) (words : length (encode f) ≡ suc (length (encode g))) (out out₁ : List ℕ) (low : pos + 1 ≤ length out) (s : Scanned) where
  module _ (x : Taken) where
    gone-left : (h : Option Form) → scan n (not b) g ≡ scanned x h → s.end ≡ None → Became row (at + 1) g (pos + 1) out (scanned x h) s out₁ → Became row at f pos out (scanned x (map negate h)) s out₁
    unfolding Left Wrote
    gone-left (some h) e q c = absurd (some-none s.end c.left.1 q)
    gone-left absent e q c =
        let a = c.next in
        let w : Wrote (pos + 1) out [] (pos + 1) out₁ = rw q at c.left.2 in
        record {
          next = omega arith;
          left = (c.left.0, c.left.1, rw q (omega arith, kept (pos + 1) (pos + 1) out [] out₁ low w pos (omega arith) ∙ sym (append-nil (take pos out))), tt);
          short = rw q (omega arith);
        }

    not_left : (h : Option Form) → scan n (not b) g ≡ scanned x h → (l : ℕ) → s.end ≡ Some l → Became row (at + 1) g (pos + 1) out (scanned x h) s out₁ → (e : ℕ) (out₂ : List ℕ)
        → ((k : Form) → Neat k → Wrote (pos + 1) out₁ (encode k) l out₁ → Wrote pos out₁ (encode (negate k)) e out₂)
        → Became row at f pos out (scanned x (map negate h)) (record { next = s.next; found = s.found; end = Some e }) out₂
    unfolding Left
    not_left absent q l w c e out₂ t = absurd (none-some s.end c.left.1 l w)
    not_left (some h) q l w c e out₂ t =
        let a = c.next in
        let d = rw w at c.short in
        let p = rw w at c.left.2 in
        let m = c.left.3 in
        let u = t h m (wrote_self (pos + 1) l out (encode h) out₁ low p) in
        let v : Wrote pos out (encode (negate h)) e out₂ = based pos e out out₁ (encode (negate h)) out₂ (kept (pos + 1) l out (encode h) out₁ low p pos (omega arith)) u in
        let i = wrote-end pos e out (encode (negate h)) out₂ v in
        let j = wrote-end (pos + 1) l out (encode h) out₁ p in
        let k = negate-words m in
        record { next = omega arith; left = (c.left.0, refl, v, neat-negate m); short = omega arith }

-- a not, from what the scan of its child tells
module _ (row : List ℕ) (d at n pos : ℕ) (b : Bool) (x : Entered row d at) (tag : get_or row at 0 ≡ 8) (out out₁ : List ℕ) where
  pub not-no : ScanTold (scan n (not b)) row (d - 1) (at + 1) (pos + 1) out None out₁ → ScanTold (scan n b) row d at pos out None out₁
  not-no t =
      let h = told-no (scan n (not b)) row (d - 1) (at + 1) (pos + 1) out out₁ t in
      tell_no (scan n b) row d at pos out out₁ (first-no row at x.inside 8 1 0 not-tag tag d x.deeper pred [] refl h)

  module _ (s : Scanned) (low : pos + 1 ≤ length out) (a : ScannedAt (scan n (not b)) row (d - 1) (at + 1) (pos + 1) out s out₁) where
    abbrev Made : Form
    Made = not_of a.form

    -- nothing is left of the child, nor of the not
    pub not-gone : s.end ≡ None → ScanTold (scan n b) row d at pos out (Some s) out₁
    not-gone q =
        let y = child-of a.became in
        tell (scan n b) row d at pos out _ out₁ Made _ (one-got row at x.inside 8 1 0 not-tag tag d x.deeper pred refl a.form _ a.is)
        (rw (scan-not n b a.form y.took y.left y.is) (gone-left row at n pos b Made a.form refl (not-words a.form) out out₁ low s y.took y.left y.is q y.became))

    -- what is left of the child is negated
    pub not-became : (l : ℕ) → s.end ≡ Some l → (e : ℕ) (out₂ : List ℕ) → ((k : Form) → Neat k → Wrote (pos + 1) out₁ (encode k) l out₁ → Wrote pos out₁ (encode (negate k)) e out₂)
        → ScanTold (scan n b) row d at pos out (Some (record { next = s.next; found = s.found; end = Some e })) out₂
    not-became l q e out₂ t =
        let y = child-of a.became in
        tell (scan n b) row d at pos out _ out₂ Made _ (one-got row at x.inside 8 1 0 not-tag tag d x.deeper pred refl a.form _ a.is)
        (rw (scan-not n b a.form y.took y.left y.is) (not_left row at n pos b Made a.form refl (not-words a.form) out out₁ low s y.took y.left y.is l q y.became e out₂ t))
