-- What stands in the output row once both sides of an implication are scanned. Assumes nothing.
use mathlib.Core.Path.{◌≡◌, refl, ap, ◌∙◌}
use mathlib.Core.Bool.{true, false}
use mathlib.Core.Option.{Option, none as absent, some}
use mathlib.Core.List.{List, [], ◌∷◌, ◌++◌, append-nil}
use Prim.Native.Nat.{ℕ, suc, ◌+◌, ◌-◌, ◌≤◌}
use native.Mathlib.Omega.{arith}
use lib.ListN.{length, get_or, take, drop, set, length-set}
use lib.Seq.{take-set-le}
use Rattle.std.specs.Prelude.{Option as Maybe, Some, None}
use Rattle.std.specs.Option.{unwrap_or}
use Rattle.tree.specs.Form.{Form, encode}
use Rattle.tree.specs.Tag.{pred}
use Rattle.rules.specs.Replacement.{Taken, taken, nothing}
use Rattle.rules.specs.Scan.{Scan, scanned, negate, implies, scan}
use Rattle.places.specs.Internal.Wrote.{Wrote}
use Rattle.one_point.specs.Internal.Writes.{left_words, Neat, neat-other}
use Rattle.one_point.specs.Internal.Parts.{TookIs}
use Rattle.one_point.specs.Internal.Scans.{Left, Became, ScanTold, Entered, next_scan}
use Rattle.one_point.specs.declared.scanned.Scanned.{Scanned}
use Rattle.places.proofs.WroteLaws.{wrote-end, wrote_on, wrote-word, kept, wrote_self, based}
use Rattle.one_point.proofs.EndLaws.{none-some, some-none}
use Rattle.one_point.proofs.RebuildLaws.{implies_of, implies-words, scan-left, scan-both}
use Rattle.one_point.proofs.BecameLaws.{neat-negate, negate-words, Child, child-of, child-room}
use Rattle.reader.specs.Internal.Reads.{mark}
use Rattle.form.specs.Decode.{decode}
use Rattle.one_point.specs.Internal.Marks.{mark_left, ClearFrom, ScanMarks}
use Rattle.one_point.proofs.MarkLaws.{tell-marks}
use Rattle.one_point.proofs.ScanMarkLaws.{child-marks}
use Rattle.one_point.proofs.ReadLaws.{ScannedAt, told-ok, told-no, tell, tell_no, implies-tag, first-no, two-got, second-no}

pub scan-implies : (n : ℕ) (l r : Form) (x y : Taken) (g h : Option Form) → scan n true l ≡ scanned x g → next_scan x (scan n false r) r ≡ scanned y h → scan n false (implies_of l r) ≡ scanned y (implies g h)
unfolding next_scan
scan-implies n l r (taken i e) y g h a b =
    let c : taken i e ≡ y = cc in
    let d : some r ≡ h = cc in
    rw (← c, ← d) (scan-left n l r i e g a)
scan-implies n l r nothing y g h a b = scan-both n l r y g h a b

same-words : (pos end : ℕ) (out ws out₁ out₂ : List ℕ) → Wrote pos out ws end out₁ → take end out₂ ≡ take end out₁ → Wrote pos out ws end out₂
unfolding Wrote
same-words pos end out ws out₁ out₂ w e = (w.0, e ∙ w.1)

not_eight : ◌≡◌ {A = ℕ} 251 8 → ⊥
not_eight e = omega arith

module _ (row : List ℕ) (at pos : ℕ) (f l r : Form) (words : length (encode f) ≡ suc (length (encode l) + length (encode r))) (out out₁ out₂ : List ℕ) (low : pos + 1 ≤ length out) (s t : Scanned) where
  low-set : pos + 1 ≤ length (set out pos 251)
  low-set = rw (length-set out pos 251) low

  front : take pos (set out pos 251) ≡ take pos out
  front = take-set-le pos out pos 251 (omega arith)

  abbrev Now : Taken → Option Form → Scanned → List ℕ → Type 0
  Now y k a b = Became row at f pos out (scanned y k) a b

  module _ (x y : Taken) where
    alone : (g h : Option Form) → s.end ≡ None → Became row (at + 1) l (pos + 1) (set out pos 251) (scanned x g) s out₁
        → Became row (at + 1 + length (encode l)) r pos out₁ (scanned y h) t out₂ → Now y (implies g h) t out₂
    unfolding Left
    alone (some g) h q a b = absurd (some-none s.end a.left.1 q)
    alone absent h q a b =
        let c = b.next in
        let d = b.short in
        let k : take pos out₁ ≡ take pos out = kept (pos + 1) (pos + 1) (set out pos 251) [] out₁ low-set (rw q at a.left.2) pos (omega arith) ∙ front in
        record { next = omega arith; left = (b.left.0, b.left.1, based pos (unwrap_or t.end pos) out out₁ (left_words h) out₂ k b.left.2, b.left.3); short = omega arith }

    module _ (w : ℕ) (q : s.end ≡ Some w) where
      both : (g h : Option Form) → (v : ℕ) → t.end ≡ Some v → Became row (at + 1) l (pos + 1) (set out pos 251) (scanned x g) s out₁
          → Became row (at + 1 + length (encode l)) r w out₁ (scanned y h) t out₂ → Now y (implies g h) t out₂
      unfolding Left encode
      both absent h v p a b = absurd (none-some s.end a.left.1 w q)
      both (some g) absent v p a b = absurd (none-some t.end b.left.1 v p)
      both (some g) (some h) v p a b =
          let c = b.next in
          let d = rw p at b.short in
          let d' = rw q at a.short in
          let m : Wrote (pos + 1) (set out pos 251) (encode g ++ encode h) v out₂ = wrote_on (pos + 1) w v (set out pos 251) (encode g) out₁ (encode h) out₂ (rw q at a.left.2) (rw p at b.left.2) in
          let u : Wrote pos out (251 ∷ (encode g ++ encode h)) v out₂ = wrote_on pos (pos + 1) v out (251 ∷ []) (set out pos 251) (encode g ++ encode h) out₂ (wrote-word pos 251 out (omega arith)) m in
          record { next = omega arith; left = (b.left.0, b.left.1, rw (p, append-nil) u, neat-other not_eight); short = rw p (omega arith) }

      -- the left side still stands where the right one is gone
      left-stands : (g : Form) → Became row (at + 1) l (pos + 1) (set out pos 251) (scanned x (some g)) s out₁ → t.end ≡ None → Became row (at + 1 + length (encode l)) r w out₁ (scanned y absent) t out₂
          → Wrote (pos + 1) (set out pos 251) (encode g) w out₂
      unfolding Left
      left-stands g a p b =
          let (i, j) = child-room pos low-set a w q in
          same-words (pos + 1) w (set out pos 251) (encode g) out₁ out₂ (rw q at a.left.2) (kept w w out₁ [] out₂ j (rw p at b.left.2) w (omega arith))

      pub left_there : (g : Form) → Became row (at + 1) l (pos + 1) (set out pos 251) (scanned x (some g)) s out₁ → t.end ≡ None → Became row (at + 1 + length (encode l)) r w out₁ (scanned y absent) t out₂
          → Wrote (pos + 1) out₂ (encode g) w out₂
      left_there g a p b = wrote_self (pos + 1) w (set out pos 251) (encode g) out₂ low-set (left-stands g a p b)

      left-only : (g h : Option Form) → t.end ≡ None → Became row (at + 1) l (pos + 1) (set out pos 251) (scanned x g) s out₁
          → Became row (at + 1 + length (encode l)) r w out₁ (scanned y h) t out₂ → (e : ℕ) (out₃ : List ℕ)
          → ((k : Form) → Neat k → Wrote (pos + 1) out₂ (encode k) w out₂ → Wrote pos out₂ (encode (negate k)) e out₃)
          → Now y (implies g h) (record { next = t.next; found = t.found; end = Some e }) out₃
      unfolding Left
      left-only absent h p a b e out₃ fin = absurd (none-some s.end a.left.1 w q)
      left-only (some g) (some h) p a b e out₃ fin = absurd (some-none t.end b.left.1 p)
      left-only (some g) absent p a b e out₃ fin =
          let c = b.next in
          let d = rw q at a.short in
          let z = rw q at a.left.2 in
          let v = left-stands g a p b in
          let u = fin g a.left.3 (left_there g a p b) in
          let o : Wrote pos out (encode (negate g)) e out₃ = based pos e out out₂ (encode (negate g)) out₃ (kept (pos + 1) w (set out pos 251) (encode g) out₂ low-set v pos (omega arith) ∙ front) u in
          let n = wrote-end pos e out (encode (negate g)) out₃ o in
          let n' = wrote-end (pos + 1) w (set out pos 251) (encode g) out₁ z in
          let n'' = negate-words a.left.3 in
          record { next = omega arith; left = (b.left.0, refl, o, neat-negate a.left.3); short = omega arith }

moved_to : (z : Form → Scan) (row : List ℕ) (d : ℕ) (ms ms' : List ℕ) (at at' pos pos' : ℕ) → at ≡ at' → pos ≡ pos' → ScanMarks z row d at pos ms ms' → ScanMarks z row d at' pos' ms ms'
moved_to z row d ms ms' at at' pos pos' a b m = rw (a, b) at m

took_from : (row : List ℕ) (at pos : ℕ) (f : Form) (out out' : List ℕ) (s : Scanned) (x : Taken) (g : Option Form) → Became row at f pos out (scanned x g) s out' → TookIs row x s.found
unfolding Left
took_from row at pos f out out' s x g b = b.left.0

moved : (z : Form → Scan) (row : List ℕ) (d : ℕ) (out : List ℕ) (r : Maybe Scanned) (out' : List ℕ) (at at' pos pos' : ℕ) → at ≡ at' → pos ≡ pos' → ScanTold z row d at pos out r out' → ScanTold z row d at' pos' out r out'
moved z row d out r out' at at' pos pos' e h t = rw (← e, ← h) t

-- from what the scans of both sides tell
module _ (row : List ℕ) (d at n pos : ℕ) (x : Entered row d at) (tag : get_or row at 0 ≡ 251) (out out₁ : List ℕ) where
  pub left-no : ScanTold (scan n true) row (d - 1) (at + 1) (pos + 1) (set out pos 251) None out₁ → ScanTold (scan n false) row d at pos out None out₁
  left-no t =
      let h = told-no (scan n true) row (d - 1) (at + 1) (pos + 1) (set out pos 251) out₁ t in
      tell_no (scan n false) row d at pos out out₁ (first-no row at x.inside 251 2 0 implies-tag tag d x.deeper pred (pred ∷ []) refl h)

  module _ (s : Scanned) (a : ScannedAt (scan n true) row (d - 1) (at + 1) (pos + 1) (set out pos 251) s out₁) (start : ℕ) (out₂ : List ℕ) (r : Maybe Scanned)
      (told : (y : Taken) → TookIs row y s.found → ScanTold (λ f. next_scan y (scan n false f) f) row (d - 1) s.next start out₁ r out₂) where
    abbrev left : Child row (at + 1) a.form (pos + 1) (set out pos 251) (scan n true a.form) s out₁
    left = child-of a.became

    right-told : (from : ℕ) → start ≡ from → ScanTold (λ f. next_scan left.took (scan n false f) f) row (d - 1) (at + 1 + length (encode a.form)) from out₁ r out₂
    right-told from h =
        moved (λ f. next_scan left.took (scan n false f) f) row (d - 1) out₁ r out₂ s.next (at + 1 + length (encode a.form)) start from a.became.next h
        (told left.took (took_from row (at + 1) (pos + 1) a.form (set out pos 251) out₁ s left.took left.left left.became))

    pub right-no : r ≡ None → ScanTold (scan n false) row d at pos out None out₂
    right-no e =
        let h = told-no (λ f. next_scan left.took (scan n false f) f) row (d - 1) (at + 1 + length (encode a.form)) start out₁ out₂ (rw e at (right-told start refl)) in
        tell_no (scan n false) row d at pos out out₂ (second-no row at x.inside 251 2 0 implies-tag tag d x.deeper pred refl a.form _ a.is h)

    module _ (low : pos + 1 ≤ length out) (t : Scanned) (ok : r ≡ Some t) where
      module _ (from : ℕ) (h : start ≡ from) where
        right : ScannedAt (λ f. next_scan left.took (scan n false f) f) row (d - 1) (at + 1 + length (encode a.form)) from out₁ t out₂
        right = told-ok (λ f. next_scan left.took (scan n false f) f) row (d - 1) (at + 1 + length (encode a.form)) from out₁ t out₂ (rw ok at (right-told from h))

        abbrev Made : Form
        Made = implies_of a.form right.form

        after : Child row (at + 1 + length (encode a.form)) right.form from out₁ (next_scan left.took (scan n false right.form) right.form) t out₂
        after = child-of right.became

        made-scan : scan n false Made ≡ scanned after.took (implies left.left after.left)
        made-scan = scan-implies n a.form right.form left.took after.took left.left after.left left.is after.is

        tell-made : (z : Scanned) (out₃ : List ℕ) → Became row at Made pos out (scanned after.took (implies left.left after.left)) z out₃ → ScanTold (scan n false) row d at pos out (Some z) out₃
        tell-made z out₃ b =
            tell (scan n false) row d at pos out z out₃ Made _ (two-got row at x.inside 251 2 0 implies-tag tag d x.deeper pred refl a.form _ a.is right.form _ right.is) (rw made-scan b)

      pub right-alone : s.end ≡ None → start ≡ pos → ScanTold (scan n false) row d at pos out (Some t) out₂
      right-alone q h =
          let y = after pos h in
          let r = (right pos h).form in
          tell-made pos h t out₂ (alone row at pos (Made pos h) a.form r (implies-words a.form r) out out₁ out₂ low s t left.took y.took left.left y.left q left.became y.became)

      pub both_left : (w : ℕ) → s.end ≡ Some w → (v : ℕ) → t.end ≡ Some v → start ≡ w → ScanTold (scan n false) row d at pos out (Some t) out₂
      both_left w q v p h =
          let y = after w h in
          let z = (right w h).form in
          tell-made w h t out₂ (both row at pos (Made w h) a.form z (implies-words a.form z) out out₁ out₂ low s t left.took y.took w q left.left y.left v p left.became y.became)

      pub left_alone : (w : ℕ) → s.end ≡ Some w → t.end ≡ None → start ≡ w → (e : ℕ) (out₃ : List ℕ)
          → ((k : Form) → Neat k → Wrote (pos + 1) out₂ (encode k) w out₂ → Wrote pos out₂ (encode (negate k)) e out₃)
          → ScanTold (scan n false) row d at pos out (Some (record { next = t.next; found = t.found; end = Some e })) out₃
      left_alone w q p h e out₃ fin =
          let y = after w h in
          let z = (right w h).form in
          tell-made w h _ out₃ (left-only row at pos (Made w h) a.form z (implies-words a.form z) out out₁ out₂ low s t left.took y.took w q left.left y.left p left.became y.became e out₃ fin)

      -- their marks
      module _ (ms ms₁ ms₂ : List ℕ) (m : ScanMarks (scan n true) row (d - 1) (at + 1) (pos + 1) ms ms₁)
          (m' : (y : Taken) → TookIs row y s.found → ScanMarks (λ f. next_scan y (scan n false f) f) row (d - 1) s.next start ms₁ ms₂) where
        left-marks : ms₁ ≡ mark_left left.left (pos + 1) ms
        left-marks = rw left.is at (child-marks a ms ms₁ m)

        module _ (from : ℕ) (h : start ≡ from) where
          right-marks : ms₂ ≡ mark_left (after from h).left from ms₁
          right-marks =
              let k = m' left.took (took_from row (at + 1) (pos + 1) a.form (set out pos 251) out₁ s left.took left.left left.became) in
              let k' : ScanMarks (λ f. next_scan left.took (scan n false f) f) row (d - 1) (at + 1 + length (encode a.form)) from ms₁ ms₂
              = moved_to (λ f. next_scan left.took (scan n false f) f) row (d - 1) ms₁ ms₂ s.next (at + 1 + length (encode a.form)) start from a.became.next h k in
              rw (after from h).is at (child-marks (right from h) ms₁ ms₂ k')

          tell-marked : (ms₃ : List ℕ) → ms₃ ≡ mark_left (implies left.left (after from h).left) pos ms → ScanMarks (scan n false) row d at pos ms ms₃
          tell-marked ms₃ e =
              tell-marks (scan n false) pos ms ms₃ (decode d pred (drop at row)) (Made from h) _ (two-got row at x.inside 251 2 0 implies-tag tag d x.deeper pred refl a.form _ a.is (right from h).form _ (right from h).is) (rw (made-scan from h) e)

        pub alone-marks : s.end ≡ None → start ≡ pos → ScanMarks (scan n false) row d at pos ms ms₂
        unfolding Left
        alone-marks q h = tell-marked pos h ms₂ (go left.left left.became.left left-marks)
          where
            go : (g : Option Form) → Left row (pos + 1) (set out pos 251) (scanned left.took g) s out₁ → ms₁ ≡ mark_left g (pos + 1) ms → ms₂ ≡ mark_left (implies g (after pos h).left) pos ms
            go (some g) l e = absurd (some-none s.end l.1 q)
            go absent l e = right-marks pos h ∙ ap (mark_left (after pos h).left pos) e

        module _ (w : ℕ) (q : s.end ≡ Some w) (h : start ≡ w) where
          pub both-marks : (v : ℕ) → t.end ≡ Some v → ScanMarks (scan n false) row d at pos ms ms₂
          unfolding Left mark
          both-marks v p = tell-marked w h ms₂ (go left.left (after w h).left left.became.left (after w h).became.left left-marks (right-marks w h))
            where
              go : (g k : Option Form) → Left row (pos + 1) (set out pos 251) (scanned left.took g) s out₁ → Left row w out₁ (scanned (after w h).took k) t out₂ → ms₁ ≡ mark_left g (pos + 1) ms → ms₂ ≡ mark_left k w ms₁
                  → ms₂ ≡ mark_left (implies g k) pos ms
              go absent k l r e f = absurd (none-some s.end l.1 w q)
              go (some g) absent l r e f = absurd (none-some t.end r.1 v p)
              go (some g) (some k) l r e f = f ∙ rw (wrote-end (pos + 1) w (set out pos 251) (encode g) out₁ (rw q at l.2), e) refl

          pub left-only-marks : t.end ≡ None → ClearFrom pos ms → (ms₃ : List ℕ)
              → ((k : Form) (l : List ℕ) → Neat k → Wrote (pos + 1) out₂ (encode k) w out₂ → ClearFrom pos l → ms₂ ≡ mark k (pos + 1) 0 l → ms₃ ≡ mark (negate k) pos 0 l) → ScanMarks (scan n false) row d at pos ms ms₃
          unfolding Left
          left-only-marks p clear ms₃ fin = tell-marked w h ms₃ (go left.left (after w h).left left.became (after w h).became left-marks (right-marks w h))
            where
              go : (g k : Option Form) → Became row (at + 1) a.form (pos + 1) (set out pos 251) (scanned left.took g) s out₁ → Became row (at + 1 + length (encode a.form)) (right w h).form w out₁ (scanned (after w h).took k) t out₂
                  → ms₁ ≡ mark_left g (pos + 1) ms → ms₂ ≡ mark_left k w ms₁ → ms₃ ≡ mark_left (implies g k) pos ms
              go absent k l r e f = absurd (none-some s.end l.left.1 w q)
              go (some g) (some k) l r e f = absurd (some-none t.end r.left.1 p)
              go (some g) absent l r e f =
                  let y = (right w h).form in
                  fin g ms l.left.3 (left_there row at pos (Made w h) a.form y (implies-words a.form y) out out₁ out₂ low s t left.took (after w h).took w q g l p r) clear (f ∙ e)
