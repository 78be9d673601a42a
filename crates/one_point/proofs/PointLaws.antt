-- One point: the scan of the body, and the place it fills. Assumes nothing.
use mathlib.Core.Path.{◌≡◌, refl, ap, sym, ◌∙◌}
use mathlib.Core.Bool.{Bool, true, false}
use mathlib.Core.Option.{Option, none as absent, some}
use mathlib.Core.List.{List, [], ◌∷◌, ◌++◌, append-nil}
use Prim.Native.Nat.{ℕ, zero, suc, ◌+◌, ◌-◌, ◌≤◌, ◌<◌}
use native.Mathlib.Nat.{zero-add}
use native.Mathlib.Omega.{arith}
use lib.Dec.{eqb}
use lib.ListN.{length, take, drop, replicate, length-take, length-drop, length-replicate}
use Rattle.std.specs.Prelude.{Option as Maybe, Some, None, is_none}
use Rattle.std.specs.Option.{unwrap_or}
use Rattle.tree.specs.Form.{Form, pick, encode}
use Rattle.tree.specs.Tag.{Sort, expr, pred}
use Rattle.form.specs.Decode.{Got, got, no-form, decode, whole as whole_of}
use Rattle.form.specs.Answer.{Outcome, stop, told, written}
use Rattle.form.specs.Answer.{Answer}
use Rattle.form.proofs.DecodeLaws.{clash, Ok, decode-encode}
use Rattle.form.proofs.HeadLaws.{gone}
use Rattle.reader.specs.Internal.Reads.{mark}
use Rattle.rules.specs.Fill.{Decl}
use Rattle.rules.specs.Replacement.{Taken, taken, nothing}
use Rattle.rules.specs.Scan.{Scan, scanned, scan}
use Rattle.rules.specs.Point.{polarity, rest_of, reduce, of_result}
use Rattle.places.specs.Internal.Wrote.{Wrote}
use Rattle.places.specs.Internal.Positions.{Cleared}
use Rattle.one_point.specs.Internal.Writes.{left_words, is_gone}
use Rattle.one_point.specs.Internal.Parts.{TookIs}
use Rattle.one_point.specs.Internal.Scans.{Left, Became, ScanTold}
use Rattle.one_point.specs.Internal.Reduce.{operator_in, decls_in, placed_outcome, Placing, empty_word, reduced_in, body_outcome, told_if, written_if, Reducing, Reading, Shallow, RestMarking, rest_words}
use Rattle.one_point.specs.Internal.Marks.{mark_left, MarksTold, ScanMarks}
use Rattle.places.specs.declared.sides.Replacement.{Replacement}
use Rattle.one_point.specs.declared.scanned.Scanned.{Scanned}
use Rattle.places.proofs.SidesLaws.{part-words}
use Rattle.places.proofs.PartsLaws.{some_words, in_row}
use Rattle.one_point.proofs.EndLaws.{none_is, some_is}
use Rattle.one_point.proofs.PartsStepLaws.{took-none, took-some}
use Rattle.one_point.proofs.ReadLaws.{ScannedAt, told-ok, told-no}
use Rattle.one_point.proofs.ScanLimits.{OkLeft, OkScan, rest_ok, scan-ok}
use Rattle.rules.proofs.OkLaws.{ok-deep}
use Rattle.one_point.proofs.MarkLaws.{mark-long, front-marks}
use Rattle.one_point.proofs.PlaceLaws.{whole-pred}
use Rattle.form.specs.declared.answer.Refusal.TheVariants.{NothingToRewrite}

-- a row that is the words of a well-formed form
whole : {s : Sort} {d : ℕ} (row : List ℕ) (f : Form) → row ≡ encode f → Ok d s f → decode d s row ≡ got f []
whole {s} row f e ok = rw (e, ← append-nil (encode f)) (decode-encode ok [])

-- the words of an emptied body
empty-words : (t : ℕ) → empty_word t ∷ [] ≡ encode (rest_of (polarity t) absent)
unfolding encode
empty-words t = go (eqb t 852)
  where
    go : (b : Bool) → pick b 610 611 ∷ [] ≡ encode (rest_of b absent)
    go true = refl
    go false = refl

-- the equality that the code found, and the one that the scan took
module _ (row : List ℕ) (pos : ℕ) (out : List ℕ) (s : Scanned) (out' : List ℕ) where
  found_none : (i : ℕ) (x : Form) (g : Option Form) → Left row pos out (scanned (taken i x) g) s out' → s.found ≡ None → ⊥
  unfolding Left
  found_none i x g l e = took-some row i x s.found l.0 (rw e refl)

  found-taken : (i : ℕ) (x : Form) (g : Option Form) → Left row pos out (scanned (taken i x) g) s out' → (y : Replacement) → s.found ≡ Some y
      → (i ≡ y.target) × (y.end ≡ y.start + length (encode x)) × (drop y.start row ≡ encode x ++ drop y.end row)
  unfolding Left TookIs
  found-taken i x g l y e =
      let t = rw e at l.0 in
      (sym t.0, t.1, t.2)

  found_nothing : (g : Option Form) → Left row pos out (scanned nothing g) s out' → (y : Replacement) → s.found ≡ Some y → ⊥
  unfolding Left
  found_nothing g l y e = took-none row s.found l.0 (rw e refl)

  left-written : (x : Taken) (g : Option Form) → Left row pos out (scanned x g) s out' → (is_none s.end ≡ is_gone g) × Wrote pos out (left_words g) (unwrap_or s.end pos) out'
  unfolding Left
  left-written x g l = (l.1, l.2)

left-mark : (b : Bool) (g : Option Form) (ms : List ℕ) → mark_left g 0 ms ≡ mark (rest_of b g) 0 0 ms
unfolding mark
left-mark b (some g) ms = refl
left-mark true absent ms = refl
left-mark false absent ms = refl

rest-deep : (d : ℕ) → 0 < d → (b : Bool) (g : Option Form) → OkLeft d g → Ok d pred (rest_of b g)
rest-deep zero h b g o = absurd (omega arith)
rest-deep (suc d) h b g o = rest_ok {d = d} b g o

module _ (d : ℕ) (some-deep : 0 < d) (most : d ≤ 63) (head body : List ℕ) (wl : ℕ) (h : Reducing head body wl) (work work' : List ℕ) where
  abbrev t : ℕ
  t = operator_in head

  abbrev ns : List Decl
  ns = decls_in head

  -- the body is no predicate
  pub body-lost : ScanTold (scan (length ns) (polarity t)) body d 0 0 work None work' → (room : ℕ) → body_outcome d t ns body room ≡ None
  unfolding body_outcome
  body-lost scans room = rw (told-no (scan (length ns) (polarity t)) body d 0 0 work work' scans)

  module _ (s : Scanned) (scans : ScanTold (scan (length ns) (polarity t)) body d 0 0 work (Some s) work') where
    pub read-body : ScannedAt (scan (length ns) (polarity t)) body d 0 0 work s work'
    read-body = told-ok (scan (length ns) (polarity t)) body d 0 0 work s work' scans

    abbrev pub form : Form
    form = read-body.form

    -- words follow the predicate
    pub body-longer : (s.next ≡ length body → ⊥) → (room : ℕ) → body_outcome d t ns body room ≡ None
    unfolding body_outcome
    body-longer n room = go (drop (0 + length (encode form)) body) read-body.is
      where
        go : (x : List ℕ) → decode d pred body ≡ got form x → reduced_in t ns room (whole_of (decode d pred body)) ≡ None
        go [] e =
            let w = ap length (whole-pred body form d e).0 in
            let a = read-body.became.next in
            absurd (n (omega arith))
        go (w ∷ x) e = rw e

    module _ (all : s.next ≡ length body) where
      is_body : decode d pred body ≡ got form []
      is_body = let a = read-body.became.next in read-body.is ∙ ap (λ (z : List ℕ). got form z) (gone body (0 + length (encode form)) (omega arith))

      body_is : (body ≡ encode form) × Ok d pred form
      body_is = whole-pred body form d is_body

      body-long : length body ≡ length (encode form)
      body-long = ap length body_is.0

      abbrev scan_of : Scan
      scan_of = scan (length ns) (polarity t) form

      outcome-is : (room : ℕ) (z : Scan) → scan_of ≡ z → body_outcome d t ns body room ≡ Some (of_result room (reduce t ns z))
      unfolding body_outcome
      outcome-is room z e = rw (is_body, e)

      became : Became body 0 form 0 work scan_of s work'
      became = read-body.became

      -- no equality is taken
      pub none-taken : s.found ≡ None → (room : ℕ) → body_outcome d t ns body room ≡ Some (stop NothingToRewrite)
      none-taken e room = go scan_of refl became.left
        where
          go : (z : Scan) → scan_of ≡ z → Left body 0 work z s work' → body_outcome d t ns body room ≡ Some (stop NothingToRewrite)
          go (scanned (taken i x) g) q l = absurd (found_none body 0 work s work' i x g l e)
          go (scanned nothing g) q l = outcome-is room (scanned nothing g) q

      -- the equality that is taken, and where its replacement stands
      pub record Took (i a b : ℕ) : Type 0 where
        pub by : Form
        pub left : Option Form
        pub is : scan_of ≡ scanned (taken i by) left
        pub long : b ≡ a + length (encode by)
        pub there : drop a body ≡ encode by ++ drop b body
        pub gone : is_none s.end ≡ is_gone left
        pub wrote : Wrote 0 work (left_words left) (unwrap_or s.end 0) work'

      pub took : (y : Replacement) → s.found ≡ Some y → Took y.target y.start y.end
      took y e = go scan_of refl became.left
        where
          go : (z : Scan) → scan_of ≡ z → Left body 0 work z s work' → Took y.target y.start y.end
          go (scanned (taken j x) g) q l =
              let (k, m, d) = found-taken body 0 work s work' j x g l y e in
              let w = left-written body 0 work s work' (taken j x) g l in
              record { by = x; left = g; is = q ∙ ap (λ n. scanned (taken n x) g) k; long = m; there = d; gone = w.0; wrote = w.1 }
          go (scanned nothing g) q l = absurd (found_nothing body 0 work s work' g l y e)

      module _ (i a b : ℕ) (k : Took i a b) where
        pub part_in : (a ≤ b) × (b ≤ length body)
        part_in =
            let w = in_row body (encode k.by) (drop b body) a k.there (some_words k.by) in
            let l = k.long in
            (omega arith, omega arith)

        short-form : length (encode (form)) ≤ 8192
        short-form = let s = h.short in let l = body-long in omega arith

        -- what is left of the body, in the work row
        module _ (stop : ℕ) (work'' : List ℕ) (end_is : stop ≡ unwrap_or s.end 1) (words_are : take stop work'' ≡ rest_words t s.end work') where
          left_over : take stop work'' ≡ encode (rest_of (polarity t) k.left)
          unfolding Wrote
          left_over = words_are ∙ go k.left k.gone k.wrote
            where
              go : (g : Option Form) → is_none s.end ≡ is_gone g → Wrote 0 work (left_words g) (unwrap_or s.end 0) work' → rest_words t s.end work' ≡ encode (rest_of (polarity t) g)
              go (some f) e w = let (v, q) = some_is s.end e in rw q ((rw q at w).1)
              go absent e w = rw (none_is s.end e) (empty-words t)

          pub stop-low : stop ≤ 16384
          stop-low =
              let c = became.short in
              let m = short-form in
              end-is-low s.end end_is (omega arith)
            where
              end-is-low : (o : Maybe ℕ) → stop ≡ unwrap_or o 1 → unwrap_or o 0 ≤ 16384 → stop ≤ 16384
              end-is-low None e l = omega arith
              end-is-low (Some v) e l = rw e l

          took-ok : OkScan (length ns) d (scanned (taken i k.by) k.left)
          took-ok = let m = short-form in rw k.is at (scan-ok body_is.1 (omega arith) (length ns) (polarity t))

          part-is : decode 63 expr (take (b - a) (drop a body)) ≡ got k.by []
          part-is = whole (take (b - a) (drop a body)) k.by (part-words body (encode k.by) (drop b body) a b k.there k.long) (ok-deep took-ok.0.0 63 most)

          left-ok : Ok d pred (rest_of (polarity t) k.left)
          left-ok = rest-deep d some-deep (polarity t) k.left took-ok.1

          rest-is : decode 63 pred (take stop work'') ≡ got (rest_of (polarity t) k.left) []
          rest-is = whole (take stop work'') (rest_of (polarity t) k.left) left_over (ok-deep left-ok 63 most)

          -- it is as deep as the body was read
          pub shallow : Shallow d (take stop work'')
          shallow = record { some = some-deep; most = most; same = λ f e. go f (sym e ∙ rest-is) }
            where
              go : (f : Form) → ◌≡◌ {A = Got} (got f []) (got (rest_of (polarity t) k.left) []) → decode d pred (take stop work'') ≡ got f []
              go f e =
                  let q : f ≡ rest_of (polarity t) k.left = cc in
                  rw q (whole (take stop work'') (rest_of (polarity t) k.left) left_over left-ok)

          -- its marks, as the scan made them
          module _ (ms ms' : List ℕ) (x : Reading d body ms) (marks : ScanMarks (scan (length ns) (polarity t)) body d 0 0 ms ms') where
            left-marks : ms' ≡ mark_left k.left 0 ms
            unfolding MarksTold
            left-marks = go (decode d pred body) is_body marks
              where
                go : (g : Got) → g ≡ got form [] → MarksTold (scan (length ns) (polarity t)) 0 g ms ms' → ms' ≡ mark_left k.left 0 ms
                go (got f y) e q = let w : f ≡ form = cc in rw (w, k.is) at q
                go no-form e q = absurd (clash cc)

            pub stop-fits : stop ≤ length ms
            stop-fits = let c = became.short in let m = body-long in let r = x.room in let p = some_words form in stop-by s.end end_is (omega arith) (omega arith)
              where
                stop-by : (o : Maybe ℕ) → stop ≡ unwrap_or o 1 → 1 ≤ length ms → unwrap_or o 0 ≤ length ms → stop ≤ length ms
                stop-by None e l u = rw e l
                stop-by (Some v) e l u = rw e u

            -- what is left, or the word of an emptied body, ends at stop
            rest-long : length (encode (rest_of (polarity t) k.left)) ≡ stop
            unfolding Wrote encode
            rest-long = go k.left k.gone k.wrote
              where
                go : (g : Option Form) → is_none s.end ≡ is_gone g → Wrote 0 work (left_words g) (unwrap_or s.end 0) work' → length (encode (rest_of (polarity t) g)) ≡ stop
                go (some f) e w = let (v, q) = some_is s.end e in sym ((rw q at end_is) ∙ ((rw q at w).0 ∙ zero-add (length (encode f))))
                go absent e w = ap length (sym (empty-words t)) ∙ sym (rw (none_is s.end e) at end_is)

            marks-are : take stop ms' ≡ mark (rest_of (polarity t) k.left) 0 0 (replicate stop 0)
            marks-are = ap (take stop) (left-marks ∙ (left-mark (polarity t) k.left ms ∙ ap (mark (rest_of (polarity t) k.left) 0 0) x.zeros)) ∙ front-marks (rest_of (polarity t) k.left) stop (length ms) rest-long stop-fits

            marks-long : length (take stop ms') ≡ stop
            marks-long = ap length marks-are ∙ (mark-long (rest_of (polarity t) k.left) 0 0 (replicate stop 0) ∙ length-replicate stop 0)

            pub rest-marking : RestMarking (take stop work'') (take stop ms')
            rest-marking = record { long = marks-long ∙ (sym rest-long ∙ ap length (sym left_over)); are = λ f e. go f (sym e ∙ rest-is) }
              where
                go : (f : Form) → ◌≡◌ {A = Got} (got f []) (got (rest_of (polarity t) k.left) []) → take stop ms' ≡ mark f 0 0 (replicate (length (take stop ms')) 0)
                go f e =
                    let q : f ≡ rest_of (polarity t) k.left = cc in
                    rw (q, marks-long) marks-are

          pub placing : Placing head i (take (b - a) (drop a body)) (take stop work'')
          placing =
              let l = length-take (b - a) (drop a body) in
              let m = length-take stop work'' in
              let x = part_in.1 in
              let y = h.short in
              let z = stop-low in
              record {
                heading = h.heading;
                target = took-ok.0.1;
                by = k.by;
                is-part = part-is;
                up = took-ok.0.2;
                short = omega arith;
                form = rest_of (polarity t) k.left;
                is-rest = rest-is;
                long = omega arith;
              }

          pub placed-is : (room : ℕ) → body_outcome d t ns body room ≡ Some (placed_outcome t ns i (take (b - a) (drop a body)) (take stop work'') room)
          unfolding placed_outcome
          placed-is room = rw (part-is, rest-is) (outcome-is room (scanned (taken i k.by) k.left) k.is)

-- a body that is a predicate as deep as it was read is the same read deeper
module _ (d : ℕ) (most : d ≤ 63) (t : ℕ) (ns : List Decl) (body : List ℕ) (room : ℕ) where
  pub same-deeper : (a : Answer) → told_if (body_outcome d t ns body room) ≡ Some a → body_outcome d t ns body room ≡ body_outcome 63 t ns body room
  unfolding body_outcome
  same-deeper a e = go (decode d pred body) refl e
    where
      go : (g : Got) → decode d pred body ≡ g → told_if (reduced_in t ns room (whole_of g)) ≡ Some a → reduced_in t ns room (whole_of g) ≡ reduced_in t ns room (whole_of (decode 63 pred body))
      go (got f []) q e =
          let (w, o) = whole-pred body f d q in
          rw (whole body f w (ok-deep o 63 most)) refl
      go (got f (y ∷ x)) q e = absurd (clash cc)
      go no-form q e = absurd (clash cc)

-- an answer of what a body becomes, and what is told where it becomes nothing
pub answered : (m : Maybe Outcome) (o : Outcome) (a : Answer) (out out' : List ℕ) → m ≡ Some o → (a ≡ told o) × (out' ≡ written o out) → (Some a ≡ told_if m) × (out' ≡ written_if m out)
answered m o a out out' e u = rw e (ap Some u.0, u.1)

pub nothing-told : (m : Maybe Outcome) (r : Maybe Answer) (out : List ℕ) → m ≡ None → r ≡ None → (r ≡ told_if m) × (out ≡ written_if m out)
nothing-told m r out e q = rw (e, q) (refl, refl)

pub nothing-written : (m : Maybe Outcome) (r : Maybe Answer) (out : List ℕ) → r ≡ told_if m → r ≡ None → written_if m out ≡ out
nothing-written (Some o) r out e q = absurd (clash cc)
nothing-written None r out e q = refl

-- what is told of one body is told of the same read deeper
pub told-deeper : (m n : Maybe Outcome) (r : Maybe Answer) (a : Answer) (out out' : List ℕ) → m ≡ n → r ≡ Some a → (r ≡ told_if m) × (out' ≡ written_if m out) → (Some a ≡ told_if n) × (out' ≡ written_if n out)
told-deeper m n r a out out' e q u = rw (e, q) at u

-- what a second call answers after a first that left the output as it was
pub told-again : (o : ℕ → Maybe Outcome) (r : Maybe Answer) (out out' out'' : List ℕ) → out' ≡ out → (r ≡ told_if (o (length out'))) × (out'' ≡ written_if (o (length out')) out') → (r ≡ told_if (o (length out))) × (out'' ≡ written_if (o (length out)) out)
told-again o r out out' out'' e h = rw e at h

-- marks for a body are marks for a part of it
pub part-cleared : (body : List ℕ) (a b : ℕ) (ms : List ℕ) → Cleared body ms → b ≤ length body → Cleared (take (b - a) (drop a body)) ms
part-cleared body a b ms c h =
    let l = length-take (b - a) (drop a body) in
    let d = length-drop a body in
    let e = c.enough in
    record { zeros = c.zeros; enough = omega arith }

-- the scan, by the number and the operator that the code finds
module _ (head body : List ℕ) (d n : ℕ) (p : Bool) (x : n ≡ length (decls_in head)) (y : p ≡ polarity (operator_in head)) where
  pub scan-there : (out out' : List ℕ) (s : Maybe Scanned) → ScanTold (scan n p) body d 0 0 out s out' → ScanTold (scan (length (decls_in head)) (polarity (operator_in head))) body d 0 0 out s out'
  scan-there out out' s h = rw (x, y) at h

  pub marks-there : (ms ms' : List ℕ) → ScanMarks (scan n p) body d 0 0 ms ms' → ScanMarks (scan (length (decls_in head)) (polarity (operator_in head))) body d 0 0 ms ms'
  marks-there ms ms' h = rw (x, y) at h

-- what is left of a body, by the operator that the code finds
pub rest-there : (head : List ℕ) (t : ℕ) (left : Maybe ℕ) (ws vs : List ℕ) → t ≡ operator_in head → ws ≡ rest_words t left vs → ws ≡ rest_words (operator_in head) left vs
rest-there head t left ws vs e h = rw e at h
