-- Membership: the body before and after the shift, the places filled in it, and the whole call. Assumes nothing.
use mathlib.Core.Path.{◌≡◌, refl, ap, sym, ◌∙◌}
use mathlib.Core.List.{List, [], ◌∷◌, ◌++◌, append-nil, append_assoc}
use Prim.Native.Nat.{ℕ, ◌+◌, ◌-◌, ◌≤◌, ◌<◌}
use native.Mathlib.Omega.{arith}
use borrow.Author.Tests.{le-leb, lt-leb}
use lib.ListN.{length, take, drop, replicate}
use lib.Seq.{drop_at, drop-drop}
use Rattle.tree.specs.Form.{Form, node, none, more, encode}
use Rattle.tree.specs.Tag.{Sort, expr, pred}
use Rattle.form.specs.Decode.{got, decode, form_of}
use Rattle.form.specs.Answer.{Outcome, stop, told, finish, check_outcome}
use Rattle.reader.specs.Internal.Reads.{mark, Marked}
use Rattle.form.specs.declared.answer.Kind.TheVariants.{Predicate}
use Rattle.form.specs.Answer.{Answer}
use Rattle.form.specs.declared.answer.Refusal.{Refusal}
use Rattle.std.specs.Prelude.{Err}
use Rattle.reader.specs.declared.lists.Table.{Table}
use Rattle.form.proofs.DecodeLaws.{Ok, decode-encode, decode-sound}
use Rattle.shift.proofs.CheckedLaws.{too_long, form-there, check-refuses}
use Rattle.shift.proofs.RowLaws.{marks_of, only-mark, mark-front}
use Rattle.rules.proofs.OkLaws.{ok-deep}
use Rattle.rules.specs.Fill.{Decl}
use Rattle.rules.specs.Split.{parts}
use Rattle.rules.specs.Partial.{no_places}
use Rattle.rules.specs.Point.{of_result}
use Rattle.rules.specs.Scan.{join_all}
use Rattle.rules.specs.Member.{member_of, membership, member_outcome}
use Rattle.places.specs.Internal.Wrote.{Wrote}
use Rattle.places.specs.Internal.Positions.{Cleared, form_marks, MarksAre, MarkedAt}
use Rattle.member.specs.Internal.Member.{Shares, shares, share, equalities, SetIn, SetTold, BodyTold, Membering, filled_body, Filling, left_parts, unshifted, Unshifted}
use Rattle.member.specs.declared.member.Comprehension.{Comprehension}
use Rattle.std.specs.Prelude.{Option as Maybe, Some, None}
use Rattle.places.proofs.WroteLaws.{wrote-in}
use Rattle.places.proofs.PartsOk.{OkParts, parts-ok}
use Rattle.places.proofs.PartsLaws.{same-forms, marks-long}
use Rattle.places.proofs.PlacesLaws.{PredRow}
use Rattle.member.proofs.BodyLaws.{read_right, ok-element, ok-value, set-count, left-ok, guard_ok, guard-shape, guard-flat, marks-same, guard-length, member-shares}
use Rattle.form.specs.declared.answer.Refusal.TheVariants.{TooLong, NothingToRewrite, WorkTooShort}

-- the body as it was written
module _ (row lm : List ℕ) (n u : ℕ) (g : Form) (out : List ℕ) (t : Table) (end : ℕ) (o : List ℕ) where
  pub body_end : (z : Shares) → BodyTold row lm n u g out z t end o → end ≤ length o
  unfolding BodyTold
  body_end (shares ps qs) h = wrote-in 0 end out (encode (join_all 351 g (equalities u qs))) o (omega arith) h.1

  pub body-words : (z : Shares) → BodyTold row lm n u g out z t end o → take end o ≡ encode (join_all 351 g (equalities u (left_parts z)))
  unfolding BodyTold Wrote
  body-words (shares ps qs) h = h.1.1

-- the places filled in the body
pub record Fills (n : ℕ) (row lm : List ℕ) (ds : List Decl) (t : Table) (body marks : List ℕ) (r : Form) : Type 0 where
  pub filling : Filling n row lm t body marks
  pub same : filled_body ds filling.places filling.body ≡ r

module _ (row lm : List ℕ) (ds : List Decl) (n : ℕ) (number : n ≡ length ds) (most : length ds ≤ 32) (el gd va : Form) (ok-el : Ok 63 expr el) (ok-va : Ok 62 expr va) (is-gd : decode 62 pred (encode gd) ≡ got gd [])
    (long : length row ≤ length lm) where
  abbrev ok-gd : Ok 62 pred gd
  ok-gd = (decode-sound 62 pred (encode gd) gd [] is-gd).1

  left-parts : OkParts 63 (left_parts (share n (parts va el) (no_places n)))
  left-parts = left-ok n 63 (parts va el) (no_places n) (parts-ok va el (ok-deep ok-va 63 (omega arith)) ok-el)

  pub unshifted-ok : length (left_parts (share n (parts va el) (no_places n))) ≤ 8192 → Ok 65 pred (unshifted n gd va el)
  unshifted-ok h = guard_ok gd ok-gd (left_parts (share n (parts va el) (no_places n))) left-parts h

  module _ (t : Table) (work work' old marks : List ℕ) (stop : ℕ) (zeros : old ≡ replicate (length old) 0) (len : length marks ≡ length old) (enough : length (encode (unshifted n gd va el)) ≤ length old)
      (made : marks ≡ mark (unshifted n gd va el) 0 n old) where
    fills-by : (z : Shares) → share n (parts va el) (no_places n) ≡ z → BodyTold row lm n n gd work z t stop work' → Fills n row lm ds t (take stop work') marks (member_of el ds gd va)
    unfolding BodyTold Wrote
    fills-by (shares ps qs) e (tab, wr) =
        let q : left_parts (share n (parts va el) (no_places n)) ≡ qs = ap left_parts e in
        let oks : OkParts 63 qs = rw q at left-parts in
        let room : length (encode (join_all 351 gd (equalities 0 qs))) ≤ length old = rw q at enough in
        let mk : marks ≡ mark (join_all 351 gd (equalities 0 qs)) 0 n (replicate (length marks) 0)
        = made ∙ (ap (λ (z : List (Form × Form)). mark (join_all 351 gd (equalities 0 z)) 0 n old) q ∙ ap (λ (l : List ℕ). mark (join_all 351 gd (equalities 0 qs)) 0 n l) (zeros ∙ ap (λ (k : ℕ). replicate k 0) (sym len))) in
        let sm = marks-same gd ok-gd n n (length marks) qs (omega arith) in
        let gl = guard-length gd ok-gd n qs in
        let bw : take stop work' ≡ encode (join_all 351 gd (equalities n qs)) = wr.1 in
        record {
          filling =
              record {
                places = ps;
                table = tab;
                body = join_all 351 gd (equalities n qs);
                words = bw;
                marked = mk ∙ sm;
                enough = let l = ap length bw in omega arith;
                flat = guard-flat gd ok-gd n qs oks;
                shape = guard-shape gd ok-gd n qs is-gd;
                most = omega arith;
                long = long;
              };
          same = sym (member-shares el ds gd va ps qs (rw number at e) ∙ rw (← number));
        }

    pub fills : BodyTold row lm n n gd work (share n (parts va el) (no_places n)) t stop work' → Fills n row lm ds t (take stop work') marks (member_of el ds gd va)
    fills b = fills-by (share n (parts va el) (no_places n)) refl b

-- the same of a row
module _ {row : List ℕ} {c : Comprehension} (x : SetIn row c) (short : length row ≤ 8192) (end : ℕ) (work : List ℕ) (un : Unshifted row c end work) where
  pub unshifted-read : decode 65 pred (drop 0 (take end work)) ≡ got (unshifted c.n x.guard x.value x.element) []
  unfolding Unshifted
  unshifted-read = rw (un x, ← append-nil (encode (unshifted c.n x.guard x.value x.element))) (decode-encode (unshifted-ok row row x.decls c.n x.number x.most x.element x.guard x.value (ok-element x) (ok-value x) x.is-guard (omega arith) (set-count x c.n (no_places c.n) short)) [])

  module _ (lm : List ℕ) (long : length row ≤ length lm) (old : List ℕ) (clear : Cleared (take end work) old) (marks : List ℕ) (len : length marks ≡ length old) (made : marks ≡ mark (unshifted c.n x.guard x.value x.element) 0 c.n old)
      (t : Table) (work₁ work' : List ℕ) (stop : ℕ) where
    pub row-fills : BodyTold row lm c.n c.n x.guard work₁ (share c.n (parts x.value x.element) (no_places c.n)) t stop work' → Fills c.n row lm x.decls t (take stop work') marks (member_of x.element x.decls x.guard x.value)
    unfolding Unshifted
    row-fills b =
        let e = ap length (un x) in
        let k = clear.enough in
        (fills row lm x.decls c.n x.number x.most x.element x.guard x.value (ok-element x) (ok-value x) x.is-guard long t work₁ work' old marks stop clear.zeros len (omega arith) made b)

-- the whole call
module _ (row : List ℕ) (wl room : ℕ) where
  abbrev go : Sort → Form → Outcome
  go s f = of_result room (membership f)

  pub member-small : wl < 16384 → member_outcome row wl room ≡ stop WorkTooShort
  unfolding member_outcome
  member-small h = rw (lt-leb 16384 wl h)

  module _ (enough : 16384 ≤ wl) where
    pub member-long : 8192 < length row → member_outcome row wl room ≡ stop TooLong
    unfolding member_outcome
    member-long h = rw (le-leb 16384 wl enough) (too_long Predicate row go h)

    module _ (short : length row ≤ 8192) where
      pub member-refused : (a : Answer) (r : Refusal) → a ≡ told (check_outcome Predicate row) → a ≡ Err r → member_outcome row wl room ≡ stop r
      unfolding member_outcome
      member-refused a r e n = rw (le-leb 16384 wl enough) (check-refuses Predicate row go a r e n)

      module _ (x : PredRow row) where
        pub row_read : decode 64 pred row ≡ got x.form []
        row_read = rw (x.words, ← append-nil (encode x.form)) (decode-encode x.ok [])

        member-read : member_outcome row wl room ≡ of_result room (membership x.form)
        unfolding member_outcome
        member-read = rw (le-leb 16384 wl enough) (form-there Predicate row go pred x.form short x.is_found)

        pub member-other : (m : Maybe Comprehension) → SetTold row m → m ≡ None → member_outcome row wl room ≡ stop NothingToRewrite
        unfolding SetTold
        member-other m h e = member-read ∙ rw ((rw e at h) x.form row_read)

        module _ (m : Maybe Comprehension) (h : SetTold row m) (c : Comprehension) (e : m ≡ Some c) where
          pub set-of : SetIn row c
          unfolding SetTold
          set-of = rw e at h

          pub member_is : member_outcome row wl room ≡ finish pred room (member_of set-of.element set-of.decls set-of.guard set-of.value)
          member_is = member-read ∙ rw (set-of.is x.form row_read)

          -- the marks of the element
          module _ (old marks : List ℕ) (zeros : old ≡ replicate (length old) 0) (fits : length row ≤ length old) (made : Marked (form_of Predicate row) old marks) (len : length marks ≡ length old) where
            marks-row : marks ≡ mark x.form 0 0 old
            unfolding Marked
            marks-row = rw x.is_found at made

            element-first : (f r : Form) → f ≡ node 107 [] [] (more set-of.element (more r none)) → length (encode f) ≤ length old → marks ≡ mark f 0 0 old → (y : List ℕ) × (drop 1 marks ≡ form_marks set-of.element ++ y)
            unfolding marks_of
            element-first f r s l e =
                let z : List ℕ = replicate (length old - length (encode f)) 0 in
                let a : marks ≡ marks_of 0 f ++ z = e ∙ (ap (λ (w : List ℕ). mark f 0 0 w) zeros ∙ mark-front f 0 (length old) l) in
                let b : marks_of 0 f ≡ 0 ∷ (marks_of 0 set-of.element ++ (marks_of 0 r ++ [])) = rw s in
                ((marks_of 0 r ++ []) ++ z, ap (drop 1) (a ∙ ap (λ (w : List ℕ). w ++ z) b) ∙ (append_assoc (marks_of 0 set-of.element) (marks_of 0 r ++ []) z ∙ ap (λ (w : List ℕ). w ++ ((marks_of 0 r ++ []) ++ z)) (sym (only-mark set-of.element))))

            element-marks : (y : List ℕ) → drop 1 marks ≡ form_marks set-of.element ++ y → drop 1 marks ≡ form_marks set-of.element ++ drop (1 + length (encode set-of.element)) marks
            element-marks y e =
                let d : drop (1 + length (encode set-of.element)) marks ≡ y = sym (drop-drop (length (encode set-of.element)) 1 marks) ∙ rw e (drop_at (form_marks set-of.element) y (length (encode set-of.element)) (marks-long set-of.element)) in
                rw d e

            pub element-marked : MarkedAt row marks 1 1
            unfolding MarkedAt MarksAre
            element-marked fs y r =
                let s : more set-of.element none ≡ fs = same-forms (sym (read_right set-of short) ∙ r) in
                let sh = set-of.shape x.form row_read in
                let w = ap length x.words in
                let f = element-first x.form sh.0 sh.1 (omega arith) marks-row in
                rw (← s) (element-marks f.0 f.1, tt)

            pub membering : (w : ℕ) → w ≡ 16384 → Membering row marks c w
            membering w q = record { set = set-of; marked = element-marked; short = short; long = omega arith; enough = q }
