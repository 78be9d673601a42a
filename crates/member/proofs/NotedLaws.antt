-- Declarations with annotations round a body with the places of a table filled: the words are the definition's. Assumes nothing.
use mathlib.Core.Path.{◌≡◌, refl, ap, sym, ◌∙◌}
use mathlib.Core.Bool.{Bool, true, false, ◌&&◌, ◌||◌, and-false}
use mathlib.Core.List.{List, [], ◌++◌, append_assoc, map}
use Prim.Native.Nat.{ℕ, ◌+◌, ◌-◌, ◌≤◌, ◌<◌}
use native.Mathlib.Numerals.{add-one}
use native.Mathlib.Omega.{arith}
use borrow.Author.Tests.{lt-leb, leb-false, ne_eqb, eqb-true, eqb-false}
use lib.Dec.{leb, eqb}
use lib.ListN.{length, get_or, take, drop, replicate, length-append, length-drop, length-map, length-replicate}
use lib.Seq.{length-take-le}
use Rattle.tree.specs.Form.{free, Form, leaf, node, Forms, pick, encode, encode_decls}
use Rattle.tree.specs.Tag.{pred}
use Rattle.form.specs.Lists.{Place, kept, filled}
use Rattle.form.specs.Answer.{stop, finish}
use Rattle.form.specs.Decode.{row_form}
use Rattle.form.proofs.DecodeLaws.{clash, Ok, decode-sound, decls-sound}
use Rattle.reader.specs.declared.lists.Table.{Table}
use Rattle.rules.specs.Walk.{walk, put, subst}
use Rattle.rules.specs.Fill.{Decl, unnoted, name_of, unlisted, any_noted, Quantified, quantifier, other, quantified, around, quantify, kept_decls, fill_for}
use Rattle.rules.specs.Partial.{front, on_note}
use Rattle.rules.specs.Prune.{is_not}
use Rattle.rules.proofs.WalkLaws.{each_decls}
use Rattle.rules.proofs.OkLaws.{ok-deep}
use Rattle.rules.proofs.JoinLaws.{bare-decls}
use Rattle.shift.proofs.AroundLaws.{Quant, head_of, head_marks, marks-around, quant-of, first-noted, other-first, quant-first, quant-second, quant-two}
use Rattle.shift.proofs.RowLaws.{marks_of, marks_decls}
use Rattle.replace.specs.Internal.Pieces.{placed_row, replaced, down_plan, Ready}
use Rattle.decls.specs.Internal.Noted.{decls_end}
use Rattle.replace.proofs.BuildLaws.{emit-form}
use Rattle.replace.proofs.FillTree.{word_for}
use Rattle.replace.proofs.ReadyLaws.{ready-is}
use Rattle.decls.specs.Internal.Used.{cleared_by}
use Rattle.decls.proofs.DeclLaws.{GoodDecls, good-decls, around-good}
use Rattle.decls.proofs.CountLaws.{op-range, noted-words}
use Rattle.decls.proofs.NotedLaws.{decls-end}
use Rattle.decls.proofs.HeadLaws.{quant_head, encode-head}
use Rattle.decls.proofs.UsedLaws.{clears-notes}
use Rattle.rounds.specs.Internal.Round.{joins_names, joins_notes, round_head, round_from, round_fits}
use Rattle.rounds.proofs.RoundLaws.{alone-head, alone-from, alone-fits, names-head, names-from, names-fits, notes-head, notes-from, notes-fits}
use Rattle.member.specs.Internal.Member.{filled_body, Shaped, well-formed, conjunction, Filling, TableIs, front_of}
use Rattle.member.specs.Internal.Noted.{FlaggedIn, no_zero, front_alone, notes_end, notes_clear, notes_join, front_filled, filled_notes, round_row}
use Rattle.member.proofs.TableLaws.{in_front, words_are, front-is, ready, marks-are, rest_from, whole-body, own_body}
use Rattle.member.proofs.NotedSteps.{front-in}
use Rattle.member.proofs.NotesLaws.{last-filled, front-table, notes-in, any_same, plain-same}
use Rattle.member.proofs.FormLaws.{left, form-apart, joins_any, joins-count, joins-low, joins-kept, joined-other, joined-unlike, joined-conjunction, deep, joined-clear, joined-apart, plain-clear}
use Rattle.form.specs.declared.answer.Refusal.TheVariants.{OutOfLimits}

-- a form with too many words is refused
finish-long : (room : ℕ) (f : Form) → 8192 < length (encode f) → finish pred room f ≡ stop OutOfLimits
unfolding finish row_form
finish-long room f h = rw (lt-leb (length (encode f)) 8192 h)

-- the first word of a body
module _ (joins clear : Bool) (body : List ℕ) where
  no_names : (get_or body 0 0 ≡ 852 → ⊥) → joins_names 852 joins body ≡ false
  unfolding joins_names
  no_names h = rw (ne_eqb (get_or body 0 0) 852 h) (and-false joins)

unclear-notes : (joins : Bool) (body : List ℕ) → joins_notes 852 joins false body ≡ false
unfolding joins_notes
unclear-notes joins body = and-false joins

apart-names : (clear : Bool) (body : List ℕ) → joins_names 852 false body ≡ false
unfolding joins_names
apart-names clear body = refl

module _ {decls row lm body marks : List ℕ} {t : Table} (ds : List Decl) (x : FlaggedIn decls ds) (y : Filling (length ds) row lm t body marks) (room : ℕ) where
  abbrev n : ℕ
  n = length ds

  abbrev ps : List Place
  ps = y.places

  abbrev g : Form
  g = y.body

  same : length ps ≡ length ds
  same = y.table.count

  sound : (drop 2 decls ≡ encode_decls (unlisted ds) ++ x.rest) × GoodDecls ds
  sound = let (a, b, c) = decls-sound 63 (length ds) (drop 2 decls) (unlisted ds) x.rest x.is in (a, good-decls ds b)

  enough : length (encode g) ≤ length marks
  enough = rw (← y.words) y.enough

  keep-is : take t.n t.words ≡ map word_for ps
  keep-is = words_are row lm n t ps y.table y.most

  abbrev rest_of : ℕ → List ℕ
  rest_of k = rest_from row lm n t ps y.table y.most g marks y.marked enough k

  abbrev Told : Bool → Bool → List ℕ → Type 0
  Told joins clear notes = round_row decls joins clear notes t row lm body marks room ≡ finish pred room (filled_body ds ps g)

  -- a head and what follows it are the words of the form
  put-by : (hd : List ℕ) (from : ℕ) → hd ++ rest_of from ≡ encode (filled_body ds ps g) → (z : Bool) → (z ≡ false → 8192 < length hd)
      → pick z (placed_row false hd t 0 row lm (drop from (encode g)) (drop from marks) room) (stop OutOfLimits) ≡ finish pred room (filled_body ds ps g)
  unfolding placed_row replaced
  put-by hd from w true h = rw (ready-is t row lm 0 (ready row lm n t ps y.table y.most y.long), w) (emit-form pred room (filled_body ds ps g))
  put-by hd from w false h =
      let l = ap length (sym w) ∙ length-append hd (rest_of from) in
      let m = h refl in
      sym (finish-long room (filled_body ds ps g) (omega arith))

  put-row : (joins clear : Bool) (notes hd : List ℕ) (from : ℕ) (fit : Bool) → round_head 852 (map word_for ps) decls joins clear notes (encode g) ≡ hd → round_from 852 joins clear (encode g) ≡ from
      → round_fits 852 (map word_for ps) decls joins clear notes (encode g) ≡ fit → (fit ≡ false → 8192 < length hd) → hd ++ rest_of from ≡ encode (filled_body ds ps g) → Told joins clear notes
  unfolding round_row
  put-row joins clear notes hd from fit a b c over w =
      let e : round_row decls joins clear notes t row lm (encode g) marks room ≡ finish pred room (filled_body ds ps g) = rw (keep-is, a, b, c) (put-by hd from w fit over) in
      ap (λ z. round_row decls joins clear notes t row lm z marks room) y.words ∙ e

  -- joined with nothing
  alone : (joins clear : Bool) (notes : List ℕ) → joins_names 852 joins (encode g) ≡ false → joins_notes 852 joins clear (encode g) ≡ false → filled_body ds ps g ≡ left ds ps same g → Told joins clear notes
  alone joins clear notes a b e =
      put-row joins clear notes (quant_head 852 (kept_decls ps ds)) 0 true
      (alone-head 852 refl ps ds same sound.1 y.most decls x.rest sound.0 x.short joins clear notes (encode g) a b)
      (alone-from 852 refl ps ds same sound.1 y.most decls x.rest sound.0 x.short joins clear notes (encode g) a b)
      (alone-fits 852 refl ps ds same sound.1 y.most decls x.rest sound.0 x.short joins clear notes (encode g) a b)
      (λ z. absurd (clash cc))
      (ap (λ z. quant_head 852 (kept_decls ps ds) ++ z) (whole-body row lm n t ps y.table y.most g marks y.marked enough y.flat)
      ∙ (sym (encode-head 852 (kept_decls ps ds) (subst (fill_for ps) g)) ∙ ap encode (sym e)))

  pub told-apart : (joins : Bool) → joins ≡ front_alone (map word_for ps) (in_front ps) → joins ≡ false → Told joins false []
  told-apart joins e h = rw h (alone false false [] (apart-names false (encode g)) (unclear-notes false (encode g)) (form-apart ds ps same g (sym e ∙ h)))

  over_by : (l : List ℕ) → leb (length l) 8192 ≡ false → 8192 < length l
  over_by l e = leb-false (length l) 8192 e

  -- all that are kept stand in front
  module _ (joins : front_alone (map word_for ps) (in_front ps) ≡ true) where
    alone-by : (get_or (encode g) 0 0 ≡ 852 → ⊥) → filled_body ds ps g ≡ left ds ps same g → Told true false []
    alone-by h e = alone true false [] (no_names true false (encode g) h) (unclear-notes true (encode g)) e

    -- joined with names
    with-names : (q : Quant 61 g) → q.op ≡ 852 → any_noted q.decls ≡ false → Told true false []
    with-names q like un =
        let ms = map name_of q.decls in
        let back : map unnoted ms ≡ q.decls = bare-decls q.decls un in
        let lms = length-map q.decls name_of in
        let hi : length ms ≤ 32 = let m = q.most in omega arith in
        let is : encode g ≡ encode (around 852 (map unnoted ms) q.body) = ap encode q.form ∙ (ap (λ z. encode (around z q.decls q.body)) like ∙ ap (λ z. encode (around 852 z q.body)) (sym back)) in
        let hd = quant_head 852 (kept_decls ps ds ++ map unnoted ms) in
        let kept-some = joins-kept ds ps same g joins in
        put-row true false [] hd (length (head_of 852 (map unnoted ms))) (leb (length hd) 8192)
        (names-head 852 refl ps ds same sound.1 y.most decls x.rest sound.0 x.short false [] (encode g) ms q.body is kept-some)
        (names-from 852 refl ps ds same sound.1 y.most decls x.rest sound.0 x.short false [] (encode g) ms q.body is kept-some)
        (names-fits 852 refl ps ds same sound.1 y.most decls x.rest sound.0 x.short false [] (encode g) ms q.body is kept-some hi)
        (over_by hd)
        (words ms back)
      where
        words : (ms : List ℕ) → map unnoted ms ≡ q.decls → quant_head 852 (kept_decls ps ds ++ map unnoted ms) ++ rest_of (length (head_of 852 (map unnoted ms))) ≡ encode (filled_body ds ps g)
        words ms back =
            let s : length (head_of 852 (map unnoted ms)) ≡ length (head_of q.op q.decls) = ap (λ z. length (head_of 852 z)) back ∙ ap (λ z. length (head_of z q.decls)) (sym like) in
            let e = joined-clear ds ps same g joins q like (leaf (free 0)) (plain-clear ds ps same g joins q like (leaf (free 0)) un) in
            let p : map (on_note (subst (fill_for (deep ds ps same g joins q like (leaf (free 0)))))) q.decls ≡ map unnoted ms = plain-same (subst (fill_for (deep ds ps same g joins q like (leaf (free 0))))) q.decls un ∙ sym back in
            ap (λ z. quant_head 852 (kept_decls ps ds ++ map unnoted ms) ++ z) (own_body row lm n t ps y.table y.most g marks y.marked enough q (length (head_of 852 (map unnoted ms))) s)
            ∙ (sym (encode-head 852 (kept_decls ps ds ++ map unnoted ms) (walk (put (fill_for ps)) (length q.decls) q.body))
            ∙ ap encode (ap (λ z. quantify 852 (kept_decls ps ds ++ z) (walk (put (fill_for ps)) (length q.decls) q.body)) (sym p) ∙ sym e))

    -- the body's own annotated declarations, in its row and in its marks
    module _ (ok : Ok 62 pred g) (q : Quant 61 g) (like : q.op ≡ 852) (any : any_noted q.decls ≡ true) where
      good-own : GoodDecls q.decls
      good-own = around-good q.op q.which q.body q.decls (rw q.form at (ok-deep ok 64 (omega arith)))

      own-two : 2 ≤ length body
      own-two = rw y.words (quant-two q)

      marks-two : 2 ≤ length marks
      marks-two = let a = quant-two q in let b = enough in omega arith

      own-words : drop 2 body ≡ encode_decls (unlisted q.decls) ++ encode q.body
      own-words = rw y.words (noted-words q any)

      abbrev more-marks : List ℕ
      more-marks = marks_of (length q.decls + n) q.body ++ replicate (length marks - length (encode g)) 0

      marks-whole : marks ≡ (head_marks n q.decls ++ marks_of (length q.decls + n) q.body) ++ replicate (length marks - length (encode g)) 0
      marks-whole =
          marks-are row lm n t ps y.table y.most g marks y.marked enough
          ∙ ap (λ z. z ++ replicate (length marks - length (encode g)) 0) (ap (λ z. marks_of n z) q.form ∙ marks-around q.op n q.decls q.body)

      own-marks : drop 2 marks ≡ marks_decls n (unlisted q.decls) ++ more-marks
      own-marks = ap (drop 2) marks-whole ∙ rw any (append_assoc (marks_decls n (unlisted q.decls)) (marks_of (length q.decls + n) q.body) (replicate (length marks - length (encode g)) 0))

      own-end : notes_end body ≡ 2 + length (encode_decls (unlisted q.decls))
      own-end =
          let k : get_or body 1 0 ≡ length q.decls = rw y.words (quant-second q) in
          ap (λ z. decls_end body 2 z) k ∙ decls-end body q.decls 2 (encode q.body) good-own own-words

      pub own-inside : notes_end body ≤ length body
      own-inside =
          let l = length-drop 2 body in
          let k = ap length own-words ∙ length-append (encode_decls (unlisted q.decls)) (encode q.body) in
          let e = own-end in
          let two = own-two in
          omega arith

      -- the test of the code
      clear-is : notes_clear body marks n (front ps) ≡ no_zero (take (front ps) (cleared_by (λ i. each_decls (is_not i) 0 (unlisted q.decls)) (replicate n 1)))
      unfolding notes_clear
      clear-is =
          let d : drop 1 (replicate (n + 1) 1) ≡ replicate {A = ℕ} n 1 = rw (add-one n) in
          ap (λ z. no_zero (take (front ps) z))
          (clears-notes n body marks 2 (notes_end body) (replicate (n + 1) 1) (length-replicate {A = ℕ} (n + 1) 1) (unlisted q.decls) (encode q.body) more-marks own-two marks-two own-words own-marks own-end
          ∙ ap (λ z. cleared_by (λ i. each_decls (is_not i) 0 (unlisted q.decls)) z) d)

      tag-apart : get_or (encode g) 0 0 ≡ 852 → ⊥
      tag-apart z = let f : get_or (encode g) 0 0 ≡ q.op + 10 = quant-first q ∙ rw any in absurd (omega arith)

      unclear-told : notes_clear body marks n (front ps) ≡ false → Told true false []
      unclear-told h = alone-by tag-apart (joined-apart ds ps same g joins q like (leaf (free 0)) (sym clear-is ∙ h))

      -- the last place is filled
      last : (z : Form) × (get_or ps (n - 1) kept ≡ filled z)
      last = last-filled y.table y.most (front ps) (joins-low ds ps same g joins) (joins-count ds ps same g joins)

      abbrev z : Form
      z = last.0

      abbrev dp : List Place
      dp = deep ds ps same g joins q like z

      deep-table : TableIs row lm n (front_filled t (front ps)) dp
      deep-table = front-table y.table y.most z last.1 (front ps) (let l = joins-low ds ps same g joins in omega arith)

      pub deep-ready : Ready (down_plan (front_filled t (front ps)) 0) row lm
      deep-ready = ready row lm n (front_filled t (front ps)) dp deep-table y.most y.long

      abbrev became : List Decl
      became = map (on_note (subst (fill_for dp))) q.decls

      notes-are : filled_notes t (front ps) row lm body marks ≡ encode_decls (unlisted became)
      unfolding filled_notes
      notes-are = notes-in row lm n (front_filled t (front ps)) dp deep-table y.most q.decls good-own body marks (encode q.body) more-marks (notes_end body) own-words own-marks own-two own-end

      clear_told : notes_clear body marks n (front ps) ≡ true → Told true true (filled_notes t (front ps) row lm body marks)
      clear_told h =
          let ws = filled_notes t (front ps) row lm body marks in
          let hd = quant_head 852 (kept_decls ps ds ++ became) in
          let is : encode g ≡ encode (around 852 q.decls q.body) = ap encode q.form ∙ ap (λ k. encode (around k q.decls q.body)) like in
          let count = length-map q.decls (on_note (subst (fill_for dp))) in
          let typed = any_same (subst (fill_for dp)) q.decls ∙ any in
          let some-kept = joins-kept ds ps same g joins in
          let s : length (head_of 852 q.decls) ≡ length (head_of q.op q.decls) = ap (λ k. length (head_of k q.decls)) (sym like) in
          let e = joined-clear ds ps same g joins q like z (sym clear-is ∙ h) in
          put-row true true ws hd (length (head_of 852 q.decls)) (leb (length hd) 8192)
          (notes-head 852 refl ps ds same sound.1 y.most decls x.rest sound.0 x.short q.decls became ws (encode g) q.body is any notes-are count typed some-kept)
          (notes-from 852 refl ps ds same sound.1 y.most decls x.rest sound.0 x.short q.decls became ws (encode g) q.body is any good-own)
          (notes-fits 852 refl ps ds same sound.1 y.most decls x.rest sound.0 x.short q.decls became ws (encode g) q.body is any notes-are count typed some-kept q.most)
          (over_by hd)
          (ap (λ k. hd ++ k) (own_body row lm n t ps y.table y.most g marks y.marked enough q (length (head_of 852 q.decls)) s)
          ∙ (sym (encode-head 852 (kept_decls ps ds ++ became) (walk (put (fill_for ps)) (length q.decls) q.body)) ∙ ap encode (sym e)))

    -- a body that begins with an annotated existence
    record Own : Type 0 where
      own-ok : Ok 62 pred g
      own-quant : Quant 61 g
      own_like : own-quant.op ≡ 852
      own_any : any_noted own-quant.decls ≡ true

    op-of : (q : Quant 61 g) → get_or (encode g) 0 0 ≡ 862 → (b : Bool) → any_noted q.decls ≡ b → (q.op ≡ 852) × (b ≡ true)
    op-of q h true e = let f : get_or (encode g) 0 0 ≡ q.op + 10 = quant-first q ∙ rw e in (omega arith, refl)
    op-of q h false e = let f : get_or (encode g) 0 0 ≡ q.op = quant-first q ∙ rw e in let (lo, hi) = op-range q.op q.which in absurd (omega arith)

    own_of : Ok 62 pred g → get_or (encode g) 0 0 ≡ 862 → Own
    own_of ok h =
        let q = first-noted ok (rw h) in
        let (a, b) = op-of q h (any_noted q.decls) refl in
        record { own-ok = ok; own-quant = q; own_like = a; own_any = b }

    not-852 : (h : Form) → g ≡ h → (o : List ℕ) (ks : Forms) → h ≡ node 351 o [] ks → get_or (encode g) 0 0 ≡ 351
    unfolding encode
    not-852 h e o ks k = rw (e, k)

    own-shape : (h : Form) → g ≡ h → Shaped h → get_or (encode g) 0 0 ≡ 862 → Own
    own-shape h e (well-formed d) z = own_of (rw e (decode-sound 62 pred (encode h) h [] d).1) z
    own-shape h e (conjunction {o = o} {ks = ks}) z = let k = not-852 h e o ks refl in absurd (omega arith)

    own : get_or body 0 0 ≡ 862 → Own
    own h = own-shape g refl y.shape (rw (← y.words) h)

    -- any other body
    other-told : (get_or (encode g) 0 0 ≡ 862 → ⊥) → Ok 62 pred g → Told true false []
    other-told h ok = go (quantified g) refl
      where
        by-note : (q : Quant 61 g) → q.op ≡ 852 → (b : Bool) → any_noted q.decls ≡ b → Told true false []
        by-note q like true e = absurd (h (quant-first q ∙ (rw e (ap (λ k. k + 10) like))))
        by-note q like false e = with-names q like e

        unlike : (q : Quant 61 g) → (q.op ≡ 852 → ⊥) → (b : Bool) → any_noted q.decls ≡ b → get_or (encode g) 0 0 ≡ 852 → ⊥
        unlike q u true e z = let f : get_or (encode g) 0 0 ≡ q.op + 10 = quant-first q ∙ rw e in let (lo, hi) = op-range q.op q.which in omega arith
        unlike q u false e z = let f : get_or (encode g) 0 0 ≡ q.op = quant-first q ∙ rw e in u (omega arith)

        by-op : (q : Quant 61 g) (b : Bool) → eqb q.op 852 ≡ b → Told true false []
        by-op q true e = by-note q (eqb-true q.op 852 e) (any_noted q.decls) refl
        by-op q false e = alone-by (unlike q (eqb-false q.op 852 e) (any_noted q.decls) refl) (joined-unlike ds ps same g joins q e)

        go : (k : Quantified) → quantified g ≡ k → Told true false []
        go other e =
            let (a, b) = other-first ok e in
            alone-by (λ z. let c : (eqb 852 851 || eqb 852 852) ≡ false = rw z at a in clash cc) (joined-other ds ps same g joins ok e)
        go (quantifier op es b) e = let q = quant-of ok op es b e in by-op q (eqb q.op 852) refl

    shape-told : (h : Form) → g ≡ h → Shaped h → (get_or (encode g) 0 0 ≡ 862 → ⊥) → Told true false []
    shape-told h e (well-formed d) z = other-told z (rw e (decode-sound 62 pred (encode h) h [] d).1)
    shape-told h e (conjunction {o = o} {ks = ks}) z =
        let k = not-852 h e o ks refl in
        alone-by (λ i. absurd (omega arith)) (joined-conjunction ds ps same g joins o ks e)

    -- as the code decides
    first_by : (b : Bool) → eqb (get_or body 0 0) 862 ≡ b → (b && notes_clear body marks n (front ps)) ≡ false → Told true false []
    first_by true e h = let w = own (eqb-true (get_or body 0 0) 862 e) in unclear-told w.own-ok w.own-quant w.own_like w.own_any h
    first_by false e h = shape-told g refl y.shape (λ z. eqb-false (get_or body 0 0) 862 e (rw y.words z))

    some-told : notes_join true body marks n (front ps) ≡ false → Told true false []
    unfolding notes_join
    some-told h = go (leb 2 (length body)) refl h
      where
        short : length body < 2 → get_or body 0 0 ≡ 862 → ⊥
        short l e = let w = own e in let k = own-two w.own-ok w.own-quant w.own_like w.own_any in omega arith

        go : (b : Bool) → leb 2 (length body) ≡ b → (b && (eqb (get_or body 0 0) 862 && notes_clear body marks n (front ps))) ≡ false → Told true false []
        go true e k = first_by (eqb (get_or body 0 0) 862) refl k
        go false e k = shape-told g refl y.shape (λ z. short (leb-false 2 (length body) e) (rw y.words z))

    module _ (test : notes_join true body marks n (front ps) ≡ true) where
      parts-of : (a b c : Bool) → (a && (b && c)) ≡ true → (a ≡ true) × (b ≡ true) × (c ≡ true)
      parts-of true true c e = (refl, refl, e)
      parts-of true false c e = absurd (clash cc)
      parts-of false b c e = absurd (clash cc)

      tested : (leb 2 (length body) ≡ true) × (eqb (get_or body 0 0) 862 ≡ true) × (notes_clear body marks n (front ps) ≡ true)
      unfolding notes_join
      tested = parts-of (leb 2 (length body)) (eqb (get_or body 0 0) 862) (notes_clear body marks n (front ps)) test

      tag : get_or body 0 0 ≡ 862
      tag = eqb-true (get_or body 0 0) 862 tested.1

      notes-told : Told true true (filled_notes t (front ps) row lm body marks)
      notes-told = let w = own tag in clear_told w.own-ok w.own-quant w.own_like w.own_any tested.2

      notes-asked : (0 < t.n) × (t.n ≤ 32) × (front ps ≤ t.n) × (length t.words ≡ 32) × Ready (down_plan (front_filled t (front ps)) 0) row lm
      notes-asked =
          let w = own tag in
          let l = joins-low ds ps same g joins in
          let e = y.table.number in
          let m = y.most in
          (omega arith, omega arith, omega arith, y.table.words, deep-ready w.own-ok w.own-quant w.own_like w.own_any)

      notes-body : (2 ≤ length body) × (notes_end body ≤ length body) × (get_or body 0 0 ≡ 862)
      notes-body = let w = own tag in (own-two w.own-ok w.own-quant w.own_like w.own_any, own-inside w.own-ok w.own-quant w.own_like w.own_any, tag)

  -- by the answers of the code
  module _ (joins : Bool) (j : ℕ) (is-joins : joins ≡ front_alone (take t.n t.words) j) (is_front : j ≡ front_of 0 (take t.n t.words)) where
    front_by : j ≡ in_front ps
    front_by = is_front ∙ front-is row lm n t ps y.table y.most (take t.n t.words) (ap (λ k. take k t.words) y.table.number)

    joins-by : joins ≡ front_alone (map word_for ps) (in_front ps)
    joins-by = is-joins ∙ (ap (λ k. front_alone k j) keep-is ∙ ap (λ k. front_alone (map word_for ps) k) front_by)

    front-joined : joins ≡ true → j ≡ front ps
    front-joined h = front_by ∙ (let a = joins_any ds ps same g (sym joins-by ∙ h) in rw a)

    by_number : (b z : Bool) → j ≡ front ps → b ≡ true → notes_join b body marks t.n j ≡ z → notes_join true body marks n (front ps) ≡ z
    by_number b z f e h = sym (ap (λ k. notes_join k body marks t.n j) e ∙ (ap (λ k. notes_join true body marks k j) y.table.number ∙ ap (λ k. notes_join true body marks n k) f)) ∙ h

    pub told-plain : notes_join joins body marks t.n j ≡ false → Told joins false []
    told-plain h = go joins refl
      where
        go : (b : Bool) → joins ≡ b → Told joins false []
        go false e = told-apart joins joins-by e
        go true e = rw e (some-told (sym joins-by ∙ e) (by_number joins false (front-joined e) e h))

    module _ (test : notes_join joins body marks t.n j ≡ true) where
      joined : joins ≡ true
      unfolding notes_join
      joined = go joins refl
        where
          go : (b : Bool) → joins ≡ b → b ≡ true
          go true e = refl
          go false e = absurd (let z : notes_join joins body marks t.n j ≡ false = rw e in clash cc)

      tested-by : notes_join true body marks n (front ps) ≡ true
      tested-by = by_number joins true (front-joined joined) joined test

      pub told-notes : Told true true (filled_notes t j row lm body marks)
      told-notes = rw (front-joined joined) (notes-told (sym joins-by ∙ joined) tested-by)

      pub asked-notes : (0 < t.n) × (t.n ≤ 32) × (j ≤ t.n) × (length t.words ≡ 32) × Ready (down_plan (front_filled t j) 0) row lm
      asked-notes = rw (front-joined joined) (notes-asked (sym joins-by ∙ joined) tested-by)

      pub asked-body : (2 ≤ length body) × (notes_end body ≤ length body) × (get_or body 0 0 ≡ 862)
      asked-body = notes-body (sym joins-by ∙ joined) tested-by

pub asked-front : {n : ℕ} {row lm body marks : List ℕ} {t : Table} (y : Filling n row lm t body marks) (j : ℕ) → j ≡ front_of 0 (take t.n t.words) → (t.n ≤ 32) × (j ≤ t.n)
asked-front {t = t} y j e =
    let h = front-in (take t.n t.words) j e in
    let m = y.most in
    let k = y.table.number in
    let w = y.table.words in
    let l = length-take-le t.n t.words (omega arith) in
    (omega arith, omega arith)
