-- Declarations joined with the body's own annotated ones: the row that is written is the definition's. Assumes nothing.
use mathlib.Core.Path.{◌≡◌, refl, ap, sym, ◌∙◌}
use mathlib.Core.Bool.{Bool, true, false, ◌||◌, ◌&&◌, or-true}
use mathlib.Core.List.{List, [], ◌∷◌, ◌++◌, append-nil, map}
use Prim.Native.Nat.{ℕ, suc, ◌+◌, ◌-◌, ◌≤◌, ◌<◌}
use native.Mathlib.Omega.{arith}
use borrow.Author.Tests.{le-leb, leb-false, lt-ltb, eqb-true, ne_eqb}
use lib.Dec.{leb, eqb, ltb}
use lib.ListN.{length, get_or, take, drop, set, replicate, length-append, length-map, length-set, length-replicate}
use lib.Seq.{take_at, drop-length, get_or-drop}
use Rattle.tree.specs.Form.{free, Form, leaf, pick, encode, encode_decls}
use Rattle.tree.specs.Tag.{pred}
use Rattle.form.specs.Lists.{filled}
use Rattle.form.specs.Answer.{stop, finish}
use Rattle.form.proofs.DecodeLaws.{clash, Ok}
use Rattle.reader.specs.Internal.Reads.{mark}
use Rattle.rules.specs.Walk.{walk, put, subst, each}
use Rattle.rules.specs.Shift.{reaches, lower}
use Rattle.rules.specs.Fill.{Decl, unlisted, any_noted, around, quantify, fill_for}
use Rattle.rules.specs.Prune.{is_not}
use Rattle.rules.specs.Partial.{on_note}
use Rattle.rules.specs.Replacement.{above}
use Rattle.rules.proofs.WalkLaws.{each_decls}
use Rattle.rules.proofs.OkLaws.{ok-deep}
use Rattle.rules.proofs.JoinLaws.{notes-any, unused_notes}
use Rattle.rules.proofs.JoinFill.{fits}
use Rattle.shift.specs.Internal.Items.{items, rewritten, store}
use Rattle.shift.proofs.ItemLaws.{stored}
use Rattle.shift.proofs.RowLaws.{marks_of, marks_decls, marks-length_decls, mark-front}
use Rattle.shift.proofs.AroundLaws.{head_of, encode-around, marks-around, Quant, first-noted, quant-first, quant-second}
use Rattle.replace.specs.Internal.Pieces.{planned, down_plan}
use Rattle.places.specs.Internal.Sides.{above_words}
use Rattle.places.proofs.SidesLaws.{above-words}
use Rattle.decls.specs.Internal.Noted.{body_start}
use Rattle.decls.specs.Internal.Used.{cleared_in, cleared_by}
use Rattle.decls.proofs.DeclLaws.{GoodDecls, around-good}
use Rattle.decls.proofs.CountLaws.{op-range, start-behind}
use Rattle.decls.proofs.HeadLaws.{encode-head}
use Rattle.decls.proofs.UsedLaws.{clears-notes}
use Rattle.one_point.specs.Internal.Reduce.{operator_in, decls_in, Headed, one_table, placed_form, placed_outcome}
use Rattle.one_point.specs.Internal.Marks.{raise_mark, CanRaise}
use Rattle.one_point.specs.Internal.Noted.{under_row, kept_row, Inside, notes_in, notes_of, free_words, joined_head, joined_row, all_ones, joining_by, joining_in}
use Rattle.one_point.specs.declared.joined.Joining.{Joining}
use Rattle.one_point.specs.declared.joined.Joining.TheVariants.{Apart, Unused, Used}
use Rattle.one_point.proofs.HeadedLaws.{head-count}
use Rattle.one_point.proofs.PlaceLaws.{whole-pred, whole-expr}
use Rattle.one_point.proofs.RaiseLaws.{raise-marks_decls, low-marks_decls}
use Rattle.one_point.proofs.PointTree.{point_places, joined_is, apart-is, fits_last, fits-front, front_unused, unused-is, joins-apart, joins-unused, joins-used, deeper-used, deeper-unused}
use Rattle.one_point.proofs.FilledWords.{part-there, under-is, inner-filled, notes-in, free-there, free-ok, free-above}
use Rattle.one_point.proofs.KeptRows.{any_append, decls-append}
use Rattle.one_point.proofs.NotedRows.{front_decls, front_at, head-some, last-outcome, kept-last}
use Rattle.one_point.proofs.JoinedHead.{long-finish}
use Rattle.form.specs.declared.answer.Refusal.TheVariants.{OutOfLimits}

-- the body's own quantifier has annotations
module _ (head row part pm body marks : List ℕ) (x : Inside head row part pm body marks) (same : get_or body 0 0 ≡ operator_in head + 10) where
  abbrev pub op : ℕ
  op = operator_in head

  abbrev pub decls : List Decl
  decls = decls_in head

  abbrev j : ℕ
  j = length decls - 1

  abbrev pub by : Form
  by = x.putting.placing.by

  abbrev pub form : Form
  form = x.putting.placing.form

  abbrev heading : Headed head
  heading = x.putting.placing.heading

  count-is : get_or head 1 0 ≡ length decls
  count-is = head-count head heading

  several : 2 ≤ length decls
  several = let s = x.several in let c = count-is in omega arith

  last-index : x.putting.index ≡ 0
  last-index = let q = x.putting.place in let c = count-is in let s = x.several in omega arith

  body_is : (body ≡ encode form) × Ok 63 pred form
  body_is = whole-pred body form 63 x.putting.placing.is-rest

  first-is : get_or (encode form) 0 0 ≡ op + 10
  first-is = ap (λ v. get_or v 0 0) (sym body_is.0) ∙ same

  up-tag : (eqb (op + 10) 861 || eqb (op + 10) 862) ≡ true
  up-tag = go (eqb op 851) (eqb op 852) refl refl heading.which
    where
      go : (a b : Bool) → eqb op 851 ≡ a → eqb op 852 ≡ b → (a || b) ≡ true → (eqb (op + 10) 861 || eqb (op + 10) 862) ≡ true
      go true b y z q = rw (eqb-true op 851 y)
      go false true y z q = rw (eqb-true op 852 z)
      go false false y z q = absurd (clash cc)

  pub own : Quant 62 form
  own = first-noted body_is.1 (rw first-is up-tag)

  own-noted : (any_noted own.decls ≡ true) × (own.op ≡ op)
  own-noted = go (any_noted own.decls) (sym (quant-first own) ∙ first-is)
    where
      go : (z : Bool) → pick z (own.op + 10) own.op ≡ op + 10 → (z ≡ true) × (own.op ≡ op)
      go true e = (refl, omega arith)
      go false e =
          let (a, b) = op-range own.op own.which in
          let (c, d) = op-range op heading.which in
          absurd (omega arith)

  abbrev pub es : List Decl
  es = own.decls

  abbrev pub notes : List ℕ
  notes = encode_decls (unlisted es)

  pub inner-count : get_or body 1 0 ≡ length es
  inner-count = ap (λ v. get_or v 1 0) body_is.0 ∙ quant-second own

  pub inner-few : get_or body 1 0 ≤ 32
  inner-few = let c = inner-count in let m = own.most in omega arith

  own-form : form ≡ around op es own.body
  own-form = own.form ∙ rw own-noted.1

  own-words : body ≡ (op + 10) ∷ length es ∷ (notes ++ encode own.body)
  own-words = body_is.0 ∙ (ap encode own-form ∙ (encode-around op 0 es own.body ∙ rw own-noted.0))

  pub inner-two : 2 ≤ length body
  inner-two = let w = ap length own-words in omega arith

  own-good : GoodDecls es
  own-good = around-good op heading.which own.body es (rw own-form at (ok-deep body_is.1 64 (omega arith)))

  own-head : length (head_of op es) ≡ 2 + length notes
  own-head = rw own-noted.0 (omega arith)

  marks-are : marks ≡ 0 ∷ 0 ∷ (marks_decls 1 (unlisted es) ++ marks_of (length es + 1) own.body)
  marks-are =
      let l : length body ≡ length (encode form) = ap length body_is.0 in
      let z : length body - length (encode form) ≡ 0 = omega arith in
      let a : marks ≡ mark form 0 1 (replicate (length body) 0) = rw last-index at x.putting.marked in
      let b : mark form 0 1 (replicate (length body) 0) ≡ marks_of 1 form = rw (z, append-nil) at (mark-front form 1 (length body) (omega arith)) in
      a ∙ (b ∙ (ap (marks_of 1) own-form ∙ (marks-around op 1 es own.body ∙ rw own-noted.0)))

  module _ (s : ℕ) (is : s ≡ body_start body (get_or body 1 0)) where
    pub inner_start : s ≡ 2 + length notes
    inner_start =
        let w : body ≡ head_of op es ++ encode own.body = own-words ∙ rw own-noted.0 in
        is ∙ (rw inner-count (start-behind op heading.which es own-good (encode own.body) body w) ∙ own-head)

    pub inner-low : s ≤ length body
    inner-low = let e = inner_start in let w = ap length own-words in let a = length-append notes (encode own.body) in omega arith

    pub inner-marked : s ≤ length marks
    inner-marked = let e = inner_start in let w = ap length marks-are in let a = length-append (marks_decls 1 (unlisted es)) (marks_of (length es + 1) own.body) in let m = marks-length_decls 1 (unlisted es) in omega arith

    pub inner-short : s - 2 ≤ 16384
    inner-short = let e = inner-low in let m = x.putting.placing.long in omega arith

    notes-are : notes_of s body ≡ notes
    notes-are =
        let k : s - 2 ≡ length notes = let e = inner_start in omega arith in
        ap (λ z. take (s - 2) (drop 2 z)) own-words ∙ rw k (take_at notes (encode own.body) (length notes) refl)

    low-are : take (s - 2) (drop 2 marks) ≡ marks_decls 1 (unlisted es)
    low-are =
        let k : s - 2 ≡ length (marks_decls 1 (unlisted es)) = let e = inner_start in let m = marks-length_decls 1 (unlisted es) in omega arith in
        ap (λ z. take (s - 2) (drop 2 z)) marks-are ∙ rw k (take_at (marks_decls 1 (unlisted es)) (marks_of (length es + 1) own.body) (length (marks_decls 1 (unlisted es))) refl)

    -- the marks of the annotations, copied and raised
    module _ (r₀ r₁ : List ℕ) (long : length r₀ ≡ s - 2) (copied : r₁ ≡ pick (leb (0 + length (take (s - 2) (drop 2 marks))) (length r₀)) (store r₀ 0 (take (s - 2) (drop 2 marks))) r₀) where
      copied-are : r₁ ≡ marks_decls 1 (unlisted es)
      copied-are =
          let m = marks-length_decls 1 (unlisted es) in
          let e = inner_start in
          let k : length (marks_decls 1 (unlisted es)) ≡ length r₀ = omega arith in
          let d : drop (length (marks_decls 1 (unlisted es))) r₀ ≡ [] = rw k (drop-length r₀) in
          copied ∙ rw (low-are, le-leb (0 + length (marks_decls 1 (unlisted es))) (length r₀) (omega arith)) (stored r₀ (marks_decls 1 (unlisted es)) (omega arith) ∙ rw (d, append-nil))

      pub marks-can : CanRaise (get_or head 1 0 - 1) r₁
      marks-can i =
          let m = inner-short in
          let e = inner_start in
          let c = count-is in
          let f = heading.few in
          let b = rw (← copied-are) at (low-marks_decls 16386 1 (unlisted es) (omega arith) i) in
          omega arith

      module _ (r₂ : List ℕ) (raised : r₂ ≡ map (raise_mark (get_or head 1 0 - 1)) r₁) where
        raised-are : r₂ ≡ marks_decls (length decls) (unlisted es)
        raised-are =
            let c = count-is in
            let v = several in
            let k : 1 + (get_or head 1 0 - 1) ≡ length decls = omega arith in
            raised ∙ (ap (map (raise_mark (get_or head 1 0 - 1))) copied-are ∙ (raise-marks_decls (get_or head 1 0 - 1) 1 (unlisted es) ∙ ap (λ z. marks_decls z (unlisted es)) k))

        -- how they join
        abbrev used : ℕ → Bool
        used i = each_decls (is_not i) 0 (unlisted es)

        joining-tree : joining_in (get_or head 1 0) part (notes_of s body) r₂ ≡ joining_by j (above j by) (cleared_by used (replicate (suc j) 1))
        unfolding joining_in
        joining-tree =
            let c = count-is in
            let v = several in
            let few = heading.few in
            let n : length decls ≡ suc j = omega arith in
            let p = whole-expr part by x.putting.placing.is-part in
            let m = ap length p.0 in
            let t = x.putting.placing.short in
            let high : above_words j part ≡ above j by = ap (above_words j) p.0 ∙ above-words j by (ok-deep p.1 64 (omega arith)) (omega arith) in
            let z : length (replicate {A = ℕ} (length decls + 1) 1) ≡ length decls + 1 = length-replicate {A = ℕ} (length decls + 1) 1 in
            let q : length decls + 1 ≡ suc (suc j) = omega arith in
            let w : cleared_in (length decls) notes r₂ 0 (length notes) (replicate (length decls + 1) 1) ≡ cleared_by used (drop 1 (replicate (length decls + 1) 1))
            = clears-notes (length decls) notes r₂ 0 (length notes) (replicate (length decls + 1) 1) z (unlisted es) [] [] (omega arith) (omega arith) (sym (append-nil notes)) (raised-are ∙ sym (append-nil (marks_decls (length decls) (unlisted es)))) (omega arith) in
            rw (c, notes-are, lt-ltb j 32 (omega arith), high, w, q)

        abbrev dummy : Form
        dummy = lower (suc j) (leaf (free 0))

        test-is : (y : Form) → unused_notes (fits j y (point_places 0 by) refl) (length (point_places 0 by) + j) es ≡ (front_unused used j && (above j by || used 0))
        test-is y =
            let k : 1 + j ≡ suc j = omega arith in
            let up : above 0 by ≡ true = rw last-index at x.putting.placing.up in
            rw k (unused-is (fits j y (point_places 0 by) refl) es j (fits-front j by y) ∙ rw (fits_last j by y up))

        -- the joined form
        abbrev in_body : Form
        in_body = walk (put (fill_for (point_places 0 by))) (length es) own.body

        joined-row : (fs : List Decl) (ws : List ℕ) → ws ≡ encode_decls (unlisted fs) → any_noted fs ≡ true → length fs ≡ length es → placed_form op decls 0 by form ≡ quantify op (front_decls head ++ fs) in_body → (room : ℕ)
            → joined_row head (get_or body 1 0) ws part pm body marks s room ≡ placed_outcome op decls 0 part body room
        unfolding joined_row
        joined-row fs ws w any l tree room =
            let h = x.putting in
            let o = body_is in
            let c = count-is in
            let few = heading.few in
            let fr = front_at head heading in
            let up : above 0 by ≡ true = rw last-index at h.placing.up in
            let mk : marks ≡ mark form 0 1 (replicate (length body) 0) = rw last-index at h.marked in
            let inner = inner-filled by part pm h.placing.is-part h.marking 0 (omega arith) up form o.1 body marks o.0 mk op es own.body own-form own.most own.ok s (inner_start ∙ sym own-head) in
            let made = quantify op (front_decls head ++ fs) in_body in
            let n : get_or head 1 0 - 1 + get_or body 1 0 ≡ length (front_decls head ++ fs) = let a = length-append (front_decls head) fs in let b = inner-count in omega arith in
            let hd : joined_head head (get_or body 1 0) ws ≡ head_of op (front_decls head ++ fs) = rw (w, n, any_append (front_decls head) fs, any, or-true (any_noted (front_decls head)), decls-append (front_decls head) fs) in
            let enc : encode made ≡ joined_head head (get_or body 1 0) ws ++ encode in_body
            = encode-head op (front_decls head ++ fs) in_body ∙ ap (λ z. z ++ encode in_body) (head-some op (front_decls head ++ fs) (let a = length-append (front_decls head) fs in let b = several in omega arith) ∙ sym hd) in
            let words : joined_head head (get_or body 1 0) ws ++ rewritten (planned (down_plan (one_table 1 (length part)) 1) part pm) (items (drop s body) (drop s marks)) ≡ encode made = rw inner (sym enc) in
            let long : length (encode made) ≡ length (joined_head head (get_or body 1 0) ws) + length (encode in_body) = ap length enc ∙ length-append (joined_head head (get_or body 1 0) ws) (encode in_body) in
            let end : finish pred room made ≡ placed_outcome op decls 0 part body room = ap (finish pred room) (sym tree) ∙ sym (last-outcome head row part pm body marks x room) in
            go (leb (length (joined_head head (get_or body 1 0) ws)) 8192) refl (under-is by part pm h.placing.is-part h.marking 0 (omega arith) up (joined_head head (get_or body 1 0) ws) body marks s room made words ∙ end) made long end
          where
            go : (b : Bool) → leb (length (joined_head head (get_or body 1 0) ws)) 8192 ≡ b → under_row false (joined_head head (get_or body 1 0) ws) 1 part pm body marks s room ≡ placed_outcome op decls 0 part body room → (made : Form)
                → length (encode made) ≡ length (joined_head head (get_or body 1 0) ws) + length (encode in_body) → finish pred room made ≡ placed_outcome op decls 0 part body room
                → pick b (under_row false (joined_head head (get_or body 1 0) ws) 1 part pm body marks s room) (stop OutOfLimits) ≡ placed_outcome op decls 0 part body room
            go true q u made long end = u
            go false q u made long end = let m = leb-false (length (joined_head head (get_or body 1 0) ws)) 8192 q in sym (long-finish room made (omega arith)) ∙ end

        module _ (how : Joining) (found : how ≡ joining_in (get_or head 1 0) part (notes_of s body) r₂) where
          found-tree : how ≡ joining_by j (above j by) (cleared_by used (replicate (suc j) 1))
          found-tree = found ∙ joining-tree

          frontly : take j decls ≡ front_decls head
          frontly = let c = count-is in rw c

          pub how-apart : how ≡ Apart → (room : ℕ) → kept_row false head row (get_or head 1 0 - 1) part pm body marks room ≡ placed_outcome op decls 0 part body room
          how-apart e room =
              let t = test-is by ∙ joins-apart used j (above j by) (sym found-tree ∙ e) in
              kept-last head row part pm body marks x
              (ap (λ z. placed_form op decls 0 by z) own-form
              ∙ (apart-is op heading.which decls several by es own.body by t ∙ ap (λ z. quantify op (take (length decls - 1) decls ++ drop (suc (length decls - 1)) decls) (subst (fill_for (point_places 0 by)) z)) (sym own-form))) room

          pub how-used : how ≡ Used → (room : ℕ) → joined_row head (get_or body 1 0) (notes_in (get_or head 1 0) part pm (notes_of s body) r₂) part pm body marks s room ≡ placed_outcome op decls 0 part body room
          how-used e room =
              let h = x.putting in
              let c = count-is in
              let few = heading.few in
              let v = several in
              let (t, high) = joins-used used j (above j by) (sym found-tree ∙ e) in
              let n : length decls ≡ suc j = omega arith in
              let τ = fill_for (replicate (suc j) (filled (lower (suc j) by))) in
              let over : each (reaches (length decls)) 0 by ≡ true = rw n high in
              let p = whole-expr part by h.placing.is-part in
              let ws : notes_in (get_or head 1 0) part pm (notes_of s body) r₂ ≡ encode_decls (unlisted (map (on_note (subst τ)) es))
              = ap (λ z. notes_in z part pm (notes_of s body) r₂) c
              ∙ (notes-in by part pm (part-there by part pm h.placing.is-part h.marking) p.1 (length decls) few over es own-good (notes_of s body) r₂ notes-are raised-are
              ∙ ap (λ z. encode_decls (unlisted (map (on_note (subst (fill_for (replicate z (filled (lower z by)))))) es))) n) in
              let tree : placed_form op decls 0 by form ≡ quantify op (front_decls head ++ map (on_note (subst τ)) es) in_body
              = ap (λ z. placed_form op decls 0 by z) own-form ∙ rw (← frontly) (joined_is op heading.which decls several by es own.body (lower (suc j) by) (test-is (lower (suc j) by) ∙ t) ∙ rw (deeper-used j by)) in
              joined-row (map (on_note (subst τ)) es) _ ws (notes-any τ es ∙ own-noted.0) (length-map es (on_note (subst τ))) tree room

          pub how-unused : how ≡ Unused → (room : ℕ) → joined_row head (get_or body 1 0) (notes_in (get_or head 1 0) free_words free_words (notes_of s body) r₂) part pm body marks s room ≡ placed_outcome op decls 0 part body room
          how-unused e room =
              let c = count-is in
              let few = heading.few in
              let v = several in
              let (t, Free-of) = joins-unused used j (above j by) (sym found-tree ∙ e) in
              let n : length decls ≡ suc j = omega arith in
              let τ = fill_for (replicate (suc j) (filled dummy)) in
              let ws : notes_in (get_or head 1 0) free_words free_words (notes_of s body) r₂ ≡ encode_decls (unlisted (map (on_note (subst τ)) es))
              = ap (λ z. notes_in z free_words free_words (notes_of s body) r₂) c
              ∙ (notes-in (leaf (free 0)) free_words free_words free-there free-ok (length decls) few (free-above (length decls)) es own-good (notes_of s body) r₂ notes-are raised-are
              ∙ ap (λ z. encode_decls (unlisted (map (on_note (subst (fill_for (replicate z (filled (lower z (leaf (free 0)))))))) es))) n) in
              let tree : placed_form op decls 0 by form ≡ quantify op (front_decls head ++ map (on_note (subst τ)) es) in_body
              = ap (λ z. placed_form op decls 0 by z) own-form ∙ rw (← frontly) (joined_is op heading.which decls several by es own.body dummy (test-is dummy ∙ t) ∙ rw (deeper-unused j by dummy es Free-of)) in
              joined-row (map (on_note (subst τ)) es) _ ws (notes-any τ es ∙ own-noted.0) (length-map es (on_note (subst τ))) tree room

-- the tests of the code
pub is-less : {m n k : ℕ} → m ≡ n → k < m → k < n
is-less e h = omega arith

pub filled_in : (l₀ l out : List ℕ) (s n : ℕ) → length l ≡ length l₀ → length l₀ ≡ 8192 → n ≤ length l - s → length out ≡ 8192 → n ≤ length out
filled_in l₀ l out s n e long h k = omega arith

pub set-in : (l₀ l₁ l₂ : List ℕ) (t : ℕ) → length l₁ ≡ length l₀ → length l₂ ≡ length l₁ → length l₀ ≡ 8192 → 1 < length (set l₂ 0 t)
set-in l₀ l₁ l₂ t a b c = let d = length-set l₂ 0 t in omega arith

-- how the code finds how they join
module _ (n : ℕ) (part notes raised w w' : List ℕ) (some-n : 0 < n) (is : w ≡ replicate (n + 1) 1) (same : length w' ≡ length w) (cleared : drop 1 w' ≡ cleared_in n notes raised 0 (length notes) w) where
  words_long : length w' ≡ n + 1
  words_long = same ∙ (ap length is ∙ length-replicate {A = ℕ} (n + 1) 1)

  pub words-past : n < length w'
  words-past = let l = words_long in omega arith

  pub words-in : n ≤ length w'
  words-in = let l = words_long in omega arith

  left : cleared_in n notes raised 0 (length notes) (replicate (n + 1) 1) ≡ drop 1 w'
  left = sym (cleared ∙ ap (cleared_in n notes raised 0 (length notes)) is)

  last_word : get_or (drop 1 w') (n - 1) 0 ≡ get_or w' n 0
  last_word = let k : 1 + (n - 1) ≡ n = omega arith in get_or-drop 1 w' (n - 1) 0 ∙ ap (λ z. get_or w' z 0) k

  module _ (a : Bool) (ones : a ≡ all_ones (take (n - 1) (drop 1 w'))) where
    pub join_front : a ≡ false → Apart ≡ joining_in n part notes raised
    unfolding joining_in
    join_front e = rw (left, sym ones ∙ e)

    module _ (free-front : a ≡ true) where
      pub join-unused : get_or w' n 0 ≡ 1 → Unused ≡ joining_in n part notes raised
      unfolding joining_in
      join-unused e = rw (left, sym ones ∙ free-front, last_word, e)

      module _ (uses : get_or w' n 0 ≡ 1 → ⊥) (b : Bool) (high : b ≡ (ltb (n - 1) 32 && above_words (n - 1) part)) where
        pub join-used : b ≡ true → Used ≡ joining_in n part notes raised
        unfolding joining_in
        join-used e = rw (left, sym ones ∙ free-front, last_word, ne_eqb (get_or w' n 0) 1 uses, sym high ∙ e)

        pub join_apart : b ≡ false → Apart ≡ joining_in n part notes raised
        unfolding joining_in
        join_apart e = rw (left, sym ones ∙ free-front, last_word, ne_eqb (get_or w' n 0) 1 uses, sym high ∙ e)
