-- One declaration of a head replaced by an expression, the others kept round the body: the row that is written is the definition's. Assumes nothing.
use mathlib.Core.Path.{◌≡◌, refl, ap, sym, ◌∙◌}
use mathlib.Core.Bool.{Bool, true, false, ◌||◌}
use mathlib.Core.List.{List, [], ◌∷◌, ◌++◌, append-nil, append_assoc, map}
use mathlib.Core.Option.{none as absent, some}
use Prim.Native.Nat.{ℕ, zero, suc, ◌+◌, ◌-◌, ◌≤◌, ◌<◌}
use native.Mathlib.Omega.{arith}
use lib.ListN.{length, get_or, take, drop, set, replicate, length-set, length-replicate, take-append-drop}
use Rattle.tree.specs.Form.{Form, between, encode, encode_decls}
use Rattle.tree.specs.Tag.{pred, expr}
use Rattle.form.specs.Decode.{row_form}
use Rattle.form.specs.Lists.{kept, filled}
use Rattle.form.specs.Answer.{is_one, finish}
use Rattle.form.proofs.DecodeLaws.{clash, Ok, decode-sound}
use Rattle.form.proofs.RowLaws.{row-encode}
use Rattle.rules.specs.Walk.{subst}
use Rattle.rules.specs.Fill.{Decl, name_of, unlisted, any_noted, fill_for}
use Rattle.rules.specs.Partial.{no_places, set_place}
use Rattle.rules.proofs.WalkLaws.{and_left, and_right}
use Rattle.shift.specs.Internal.Items.{items, rewritten}
use Rattle.replace.specs.Internal.Pieces.{are_names, planned, down_plan}
use Rattle.replace.proofs.FillTree.{word_for}
use Rattle.replace.proofs.InsideLaws.{filled-body, lower-small}
use Rattle.decls.specs.Internal.Noted.{noted_head}
use Rattle.decls.proofs.DeclLaws.{GoodDecls, good-kept, few-kept, decls-ok}
use Rattle.decls.proofs.HeadLaws.{quant_head, encode-head, noted-head}
use Rattle.one_point.specs.Internal.Reduce.{operator_in, decls_in, AreNotes, one_table, placed_form, placed_outcome, target_of, Putting}
use Rattle.one_point.specs.Internal.Noted.{Flags, under_row, kept_row}
use Rattle.one_point.proofs.HeadedLaws.{head-count}
use Rattle.one_point.proofs.InsidePoint.{Fitting, kept_small}
use Rattle.one_point.proofs.PlaceLaws.{whole-pred}
use Rattle.one_point.proofs.PointTree.{point_places, point-words, point-kept, kept_form, kept-stays, kept-alone, kept-first}
use Rattle.one_point.proofs.FilledWords.{under-sure, body-filled}

-- the declarations of a head are well formed
pub good_of : (ds : List Decl) → are_names (map name_of ds) ≡ true → AreNotes ds → GoodDecls ds
good_of [] n w = tt
good_of ((m, absent) ∷ ds) n w = (and_left (between 0 65535 m) (are_names (map name_of ds)) n, tt, good_of ds (and_right (between 0 65535 m) (are_names (map name_of ds)) n) w.1)
good_of ((m, some f) ∷ ds) n w =
    (and_left (between 0 65535 m) (are_names (map name_of ds)) n, (decode-sound 63 expr (encode f) f [] w.0).1, good_of ds (and_right (between 0 65535 m) (are_names (map name_of ds)) n) w.1)

pub good-take : (j : ℕ) (ds : List Decl) → GoodDecls ds → GoodDecls (take j ds)
good-take zero ds g = tt
good-take (suc j) [] g = tt
good-take (suc j) (d ∷ ds) g = (g.0, g.1, good-take j ds g.2)

pub decls-append : (ds es : List Decl) → encode_decls (unlisted (ds ++ es)) ≡ encode_decls (unlisted ds) ++ encode_decls (unlisted es)
unfolding encode
decls-append [] es = refl
decls-append ((m, absent) ∷ ds) es = ap (λ z. m ∷ 0 ∷ z) (decls-append ds es)
decls-append ((m, some f) ∷ ds) es = ap (λ z. m ∷ 1 ∷ z) (rw (decls-append ds es, append_assoc (encode f)))

pub decls-parts : (j : ℕ) (ds : List Decl) → encode_decls (unlisted ds) ≡ encode_decls (unlisted (take j ds)) ++ encode_decls (unlisted (drop j ds))
decls-parts j ds = ap (λ z. encode_decls (unlisted z)) (sym (take-append-drop j ds)) ∙ decls-append (take j ds) (drop j ds)

pub any_append : (ds es : List Decl) → any_noted (ds ++ es) ≡ (any_noted ds || any_noted es)
any_append [] es = refl
any_append ((m, absent) ∷ ds) es = any_append ds es
any_append ((m, some f) ∷ ds) es = refl

-- how the code makes the kept row
pub kept_under : (sure : Bool) (head row : List ℕ) (p : ℕ) (part pm body marks : List ℕ) (room : ℕ) (t : ℕ) (hd : List ℕ) → t ≡ operator_in head → hd ≡ noted_head t (take (get_or head 1 0) (set (replicate 32 0) p 1)) row 8192
    → under_row sure hd (get_or head 1 0 - p) part pm body marks 0 room ≡ kept_row sure head row p part pm body marks room
unfolding kept_row
kept_under sure head row p part pm body marks room t hd e q = rw (q, e)

-- where it is not sure, nothing is asked for
pub unsure : {e g : Form} → false ≡ true → Fitting e g
unsure q = absurd (clash cc)

-- how many places there are
places-long : (n i : ℕ) (e : Form) → length (set_place n i e (no_places n)) ≡ n
places-long n i e = length-set (no_places n) (n - suc i) (filled e) ∙ length-replicate n kept

-- what is put for a place
module _ (head row : List ℕ) (p : ℕ) (part pm body marks : List ℕ) (h : Putting head p part pm body marks) where
  abbrev op : ℕ
  op = operator_in head

  abbrev decls : List Decl
  decls = decls_in head

  abbrev index : ℕ
  index = h.index

  pub put_count : get_or head 1 0 ≡ length decls
  put_count = head-count head h.placing.heading

  place_at : p ≡ length decls - suc index
  place_at = let q = h.place in omega arith

  pub put_low : p < get_or head 1 0
  put_low = let q = h.place in let c = put_count in omega arith

  pub index-low : index < length decls
  index-low = let q = h.place in omega arith

  rest_ok : (body ≡ encode h.placing.form) × Ok 63 pred h.placing.form
  rest_ok = whole-pred body h.placing.form 63 h.placing.is-rest

  outcome-is : (room : ℕ) → placed_outcome op decls (target_of head p) part body room ≡ finish pred room (placed_form op decls index h.placing.by h.placing.form)
  unfolding placed_outcome
  outcome-is room =
      let q = h.place in
      let c = put_count in
      let t : target_of head p ≡ index = omega arith in
      rw (h.placing.is-part, h.placing.is-rest, t)

  -- the others are kept
  module _ (f : Flags head row) (sure : Bool) (inside : sure ≡ true → Fitting h.placing.by h.placing.form) where
    kept-head : noted_head op (take (get_or head 1 0) (set (replicate 32 0) p 1)) row 8192 ≡ quant_head op (take (length decls - suc index) decls ++ drop (suc (length decls - suc index)) decls)
    kept-head =
        let ps = set_place (length decls) index h.placing.by (no_places (length decls)) in
        let few = h.placing.heading.few in
        let w : map word_for ps ≡ take (get_or head 1 0) (set (replicate 32 0) p 1) = point-words decls index h.placing.by index-low few
        ∙ (ap (λ z. take z (set (replicate 32 0) (length decls - suc index) 1)) (sym put_count) ∙ ap (λ z. take (get_or head 1 0) (set (replicate 32 0) z 1)) (sym place_at)) in
        let l : length ps ≡ length decls = places-long (length decls) index h.placing.by in
        rw (← w, ← point-kept decls index h.placing.by index-low)
        (noted-head ps decls row [] 8192 l (good_of decls h.placing.heading.names h.placing.heading.notes) (f.is ∙ sym (append-nil (encode_decls (unlisted decls)))) few f.short f.short op h.placing.heading.which)

    -- the result is a form where the expression and the body fit
    kept-fits : Fitting h.placing.by h.placing.form → length (encode (kept_form op decls index h.placing.by h.placing.form index-low)) ≤ 8192
        → is_one (row_form pred (encode (kept_form op decls index h.placing.by h.placing.form index-low))) ≡ true
    kept-fits b l =
        let ps = set_place (length decls) index h.placing.by (no_places (length decls)) in
        let few = h.placing.heading.few in
        let low = index-low in
        let n = length-replicate index kept in
        let k = few-kept ps decls in
        let is = point-kept decls index h.placing.by index-low in
        let ok : Ok 63 pred (subst (fill_for (point_places index h.placing.by)) h.placing.form)
        = filled-body b.over (point_places index h.placing.by) (omega arith) (lower-small b.over (suc index) h.placing.by b.small, kept_small b.over index) b.ok b.sum in
        let good : GoodDecls (take (length decls - suc index) decls ++ drop (suc (length decls - suc index)) decls) = rw is at (good-kept ps decls (good_of decls h.placing.heading.names h.placing.heading.notes)) in
        let m : length (take (length decls - suc index) decls ++ drop (suc (length decls - suc index)) decls) ≤ 32 = rw (← is) (omega arith) in
        ap is_one (row-encode (decls-ok op h.placing.heading.which (subst (fill_for (point_places index h.placing.by)) h.placing.form) (take (length decls - suc index) decls ++ drop (suc (length decls - suc index)) decls) good m ok) l)

    pub kept-row : placed_form op decls index h.placing.by h.placing.form ≡ kept_form op decls index h.placing.by h.placing.form index-low → (room : ℕ)
        → kept_row sure head row p part pm body marks room ≡ placed_outcome op decls (target_of head p) part body room
    unfolding kept_row
    kept-row e room =
        let c = put_count in
        let q = place_at in
        let s = index-low in
        let few = h.placing.heading.few in
        let m : get_or head 1 0 - p ≡ suc index = omega arith in
        let o = rest_ok in
        let words : quant_head op (take (length decls - suc index) decls ++ drop (suc (length decls - suc index)) decls) ++ rewritten (planned (down_plan (one_table (suc index) (length part)) (suc index)) part pm) (items (drop 0 body) (drop 0 marks))
        ≡ encode (kept_form op decls index h.placing.by h.placing.form index-low)
        = rw (body-filled h.placing.by part pm h.placing.is-part h.marking index (omega arith) h.placing.up h.placing.form o.1 body marks o.0 h.marked)
        (sym (encode-head op (take (length decls - suc index) decls ++ drop (suc (length decls - suc index)) decls) (subst (fill_for (point_places index h.placing.by)) h.placing.form))) in
        rw (kept-head, m) (under-sure h.placing.by part pm h.placing.is-part h.marking index (omega arith) h.placing.up sure _ body marks 0 room (kept_form op decls index h.placing.by h.placing.form index-low) words (λ s. kept-fits (inside s)))
        ∙ (ap (finish pred room) (sym e) ∙ sym (outcome-is room))

    -- where something stays behind it, or it is alone
    pub row_stays : (p + 1 ≡ get_or head 1 0 → ⊥) → (room : ℕ) → kept_row sure head row p part pm body marks room ≡ placed_outcome op decls (target_of head p) part body room
    row_stays n room = kept-row (kept-stays op decls index h.placing.by h.placing.form index-low h.placing.heading.which (some-index index refl)) room
      where
        some-index : (i : ℕ) → index ≡ i → 0 < index
        some-index zero e = let q = h.place in let c = put_count in absurd (n (omega arith))
        some-index (suc i) e = omega arith

    pub row_first : p ≡ 0 → (room : ℕ) → kept_row sure head row p part pm body marks room ≡ placed_outcome op decls (target_of head p) part body room
    row_first z room = go index refl
      where
        go : (i : ℕ) → index ≡ i → kept_row sure head row p part pm body marks room ≡ placed_outcome op decls (target_of head p) part body room
        go zero e = kept-row (kept-alone op decls index h.placing.by h.placing.form index-low (let q = h.place in omega arith)) room
        go (suc i) e = row_stays (λ q. let r = h.place in let c = put_count in omega arith) room

    -- or the body is not a quantifier with the same operator
    pub row_other : (p ≡ 0 → ⊥) → p + 1 ≡ get_or head 1 0 → (get_or body 0 0 ≡ op → ⊥) → (get_or body 0 0 ≡ op + 10 → ⊥) → (room : ℕ) → kept_row sure head row p part pm body marks room ≡ placed_outcome op decls (target_of head p) part body room
    row_other z l a b room =
        let q = h.place in
        let c = put_count in
        let o = rest_ok in
        let w : get_or body 0 0 ≡ get_or (encode h.placing.form) 0 0 = ap (λ v. get_or v 0 0) o.0 in
        kept-row (kept-first op decls index h.placing.by index-low h.placing.heading.which (omega arith) (two p refl) o.1 (λ e. a (w ∙ e)) (λ e. b (w ∙ e))) room
      where
        two : (k : ℕ) → p ≡ k → 2 ≤ length decls
        two zero e = absurd (z e)
        two (suc k) e = let c = put_count in omega arith
