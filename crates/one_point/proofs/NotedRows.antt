-- The last declaration of a head replaced by an expression, and those before it joined with the names that the body declares: the row that is
-- written is the definition's. Assumes nothing.
use mathlib.Core.Path.{◌≡◌, refl, ap, sym, ◌∙◌}
use mathlib.Core.Bool.{Bool, true, false, ◌||◌, ◌&&◌, or-false}
use mathlib.Core.List.{List, [], ◌∷◌, ◌++◌, append_assoc, map, map-append}
use Prim.Native.Nat.{ℕ, zero, suc, ◌+◌, ◌-◌, ◌*◌, ◌≤◌, ◌<◌}
use native.Mathlib.Omega.{arith}
use borrow.Author.Tests.{lt-ltb, le-ltb, le-leb}
use lib.Dec.{eqb, ltb, leb}
use lib.ListN.{length, get_or, take, drop, set, replicate, length-append, length-map, length-set, length-replicate, length-drop, take-append-drop}
use lib.Seq.{take_at, length-take-le}
use Rattle.tree.specs.Form.{Form, pick, encode, encode_decls}
use Rattle.tree.specs.Tag.{pred}
use Rattle.form.specs.Lists.{kept}
use Rattle.form.specs.Answer.{finish}
use Rattle.form.proofs.DecodeLaws.{clash, Ok}
use Rattle.rules.specs.Walk.{walk, put, subst, collect}
use Rattle.rules.specs.Fill.{Decl, unnoted, name_of, unlisted, any_noted, around, quantify, kept_decls, fill_for}
use Rattle.rules.specs.Prune.{is_not}
use Rattle.rules.specs.Replacement.{above}
use Rattle.reader.specs.Internal.Reads.{mark}
use Rattle.rules.proofs.WalkLaws.{each_decls}
use Rattle.rules.proofs.ReplicateLaws.{replicate-front}
use Rattle.rules.proofs.JoinLaws.{names-plain, bare-decls, unused_notes}
use Rattle.rules.proofs.JoinFill.{deeper, fits}
use Rattle.shift.specs.Internal.Items.{items, rewritten, store}
use Rattle.shift.proofs.ItemLaws.{store-front}
use Rattle.shift.proofs.AroundLaws.{head_of, encode-around, Quant, first_plain, quant-first, quant-second, none-noted}
use Rattle.replace.specs.Internal.Pieces.{planned, down_plan}
use Rattle.replace.proofs.FillTree.{word_for}
use Rattle.replace.proofs.PlainLaws.{plain-notes}
use Rattle.decls.specs.Internal.Noted.{noted_head, names_fit}
use Rattle.decls.proofs.DeclLaws.{GoodDecls}
use Rattle.decls.proofs.CountLaws.{op-range}
use Rattle.decls.proofs.HeadLaws.{quant_head, encode-head, noted-head, flags-length, names-fit}
use Rattle.one_point.specs.Internal.Reduce.{operator_in, decls_in, Headed, one_table, placed_form, placed_outcome, target_of, Putting}
use Rattle.one_point.specs.Internal.Noted.{Flags, under_row, kept_row, with_names, names_end, Inside}
use Rattle.one_point.proofs.HeadedLaws.{head-count, store_long}
use Rattle.one_point.proofs.PlaceLaws.{whole-pred}
use Rattle.one_point.proofs.PointTree.{point_places, zero-words, kept-front, joined_is}
use Rattle.one_point.proofs.FilledWords.{under-is, inner-filled}
use Rattle.one_point.proofs.KeptRows.{good_of, good-take, decls-append, decls-parts, any_append, unsure, kept-row}

-- the last declaration is replaced
module _ (head row : List ℕ) (p : ℕ) (part pm body marks : List ℕ) (h : Putting head p part pm body marks) (z : p ≡ 0 → ⊥) (l : p + 1 ≡ get_or head 1 0) where
  pub last-target : (room : ℕ) → placed_outcome (operator_in head) (decls_in head) 0 part body room ≡ placed_outcome (operator_in head) (decls_in head) (target_of head p) part body room
  last-target room = let t : target_of head p ≡ 0 = omega arith in ap (λ i. placed_outcome (operator_in head) (decls_in head) i part body room) (sym t)

-- names behind the head of a front: the head of the front and of these names without annotations
module _ (op : ℕ) (which : (eqb op 851 || eqb op 852) ≡ true) (front : List Decl) (names : List ℕ) where
  abbrev after : Bool → List ℕ
  after z = pick z (encode_decls (unlisted (map unnoted names))) names

  abbrev parts_of : Bool → List ℕ
  parts_of z = pick z (encode_decls (unlisted front)) (map name_of front)

  abbrev tag_of : Bool → ℕ
  tag_of z = pick z (op + 10) op

  joined-head : head_of op (front ++ map unnoted names) ≡ tag_of (any_noted front) ∷ (length front + length names) ∷ (parts_of (any_noted front) ++ after (any_noted front))
  joined-head =
      let l : length (front ++ map unnoted names) ≡ length front + length names = length-append front (map unnoted names) ∙ ap (λ z. length front + z) (length-map names unnoted) in
      rw (any_append front (map unnoted names), none-noted names, or-false (any_noted front), l, decls-append front (map unnoted names), map-append name_of front (map unnoted names), names-plain names) (go (any_noted front))
    where
      go : (z : Bool)
          → pick z ((op + 10) ∷ (length front + length names) ∷ (encode_decls (unlisted front) ++ encode_decls (unlisted (map unnoted names)))) (op ∷ (length front + length names) ∷ (map name_of front ++ names))
          ≡ pick z (op + 10) op ∷ (length front + length names) ∷ (pick z (encode_decls (unlisted front)) (map name_of front) ++ pick z (encode_decls (unlisted (map unnoted names))) names)
      go true = refl
      go false = refl

  head-of : head_of op front ≡ tag_of (any_noted front) ∷ length front ∷ parts_of (any_noted front)
  head-of = go (any_noted front)
    where
      go : (z : Bool) → pick z ((op + 10) ∷ length front ∷ encode_decls (unlisted front)) (op ∷ length front ∷ map name_of front) ≡ pick z (op + 10) op ∷ length front ∷ pick z (encode_decls (unlisted front)) (map name_of front)
      go true = refl
      go false = refl

  tag-high : (z : Bool) → ltb 860 (tag_of z) ≡ z
  tag-high true = let (a, b) = op-range op which in lt-ltb 860 (op + 10) (omega arith)
  tag-high false = let (a, b) = op-range op which in le-ltb 860 op (omega arith)

  module _ (l : List ℕ) (h : ℕ) (is : take h l ≡ head_of op front) (low : h ≤ length l) where
    head-long : h ≡ 2 + length (parts_of (any_noted front))
    head-long = sym (length-take-le h l low) ∙ (ap length (is ∙ head-of) ∙ omega arith)

    pub first-low : 2 ≤ h
    first-low = let k = head-long in omega arith

    split : l ≡ tag_of (any_noted front) ∷ length front ∷ (parts_of (any_noted front) ++ drop h l)
    split = sym (take-append-drop h l) ∙ ap (λ z. z ++ drop h l) (is ∙ head-of)

    first_word : ltb 860 (get_or l 0 0) ≡ any_noted front
    first_word = ap (λ z. ltb 860 (get_or z 0 0)) split ∙ tag-high (any_noted front)

    names-long : length (after (any_noted front)) ≡ pick (any_noted front) (2 * length names) (length names)
    names-long = go (any_noted front)
      where
        go : (z : Bool) → length (after z) ≡ pick z (2 * length names) (length names)
        go true = flags-length names
        go false = refl

    pub end_low : length names ≤ 32 → names_end names l h ≤ h + 2 * length names
    end_low few = rw first_word (go (any_noted front))
      where
        go : (z : Bool) → h + pick z (2 * length names) (length names) ≤ h + 2 * length names
        go true = omega arith
        go false = omega arith

    pub with-names : h + 2 * length names ≤ length l → (c : ℕ) → c ≡ length front + length names → take (names_end names l h) (set (with_names names l h) 1 c) ≡ head_of op (front ++ map unnoted names)
    with-names room c e =
        let z = any_noted front in
        let hd : List ℕ = tag_of z ∷ length front ∷ parts_of z in
        let k = head-long in
        let d = length-drop h l in
        let m = names-long in
        let q : length hd ≡ h = omega arith in
        let r : length (after z) ≤ length (drop h l) = let u = short z in omega arith in
        let s : with_names names l h ≡ hd ++ (after z ++ drop (length (after z)) (drop h l)) = rw first_word (ap (λ v. store v h (after z)) split ∙ store-front hd (drop h l) (after z) h q r) in
        let n : names_end names l h ≡ suc (suc (length (parts_of z ++ after z))) = rw first_word (ap (λ v. h + v) (sym m) ∙ (let w = length-append (parts_of z) (after z) in omega arith)) in
        rw (s, n, ← append_assoc (parts_of z) (after z) (drop (length (after z)) (drop h l)), e) (ap (λ v. tag_of z ∷ (length front + length names) ∷ v) (take_at (parts_of z ++ after z) (drop (length (after z)) (drop h l)) (length (parts_of z ++ after z)) refl) ∙ sym joined-head)
      where
        short : (z : Bool) → pick z (2 * length names) (length names) ≤ 2 * length names
        short true = omega arith
        short false = omega arith

-- nothing is used by declarations without annotations
plain-unused : (i : ℕ) (ns : List ℕ) → each_decls (is_not i) 0 (unlisted (map unnoted ns)) ≡ true
unfolding collect
plain-unused i [] = refl
plain-unused i (n ∷ ns) = plain-unused i ns

all-unused : (p : ℕ → Bool) (m : ℕ) (ns : List ℕ) → unused_notes p m (map unnoted ns) ≡ true
all-unused p zero ns = refl
all-unused p (suc m) ns = rw (plain-unused m ns, all-unused p m ns) (go (p m))
  where
    go : (b : Bool) → ((b || true) && true) ≡ true
    go true = refl
    go false = refl

-- the declarations before the last one
abbrev pub front_decls : List ℕ → List Decl
front_decls head = take (get_or head 1 0 - 1) (decls_in head)

pub front_at : (head : List ℕ) → Headed head → length (front_decls head) ≡ get_or head 1 0 - 1
front_at head h = let c = head-count head h in length-take-le (get_or head 1 0 - 1) (decls_in head) (omega arith)

pub head-some : (t : ℕ) (ds : List Decl) → 1 ≤ length ds → quant_head t ds ≡ head_of t ds
head-some t [] h = absurd (omega arith)
head-some t (d ∷ ds) h = refl

pub front-words : (head row : List ℕ) → Headed head → Flags head row → drop 2 row ≡ encode_decls (unlisted (front_decls head)) ++ encode_decls (unlisted (drop (get_or head 1 0 - 1) (decls_in head)))
front-words head row h f = f.is ∙ decls-parts (get_or head 1 0 - 1) (decls_in head)

pub front-good : (head : List ℕ) → Headed head → GoodDecls (front_decls head)
front-good head h = good-take (get_or head 1 0 - 1) (decls_in head) (good_of (decls_in head) h.names h.notes)

pub front-zeros : (head : List ℕ) → Headed head → map word_for (replicate (get_or head 1 0 - 1) kept) ≡ take (get_or head 1 0 - 1) (replicate 32 0)
front-zeros head h =
    let c = head-count head h in
    let f = h.few in
    zero-words (get_or head 1 0 - 1) ∙ sym (replicate-front (get_or head 1 0 - 1) 32 0 (omega arith))

pub front_kept : (head : List ℕ) → Headed head → kept_decls (replicate (get_or head 1 0 - 1) kept) (front_decls head) ≡ front_decls head
front_kept head h = let c = head-count head h in kept-front (get_or head 1 0 - 1) (decls_in head) (omega arith)

pub front-head : (head row : List ℕ) → Headed head → Flags head row → 2 ≤ get_or head 1 0 → noted_head (operator_in head) (take (get_or head 1 0 - 1) (replicate 32 0)) row 8256 ≡ head_of (operator_in head) (front_decls head)
front-head head row h f s =
    let c = head-count head h in
    let few = h.few in
    let l = front_at head h in
    let short = f.short in
    rw (← front-zeros head h)
    (noted-head (replicate (get_or head 1 0 - 1) kept) (front_decls head) row (encode_decls (unlisted (drop (get_or head 1 0 - 1) (decls_in head)))) 8256 (length-replicate (get_or head 1 0 - 1) kept ∙ sym l) (front-good head h)
    (front-words head row h f) (omega arith) f.short (omega arith) (operator_in head) h.which
    ∙ (ap (quant_head (operator_in head)) (front_kept head h) ∙ head-some (operator_in head) (front_decls head) (omega arith)))

pub last-outcome : (head row part pm body marks : List ℕ) (x : Inside head row part pm body marks) (room : ℕ)
    → placed_outcome (operator_in head) (decls_in head) 0 part body room ≡ finish pred room (placed_form (operator_in head) (decls_in head) 0 x.putting.placing.by x.putting.placing.form)
unfolding placed_outcome
last-outcome head row part pm body marks x room = rw (x.putting.placing.is-part, x.putting.placing.is-rest)

-- the last one is replaced, and those before it are kept
pub kept-last : (head row part pm body marks : List ℕ) (x : Inside head row part pm body marks)
    → placed_form (operator_in head) (decls_in head) 0 x.putting.placing.by x.putting.placing.form
    ≡ quantify (operator_in head) (take (length (decls_in head) - 1) (decls_in head) ++ drop (suc (length (decls_in head) - 1)) (decls_in head)) (subst (fill_for (point_places 0 x.putting.placing.by)) x.putting.placing.form)
    → (room : ℕ) → kept_row false head row (get_or head 1 0 - 1) part pm body marks room ≡ placed_outcome (operator_in head) (decls_in head) 0 part body room
kept-last head row part pm body marks x e room =
    let c = head-count head x.putting.placing.heading in
    let q = x.putting.place in
    let s = x.several in
    let z : x.putting.index ≡ 0 = omega arith in
    let t : target_of head (get_or head 1 0 - 1) ≡ 0 = omega arith in
    kept-row head row (get_or head 1 0 - 1) part pm body marks x.putting x.flags false unsure (rw z e) room ∙ rw t

-- the body's own quantifier without annotations, joined
module _ (head row part pm body marks : List ℕ) (x : Inside head row part pm body marks) (same : get_or body 0 0 ≡ operator_in head) where
  abbrev by : Form
  by = x.putting.placing.by

  abbrev form : Form
  form = x.putting.placing.form

  pub last-index : x.putting.index ≡ 0
  last-index = let q = x.putting.place in let c = head-count head x.putting.placing.heading in let s = x.several in omega arith

  body_is : (body ≡ encode form) × Ok 63 pred form
  body_is = whole-pred body form 63 x.putting.placing.is-rest

  first-is : get_or (encode form) 0 0 ≡ operator_in head
  first-is = ap (λ v. get_or v 0 0) (sym body_is.0) ∙ same

  pub own : Quant 62 form
  own = first_plain body_is.1 (rw first-is x.putting.placing.heading.which)

  own-plain : (any_noted own.decls ≡ false) × (own.op ≡ operator_in head)
  own-plain = go (any_noted own.decls) (sym (quant-first own) ∙ first-is)
    where
      go : (z : Bool) → pick z (own.op + 10) own.op ≡ operator_in head → (z ≡ false) × (own.op ≡ operator_in head)
      go true e =
          let (a, b) = op-range own.op own.which in
          let (c, d) = op-range (operator_in head) x.putting.placing.heading.which in
          absurd (omega arith)
      go false e = (refl, e)

  abbrev pub names : List ℕ
  names = map name_of own.decls

  own-decls : own.decls ≡ map unnoted names
  own-decls = sym (bare-decls own.decls own-plain.0)

  pub own-count : get_or body 1 0 ≡ length names
  own-count = ap (λ v. get_or v 1 0) body_is.0 ∙ (quant-second own ∙ sym (length-map own.decls name_of))

  pub own-few : length names ≤ 32
  own-few = let m = own.most in let l = length-map own.decls name_of in omega arith

  own-words : body ≡ operator_in head ∷ length names ∷ (names ++ encode own.body)
  own-words =
      let w = encode-around own.op 0 own.decls own.body in
      let l : length own.decls ≡ length names = sym (length-map own.decls name_of) in
      body_is.0 ∙ (ap encode own.form ∙ (w ∙ rw (own-plain.0, own-plain.1, l)))

  pub own-long : 2 + length names ≤ length body
  own-long = let w = ap length own-words in let l = length-append names (encode own.body) in omega arith

  pub own-names : take (2 + length names - 2) (drop 2 body) ≡ names
  own-names =
      let k : 2 + length names - 2 ≡ length names = omega arith in
      ap (λ z. take (2 + length names - 2) (drop 2 z)) own-words ∙ rw k (take_at names (encode own.body) (length names) refl)

  own-form : form ≡ around (operator_in head) (map unnoted names) own.body
  own-form = own.form ∙ rw (own-plain.1, ← own-decls)

  own-start : 2 + length names ≡ length (head_of (operator_in head) (map unnoted names))
  own-start = go (any_noted (map unnoted names)) (none-noted names)
    where
      go : (z : Bool) → z ≡ false → 2 + length names
          ≡ length (pick z ((operator_in head + 10) ∷ length (map unnoted names) ∷ encode_decls (unlisted (map unnoted names))) (operator_in head ∷ length (map unnoted names) ∷ map name_of (map unnoted names)))
      go true e = absurd (clash cc)
      go false e = rw (names-plain names) (omega arith)

  pub names-row : (hd : List ℕ) → hd ≡ head_of (operator_in head) (front_decls head ++ map unnoted names) → (room : ℕ)
      → under_row false hd 1 part pm body marks (2 + length names) room ≡ placed_outcome (operator_in head) (decls_in head) 0 part body room
  names-row hd e room =
      let h = x.putting in
      let o = body_is in
      let c = head-count head h.placing.heading in
      let s = x.several in
      let es = map unnoted names in
      let fr = front_at head h.placing.heading in
      let up : above 0 by ≡ true = rw last-index at h.placing.up in
      let mk : marks ≡ mark form 0 1 (replicate (length body) 0) = rw last-index at h.marked in
      let inner = inner-filled by part pm h.placing.is-part h.marking 0 (omega arith) up form o.1 body marks o.0 mk (operator_in head) es own.body own-form (let l = length-map names unnoted in let m = own-few in omega arith) own.ok (2 + length names) own-start in
      let made = quantify (operator_in head) (front_decls head ++ es) (walk (put (fill_for (point_places 0 by))) (length es) own.body) in
      let words : hd ++ rewritten (planned (down_plan (one_table 1 (length part)) 1) part pm) (items (drop (2 + length names) body) (drop (2 + length names) marks)) ≡ encode made
      = rw (e, inner)
      (sym (encode-head (operator_in head) (front_decls head ++ es) (walk (put (fill_for (point_places 0 by))) (length es) own.body) ∙ ap (λ z. z ++ encode (walk (put (fill_for (point_places 0 by))) (length es) own.body)) (head-some (operator_in head) (front_decls head ++ es) (let l = length-append (front_decls head) es in omega arith)))) in
      let tree : placed_form (operator_in head) (decls_in head) 0 by form ≡ made
      = ap (λ z. placed_form (operator_in head) (decls_in head) 0 by z) own-form ∙ (joined_is (operator_in head) h.placing.heading.which (decls_in head) (omega arith) by es own.body by (all-unused (fits (length (decls_in head) - 1) by (point_places 0 by) refl) (length (point_places 0 by) + (length (decls_in head) - 1)) names) ∙ rw (plain-notes (subst (fill_for (deeper (length (decls_in head) - 1) by (point_places 0 by) refl))) names, ← c)) in
      under-is by part pm h.placing.is-part h.marking 0 (omega arith) up hd body marks (2 + length names) room made words
      ∙ (ap (finish pred room) (sym tree) ∙ sym (last-outcome head row part pm body marks x room))

  -- as the code writes it
  abbrev ns : List ℕ
  ns = take (2 + get_or body 1 0 - 2) (drop 2 body)

  ns-are : ns ≡ names
  ns-are = ap (λ z. take (2 + z - 2) (drop 2 body)) own-count ∙ own-names

  pub names_in : 2 + get_or body 1 0 ≤ length body
  names_in = let c = own-count in let l = own-long in omega arith

  pub names-most : get_or body 1 0 ≤ 32
  names-most = let c = own-count in let l = own-few in omega arith

  module _ (t : ℕ) (te : t ≡ operator_in head) (h : ℕ) (l : List ℕ) (long : length l ≡ 8256) (low : h ≤ 8256) (wrote : take h l ≡ noted_head t (take (get_or head 1 0 - 1) (replicate 32 0)) row 8256) where
    is-head : take h l ≡ head_of (operator_in head) (front_decls head)
    is-head = wrote ∙ (ap (λ z. noted_head z (take (get_or head 1 0 - 1) (replicate 32 0)) row 8256) te ∙ front-head head row x.putting.placing.heading x.flags x.several)

    head-short : h ≤ 8192
    head-short =
        let k : length (take h l) ≡ h = length-take-le h l (omega arith) in
        let q = ap length is-head in
        let b = short (any_noted (front_decls head)) in
        omega arith
      where
        short : (z : Bool) → length (pick z ((operator_in head + 10) ∷ length (front_decls head) ∷ encode_decls (unlisted (front_decls head))) (operator_in head ∷ length (front_decls head) ∷ map name_of (front_decls head))) ≤ 8192
        short true =
            let e = ap length (front-words head row x.putting.placing.heading x.flags) ∙ length-append (encode_decls (unlisted (front_decls head))) (encode_decls (unlisted (drop (get_or head 1 0 - 1) (decls_in head)))) in
            let d = length-drop 2 row in
            let s = x.flags.short in
            let u = x.flags.long in
            omega arith
        short false =
            let e = front_at head x.putting.placing.heading in
            let m = length-map (front_decls head) name_of in
            let c = head-count head x.putting.placing.heading in
            let f = x.putting.placing.heading.few in
            omega arith

    ns-long : length ns ≤ 32
    ns-long = let q = ap length ns-are in let f = own-few in omega arith

    pub names-required : (0 < h) × (length (take (2 + get_or body 1 0 - 2) (drop 2 body)) ≤ 32) × (h + 2 * length (take (2 + get_or body 1 0 - 2) (drop 2 body)) ≤ length l) × (length l ≤ 8256)
    names-required =
        let a = first-low (operator_in head) x.putting.placing.heading.which (front_decls head) ns l h is-head (omega arith) in
        let b = ns-long in
        let c = head-short in
        (omega arith, ns-long, omega arith, omega arith)

    module _ (e : ℕ) (l' : List ℕ) (ends : e ≡ names_end (take (2 + get_or body 1 0 - 2) (drop 2 body)) l h) (put : l' ≡ with_names (take (2 + get_or body 1 0 - 2) (drop 2 body)) l h) where
      pub end_fits : (c : ℕ) → e ≤ length (set l' 1 c)
      end_fits c =
          let a = end_low (operator_in head) x.putting.placing.heading.which (front_decls head) ns l h is-head (omega arith) ns-long in
          let b = ns-long in
          let d = head-short in
          let k : length (set l' 1 c) ≡ 8256 = length-set l' 1 c ∙ (ap length put ∙ (store_long _ l h ∙ long)) in
          omega arith

      pub names-under : (c : ℕ) → c ≡ get_or head 1 0 - 1 + get_or body 1 0 → (room : ℕ)
          → under_row false (take e (set l' 1 c)) 1 part pm body marks (2 + get_or body 1 0) room ≡ placed_outcome (operator_in head) (decls_in head) 0 part body room
      names-under c q room =
          let b = ns-long in
          let d = head-short in
          let f = front_at head x.putting.placing.heading in
          let o = own-count in
          let n = ap length ns-are in
          let w : take e (set l' 1 c) ≡ head_of (operator_in head) (front_decls head ++ map unnoted ns)
          = ap (λ z. take z (set l' 1 c)) ends ∙ (ap (λ z. take (names_end ns l h) (set z 1 c)) put ∙ with-names (operator_in head) x.putting.placing.heading.which (front_decls head) ns l h is-head (omega arith) (omega arith) c (omega arith)) in
          let v : take e (set l' 1 c) ≡ head_of (operator_in head) (front_decls head ++ map unnoted names) = w ∙ ap (λ z. head_of (operator_in head) (front_decls head ++ map unnoted z)) ns-are in
          let u : 2 + get_or body 1 0 ≡ 2 + length names = omega arith in
          ap (λ z. under_row false (take e (set l' 1 c)) 1 part pm body marks z room) u ∙ names-row (take e (set l' 1 c)) v room

-- names put behind a head
module _ (names head : List ℕ) (h : ℕ) (room : h + 2 * length names ≤ length head) (few : length names ≤ 32) where
  names-fit-in : names_fit (length names) 66 ≡ true
  names-fit-in = names-fit (length names) 66 few (omega arith)

  module _ (high : 860 < get_or head 0 0) (e : ℕ) (l l' : List ℕ) (long : length l ≡ 66)
      (ends : e ≡ pick (names_fit (length names) (length l)) (2 + 2 * length names) 0) (put : l' ≡ pick (names_fit (length names) (length l)) (store l 2 (encode_decls (unlisted (map unnoted names)))) l) where
    pub flags-end : e ≡ 2 + 2 * length names
    flags-end = ends ∙ rw (long, names-fit-in)

    flags-are : take (e - 2) (drop 2 l') ≡ encode_decls (unlisted (map unnoted names))
    flags-are =
        let ws = encode_decls (unlisted (map unnoted names)) in
        let n = flags-length names in
        let k : e - 2 ≡ length ws = let q = flags-end in omega arith in
        let s : l' ≡ store l 2 ws = put ∙ rw (long, names-fit-in) in
        let m : 2 + length ws ≤ length l = omega arith in
        rw (k, s) (stored-from l ws m)
      where
        stored-from : (l ws : List ℕ) → 2 + length ws ≤ length l → take (length ws) (drop 2 (store l 2 ws)) ≡ ws
        stored-from [] ws h = absurd (omega arith)
        stored-from (a ∷ []) ws h = absurd (omega arith)
        stored-from (a ∷ b ∷ l) ws h = rw (store-front (a ∷ b ∷ []) l ws 2 refl (omega arith)) (take_at ws (drop (length ws) l) (length ws) refl)

    pub add-flags : (out : List ℕ) → out ≡ pick (leb (h + length (take (e - 2) (drop 2 l'))) (length head)) (store head h (take (e - 2) (drop 2 l'))) head
        → (h + 2 * length names ≡ names_end names head h) × (out ≡ with_names names head h)
    add-flags out q =
        let n = flags-length names in
        rw (lt-ltb 860 (get_or head 0 0) high) (refl, q ∙ rw (flags-are, le-leb (h + length (encode_decls (unlisted (map unnoted names)))) (length head) (omega arith)))

  pub add-plain : get_or head 0 0 ≤ 860 → (out : List ℕ) → out ≡ pick (leb (h + length names) (length head)) (store head h names) head → (h + length names ≡ names_end names head h) × (out ≡ with_names names head h)
  add-plain low out q = rw (le-ltb 860 (get_or head 0 0) low) (refl, q ∙ rw (le-leb (h + length names) (length head) (omega arith)))
