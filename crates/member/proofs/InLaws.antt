-- An element in a comprehension, as the code finds it in the row. Assumes nothing.
use mathlib.Core.Path.{◌≡◌, refl, ap, sym, ◌∙◌}
use mathlib.Core.Bool.{Bool, true, false, ◌||◌}
use mathlib.Core.List.{List, [], ◌∷◌, ◌++◌, append-nil}
use mathlib.Core.Option.{none as absent, some}
use Prim.Native.Nat.{ℕ, ◌+◌, ◌≤◌, ◌<◌}
use native.Mathlib.Omega.{arith}
use borrow.Author.Tests.{ne_eqb}
use lib.Dec.{eqb}
use lib.ListN.{length, get_or, drop, length-append}
use lib.Seq.{drop-drop, drop_at}
use Rattle.tree.specs.Form.{Form, leaf, node, noted, Decls, Forms, none, more, encode}
use Rattle.tree.specs.Tag.{Sort, expr, pred, shape_of, pred_tags}
use Rattle.form.specs.Decode.{got, decode}
use Rattle.form.proofs.DecodeLaws.{clash, Ok, ok-node, ok-noted, decode-encode, decode-sound}
use Rattle.rules.proofs.OkLaws.{ok-deep}
use Rattle.rules.specs.Member.{member_of, in_set, membership}
use Rattle.places.specs.Internal.Positions.{end_at, part_words}
use Rattle.member.specs.Internal.Member.{set_head, set_tag, guard_at, SetIn}
use Rattle.places.proofs.ViewLaws.{plain-node, plain-noted, two-more}
use Rattle.places.proofs.PartsLaws.{tag_of, tag_at, some_words, in_row, same-form}
use Rattle.member.proofs.SetLaws.{SetView, set_view, set-good, encode-set, head-count, head-long, guard-after}
use Rattle.std.specs.Prelude.{Some, None, Option}

-- 107 and its sides
pub record InView (f : Form) : Type 0 where
  pub l : Form
  pub r : Form
  pub is : f ≡ node 107 [] [] (more l (more r none))
  pub ok-l : Ok 63 expr l
  pub ok-r : Ok 63 expr r

in-made : {o ds : List ℕ} {ks : Forms} → Ok 64 pred (node 107 o ds ks) → InView (node 107 o ds ks)
unfolding shape_of pred_tags
in-made {o} {ds} {ks} w =
    let (a, b, k) = plain-node w 0 2 refl in
    go a b (two-more k)
  where
    go : o ≡ [] → ds ≡ [] → (l : Form) × (r : Form) × (ks ≡ more l (more r none)) × Ok 63 expr l × Ok 63 expr r → InView (node 107 o ds ks)
    go a b (l, r, q, x, y) = record { l = l; r = r; is = rw (a, b, q); ok-l = x; ok-r = y }

in-node : {t : ℕ} {o ds : List ℕ} {ks : Forms} → t ≡ 107 → Ok 64 pred (node t o ds ks) → InView (node t o ds ks)
in-node e w = rw e (in-made (rw e at w))

in-noted : {o : List ℕ} {ds : Decls} {ks : Forms} → Ok 64 pred (noted 107 o ds ks) → ⊥
unfolding shape_of pred_tags
in-noted w = plain-noted w 0 2 refl

in-view : {f : Form} → Ok 64 pred f → tag_of f ≡ 107 → InView f
in-view (ok-node a b k) e = in-node e (ok-node a b k)
in-view (ok-noted a b w k) e = absurd (in-noted (rw e at (ok-noted a b w k)))

-- no membership
other_tag : (t : ℕ) (o ds : List ℕ) (ks : Forms) → (t ≡ 107 → ⊥) → membership (node t o ds ks) ≡ absent
unfolding membership
other_tag t o ds none h = refl
other_tag t o ds (more f none) h = refl
other_tag t o ds (more f (more g none)) h = rw (ne_eqb t 107 h)
other_tag t o ds (more f (more g (more k ks))) h = refl

noted-tag : (t : ℕ) (o : List ℕ) (ds : Decls) (ks : Forms) → membership (noted t o ds ks) ≡ absent
unfolding membership
noted-tag t o ds ks = refl

other-pred : {d : ℕ} {f : Form} → Ok d pred f → (tag_of f ≡ 107 → ⊥) → membership f ≡ absent
other-pred (ok-node {t = t} {o = o} {ds = ds} {ks = ks} a b k) h = other_tag t o ds ks h
other-pred (ok-noted {t = t} {o = o} {ds = ds} {ks = ks} a b w k) h = noted-tag t o ds ks

or_left : (a b : Bool) → (a || b) ≡ false → a ≡ false
or_left true b e = absurd (clash cc)
or_left false b e = refl

or_right : (a b : Bool) → (a || b) ≡ false → b ≡ false
or_right true b e = absurd (clash cc)
or_right false b e = e

other-right : (l r : Form) → set_tag (tag_of r) ≡ false → in_set l r ≡ absent
other-right l (leaf x) h = refl
other-right l (node t o ds none) h = refl
other-right l (node t o ds (more f none)) h = refl
other-right l (node t o ds (more f (more g none))) h = rw (or_left (eqb t 803) (eqb t 873) h)
other-right l (node t o ds (more f (more g (more k ks)))) h = refl
other-right l (noted t o ds none) h = refl
other-right l (noted t o ds (more f none)) h = refl
other-right l (noted t o ds (more f (more g none))) h = rw (or_right (eqb t 803) (eqb t 873) h)
other-right l (noted t o ds (more f (more g (more k ks)))) h = refl

member-shape : (f l r : Form) (x : Form) → f ≡ node 107 [] [] (more l (more r none)) → in_set l r ≡ some x → membership f ≡ some x
unfolding membership
member-shape f l r x a b = rw (a, b)

module _ (row : List ℕ) (f : Form) (is : decode 64 pred row ≡ got f []) where
  row_is : (row ≡ encode f ++ []) × Ok 64 pred f
  row_is = decode-sound 64 pred row f [] is

  first-is : get_or row 0 0 ≡ tag_of f
  first-is = tag_at row 0 f [] row_is.0

  pub row-some : 0 < length row
  row-some = let s = some_words f in let l = ap length row_is.0 ∙ length-append (encode f) [] in omega arith

  pub not_in : (get_or row 0 0 ≡ 107 → ⊥) → (g : Form) → decode 64 pred row ≡ got g [] → membership g ≡ absent
  not_in h g e = rw (← same-form (sym is ∙ e)) (other-pred row_is.1 (λ q. h (first-is ∙ q)))

  module _ (tag : get_or row 0 0 ≡ 107) where
    view : InView f
    view = in-view row_is.1 (sym first-is ∙ tag)

    row_words : row ≡ 107 ∷ (encode view.l ++ encode view.r)
    unfolding encode
    row_words = row_is.0 ∙ (append-nil (encode f) ∙ (ap encode view.is ∙ rw append-nil))

    module _ (at : ℕ) (end : at ≡ (part_words row 1 1).middle) where
      after_tag : drop 1 row ≡ encode view.l ++ encode view.r
      after_tag = ap (drop 1) row_words

      at-is : at ≡ 1 + length (encode view.l)
      unfolding part_words end_at
      at-is = end ∙ rw (after_tag, decode-encode (ok-deep view.ok-l 64 (omega arith)) (encode view.r))

      right-at : drop at row ≡ encode view.r
      right-at = rw (at-is, ← drop-drop (length (encode view.l)) 1 row, after_tag) (drop_at (encode view.l) (encode view.r) (length (encode view.l)) refl)

      right-words : drop at row ≡ encode view.r ++ []
      right-words = right-at ∙ sym (append-nil (encode view.r))

      pub at_in : at < length row
      at_in = let s = some_words view.r in let i = in_row row (encode view.r) [] at right-words s in omega arith

      right-tag : get_or row at 0 ≡ tag_of view.r
      right-tag = tag_at row at view.r [] right-words

      not-set-view : set_tag (get_or row at 0) ≡ false → membership f ≡ absent
      unfolding membership
      not-set-view h = rw view.is (other-right view.l view.r (rw right-tag at h))

      pub not_set : set_tag (get_or row at 0) ≡ false → (g : Form) → decode 64 pred row ≡ got g [] → membership g ≡ absent
      not_set h g e = rw (← same-form (sym is ∙ e)) (not-set-view h)

      module _ (there : set_tag (get_or row at 0) ≡ true) where
        set : SetView view.r
        set = set_view view.ok-r (rw right-tag at there)

        abbrev rest : List ℕ
        rest = encode set.guard ++ encode set.value

        set_words : drop at row ≡ set_head set.form set.decls ++ rest
        set_words = right-at ∙ (ap encode set.is ∙ encode-set set.form set.decls set.guard set.value)

        pub count-in : at + 2 < length row
        count-in = head-long row at set.form set.decls rest set_words

        module _ (n : ℕ) (count : n ≡ get_or row (at + 2) 0) where
          count-is : n ≡ length set.decls
          count-is = count ∙ head-count row at set.form set.decls rest set_words

          pub count_low : n ≤ 32
          count_low = let c = count-is in let m = set.most in omega arith

          module _ (guard : ℕ) (from : guard ≡ guard_at row at n) where
            guard-is : guard ≡ at + length (set_head set.form set.decls)
            guard-is = from ∙ rw count-is (guard-after row at set.form set.decls rest set_words (set-good set.form set.decls set.guard set.value (rw set.is at view.ok-r)))

            guard-at : drop guard row ≡ rest
            guard-at = rw (guard-is, ← drop-drop (length (set_head set.form set.decls)) at row, set_words) (drop_at (set_head set.form set.decls) rest (length (set_head set.form set.decls)) refl)

            guard-read : decode 62 pred (drop guard row) ≡ got set.guard (encode set.value)
            guard-read = rw guard-at (decode-encode set.ok-guard (encode set.value))

            module _ (s : Option ℕ) (to : s ≡ end_at guard (decode 62 pred (drop guard row))) where
              end_is : s ≡ Some (guard + length (encode set.guard))
              unfolding end_at
              end_is = to ∙ rw guard-read

              pub guard-ends : s ≡ None → ⊥
              guard-ends e = let z = end_is in clash cc

              member_is : membership f ≡ some (member_of view.l set.decls set.guard set.value)
              member_is = member-shape f view.l view.r (member_of view.l set.decls set.guard set.value) view.is (set.in-it view.l)

              whole_words : row ≡ 107 ∷ (encode view.l ++ (set_head set.form set.decls ++ rest))
              whole_words = row_words ∙ ap (λ (l : List ℕ). 107 ∷ (encode view.l ++ l)) (ap encode set.is ∙ encode-set set.form set.decls set.guard set.value)

              self : {d : ℕ} {t : Sort} {h : Form} → Ok d t h → decode d t (encode h) ≡ got h []
              self {d} {t} {h} ok = rw (← append-nil (encode h)) (decode-encode ok [])

              pub set-in : (v : ℕ) → s ≡ Some v → SetIn row (record { at = at; n = n; guard = guard; value = v })
              set-in v e =
                  let q : v ≡ guard + length (encode set.guard) = let z = end_is in cc in
                  record {
                    element = view.l;
                    form = set.form;
                    decls = set.decls;
                    guard = set.guard;
                    value = set.value;
                    words = whole_words;
                    number = count-is;
                    least = set.least;
                    most = set.most;
                    at = at-is;
                    guard-at = guard-is;
                    value-at = q;
                    is-element = self view.ok-l;
                    is_set = self (rw set.is at view.ok-r);
                    is-guard = self set.ok-guard;
                    is-value = self set.ok-value;
                    shape = λ g k. (view.r, sym (same-form (sym is ∙ k)) ∙ view.is);
                    is = λ g k. rw (← same-form (sym is ∙ k)) member_is;
                  }
