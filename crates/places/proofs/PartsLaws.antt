-- The parts of an equality, position by position. Assumes nothing.
use mathlib.Core.Path.{◌≡◌, refl, ap, sym, ◌∙◌}
use mathlib.Core.Bool.{Bool, true, false, ◌&&◌}
use mathlib.Core.List.{List, [], ◌∷◌, ◌++◌, append_assoc, append-nil}
use Prim.Native.Nat.{ℕ, zero, suc, ◌+◌, ◌-◌, ◌*◌, ◌≤◌, ◌<◌}
use native.Mathlib.Nat.{add-zero}
use native.Mathlib.Numerals.{sub-one}
use native.Mathlib.Omega.{arith}
use borrow.Author.Tests.{eqb-true}
use lib.Dec.{eqb}
use lib.ListN.{length, get_or, drop, replicate, length-append, length-drop, length-replicate}
use lib.Seq.{drop-drop, drop-append_seam, drop_at, get_or-drop}
use Rattle.tree.specs.Form.{free, bound, Form, leaf, node, noted, Decls, Forms, none, more, encode, encode_all}
use Rattle.tree.specs.Tag.{Sort, expr, shape_of, expr_tags}
use Rattle.form.specs.Decode.{got, Gots, gots, decode}
use Rattle.form.proofs.DecodeLaws.{clash, Ok, ok-free, ok-bound, ok-node, ok-noted, OkAll, ok-none, ok-more, decode-encode, decode_all-encode, all_sound}
use Rattle.shift.proofs.RowLaws.{marks_of, marks-length, only-mark}
use Rattle.rules.proofs.OkLaws.{ok-deep}
use Rattle.rules.specs.Split.{is_two, is_nil, parts, parts_all}
use Rattle.places.specs.Internal.Positions.{read_all, Beside, parts_of, parts_at, both_pairs, form_marks, MarksAre, MarkedAt}
use Rattle.places.proofs.ViewLaws.{plain-node, plain-noted, two-more}

-- the first word of a form
abbrev pub tag_of : Form → ℕ
tag_of (leaf (free n)) = 1
tag_of (leaf (bound i)) = 2
tag_of (node t o ds ks) = t
tag_of (noted t o ds ks) = t

tag-first : (f : Form) (x : List ℕ) → get_or (encode f ++ x) 0 0 ≡ tag_of f
unfolding encode
tag-first (leaf (free n)) x = refl
tag-first (leaf (bound i)) x = refl
tag-first (node t o ds ks) x = refl
tag-first (noted t o ds ks) x = refl

pub tag_at : (row : List ℕ) (p : ℕ) (f : Form) (x : List ℕ) → drop p row ≡ encode f ++ x → get_or row p 0 ≡ tag_of f
tag_at row p f x e =
    let a : get_or (drop p row) 0 0 ≡ get_or row (p + 0) 0 = get_or-drop p row 0 0 in
    sym (rw (add-zero, e) at a) ∙ tag-first f x

pub some_words : (f : Form) → 0 < length (encode f)
unfolding encode
some_words (leaf (free n)) = omega arith
some_words (leaf (bound i)) = omega arith
some_words (node t o ds ks) = omega arith
some_words (noted t o ds ks) = omega arith

pub in_row : (row ws x : List ℕ) (p : ℕ) → drop p row ≡ ws ++ x → 0 < length ws → p + length ws ≤ length row
in_row row ws x p e h = let n = ap length e ∙ length-append ws x in omega (arith, length-drop p row)

-- a pair
record PairIs (f : Form) : Type 0 where
  fst : Form
  snd : Form
  is : f ≡ node 201 [] [] (more fst (more snd none))
  ok-fst : Ok 64 expr fst
  ok-snd : Ok 64 expr snd

pair_made : {d : ℕ} {o ds : List ℕ} {ks : Forms} → d ≤ 64 → o ≡ [] → ds ≡ [] → (l : Form) (r : Form) → ks ≡ more l (more r none) → Ok d expr l → Ok d expr r → PairIs (node 201 o ds ks)
pair_made h a b l r e x y = record { fst = l; snd = r; is = rw (a, b, e); ok-fst = ok-deep x 64 h; ok-snd = ok-deep y 64 h }

pair-node : {d : ℕ} {o ds : List ℕ} {ks : Forms} → d ≤ 64 → Ok (suc d) expr (node 201 o ds ks) → PairIs (node 201 o ds ks)
unfolding shape_of expr_tags
pair-node h w =
    let (a, b, k) = plain-node w 0 2 refl in
    let (l, r, e, x, y) = two-more k in
    pair_made h a b l r e x y

pair-noted : {d : ℕ} {o : List ℕ} {ds : Decls} {ks : Forms} → Ok (suc d) expr (noted 201 o ds ks) → ⊥
unfolding shape_of expr_tags
pair-noted w = plain-noted w 0 2 refl

pair-view : {d : ℕ} {f : Form} → Ok d expr f → d ≤ 64 → tag_of f ≡ 201 → PairIs f
pair-view (ok-free h) l e = absurd (omega arith)
pair-view (ok-bound h) l e = absurd (omega arith)
pair-view (ok-node {t = t} {o = o} {ds = ds} {ks = ks} a b k) l e = rw e (pair-node (omega arith) (rw e at (ok-node a b k)))
pair-view (ok-noted {t = t} {o = o} {ds = ds} {ks = ks} a b v k) l e = absurd (pair-noted (rw e at (ok-noted a b v k)))

-- the first of several expressions at a position
record First (row : List ℕ) (m p : ℕ) (fs : Forms) (x : List ℕ) : Type 0 where
  form : Form
  rest : Forms
  is : fs ≡ more form rest
  ok : Ok 64 expr form
  oks : OkAll 64 (replicate m expr) rest
  words : drop p row ≡ encode form ++ (encode_all rest ++ x)
  tail : drop (p + length (encode form)) row ≡ encode_all rest ++ x

first-in : (row : List ℕ) (m p : ℕ) (x : List ℕ) {fs : Forms} → OkAll 64 (expr ∷ replicate m expr) fs → drop p row ≡ encode_all fs ++ x → First row m p fs x
unfolding encode
first-in row m p x (ok-more {f = f} {fs = rest} h k) e =
    let a : drop p row ≡ encode f ++ (encode_all rest ++ x) = e ∙ append_assoc (encode f) (encode_all rest) x in
    let b : drop (p + length (encode f)) row ≡ encode_all rest ++ x = rw (← drop-drop (length (encode f)) p row, a) (drop-append_seam (encode f) (encode_all rest ++ x)) in
    record { form = f; rest = rest; is = refl; ok = h; oks = k; words = a; tail = b }

first_of : (row : List ℕ) (m p : ℕ) (fs : Forms) (x : List ℕ) → read_all (suc m) (drop p row) ≡ gots fs x → First row m p fs x
first_of row m p fs x e =
    let (w, k) = all_sound 64 (expr ∷ replicate m expr) (drop p row) fs x e in
    first-in row m p x k w

later : {row : List ℕ} {m p : ℕ} {fs : Forms} {x : List ℕ} (f : First row m p fs x) → read_all m (drop (p + length (encode f.form)) row) ≡ gots f.rest x
later {x = x} f = rw f.tail (decode_all-encode f.oks x)

-- a pair opened: two expressions behind its tag
opened : {row : List ℕ} {m p : ℕ} {fs : Forms} {x : List ℕ} (f : First row m p fs x) (v : PairIs f.form) → read_all (suc (suc m)) (drop (p + 1) row) ≡ gots (more v.fst (more v.snd f.rest)) x
unfolding encode
opened {row} {p = p} {x = x} f v =
    let a : drop p row ≡ (201 ∷ (encode v.fst ++ (encode v.snd ++ []))) ++ (encode_all f.rest ++ x) = rw v.is at f.words in
    let b : drop (p + 1) row ≡ (encode v.fst ++ (encode v.snd ++ encode_all f.rest)) ++ x = rw (← drop-drop 1 p row, a) (simp (append-nil, append_assoc)) in
    rw b (decode_all-encode (ok-more v.ok-fst (ok-more v.ok-snd f.oks)) x)

parts-pair : (a b c d : Form) (fs gs : Forms)
    → parts_all (more (node 201 [] [] (more a (more b none))) fs) (more (node 201 [] [] (more c (more d none))) gs) ≡ parts_all (more a (more b fs)) (more c (more d gs))
unfolding parts
parts-pair a b c d fs gs = simp (append-nil, append_assoc)

and_no : (p a q b : Bool) → (p && q) ≡ false → (p && a && (q && b)) ≡ false
and_no true true q b e = rw e
and_no true false q b e = refl
and_no false a q b e = refl

pub parts-single : (l r : Form) → (eqb (tag_of l) 201 && eqb (tag_of r) 201) ≡ false → parts l r ≡ (l, r) ∷ []
unfolding parts
parts-single (leaf x) r e = refl
parts-single (node t o ds ks) (leaf y) e = refl
parts-single (node t o ds ks) (noted u p es js) e = refl
parts-single (noted t o ds ks) r e = refl
parts-single (node t o ds ks) (node u p es js) e = rw (and_no (eqb t 201) (is_nil ds && is_two ks) (eqb u 201) (is_nil es && is_two js) e)

and_yes : (p q : Bool) → (p && q) ≡ true → (p ≡ true) × (q ≡ true)
and_yes true q e = (refl, e)
and_yes false q e = absurd (clash cc)

-- both pairs opened
pair-length : (a b : Form) (fs : Forms) → length (encode_all (more (node 201 [] [] (more a (more b none))) fs)) ≡ suc (length (encode_all (more a (more b fs))))
unfolding encode
pair-length a b fs = simp (append-nil, append_assoc)

same_parts : {fs gs fs' gs' : Forms} {x y x' y' : List ℕ} {a b a' b' : Gots} → a ≡ gots fs x → b ≡ gots gs y → a' ≡ gots fs' x' → b' ≡ gots gs' y' → parts_all fs gs ≡ parts_all fs' gs'
    → parts_of a b ≡ parts_of a' b'
same_parts h k h' k' e = rw (h, k, h', k') e

pairs-open : {fs gs : Forms} (a b c d : Form) (fs' gs' : Forms) → fs ≡ more (node 201 [] [] (more a (more b none))) fs' → gs ≡ more (node 201 [] [] (more c (more d none))) gs'
    → parts_all fs gs ≡ parts_all (more a (more b fs')) (more c (more d gs'))
pairs-open a b c d fs' gs' h k = rw (h, k) (parts-pair a b c d fs' gs')

open-suc : {row : List ℕ} {p q w k words : ℕ} (m : ℕ) (b : Beside row p q (suc m) w k words) → both_pairs row p q ≡ true
    → Beside row (p + 1) (q + 1) (suc (suc m)) w k words × (parts_at row p q (suc m) ≡ parts_at row (p + 1) (q + 1) (suc (suc m)))
unfolding both_pairs parts_at
open-suc {row} {p} {q} m b e =
    let f = first_of row m p b.lefts b.left-rest b.is-left in
    let g = first_of row m q b.rights b.right-rest b.is_right in
    let (x, y) = and_yes (eqb (get_or row p 0) 201) (eqb (get_or row q 0) 201) e in
    let v = pair-view f.ok (omega arith) (sym (tag_at row p f.form (encode_all f.rest ++ b.left-rest) f.words) ∙ eqb-true (get_or row p 0) 201 x) in
    let u = pair-view g.ok (omega arith) (sym (tag_at row q g.form (encode_all g.rest ++ b.right-rest) g.words) ∙ eqb-true (get_or row q 0) 201 y) in
    let ef : b.lefts ≡ more (node 201 [] [] (more v.fst (more v.snd none))) f.rest = f.is ∙ ap (λ z. more z f.rest) v.is in
    let eg : b.rights ≡ more (node 201 [] [] (more u.fst (more u.snd none))) g.rest = g.is ∙ ap (λ z. more z g.rest) u.is in
    let lf : length (encode_all b.lefts) ≡ suc (length (encode_all (more v.fst (more v.snd f.rest)))) = ap (λ z. length (encode_all z)) ef ∙ pair-length v.fst v.snd f.rest in
    let lg : length (encode_all b.rights) ≡ suc (length (encode_all (more u.fst (more u.snd g.rest)))) = ap (λ z. length (encode_all z)) eg ∙ pair-length u.fst u.snd g.rest in
    let room = b.room in
    let few = b.few in (
      record {
        lefts = more v.fst (more v.snd f.rest);
        rights = more u.fst (more u.snd g.rest);
        left-rest = b.left-rest;
        right-rest = b.right-rest;
        is-left = opened f v;
        is_right = opened g u;
        room = omega arith;
        few = omega arith;
      },
      same_parts b.is-left b.is_right (opened f v) (opened g u) (pairs-open v.fst v.snd u.fst u.snd f.rest g.rest ef eg),
    )

pub open-both : {row : List ℕ} {p q w k words : ℕ} (n : ℕ) (b : Beside row p q n w k words) → 0 < n → both_pairs row p q ≡ true
    → Beside row (p + 1) (q + 1) (n + 1) w k words × (parts_at row p q n ≡ parts_at row (p + 1) (q + 1) (n + 1))
open-both zero b h e = absurd (omega arith)
open-both (suc m) b h e =
    let n : suc m + 1 ≡ suc (suc m) = omega arith in
    rw n (open-suc m b e)

-- the next part
pub record PartIs (row : List ℕ) (p q n w k words : ℕ) : Type 0 where
  pub l : Form
  pub r : Form
  pub ok-l : Ok 64 expr l
  pub ok-r : Ok 64 expr r
  pub words-l : drop p row ≡ encode l ++ drop (p + length (encode l)) row
  pub words-r : drop q row ≡ encode r ++ drop (q + length (encode r)) row
  pub some-l : 0 < length (encode l)
  pub some-r : 0 < length (encode r)
  pub room : w + 2 * (length (encode l) + length (encode r)) ≤ words
  pub few : k + length (encode l) ≤ 16384
  pub split : parts_at row p q n ≡ (l, r) ∷ parts_at row (p + length (encode l)) (q + length (encode r)) (n - 1)
  pub next : (w' k' : ℕ) → w' ≤ w + 1 + (length (encode l) + length (encode r)) → k' ≤ k + 1 → Beside row (p + length (encode l)) (q + length (encode r)) (n - 1) w' k' words

pub first-length : (f : Form) (fs : Forms) → length (encode_all (more f fs)) ≡ length (encode f) + length (encode_all fs)
unfolding encode
first-length f fs = length-append (encode f) (encode_all fs)

parts_first : (l r : Form) (fs gs : Forms) → (eqb (tag_of l) 201 && eqb (tag_of r) 201) ≡ false → parts_all (more l fs) (more r gs) ≡ (l, r) ∷ parts_all fs gs
unfolding parts
parts_first l r fs gs e = rw (parts-single l r e)

first-parts : {l r : Form} {fs gs fs' gs' : Forms} {x y x' y' : List ℕ} {a b a' b' : Gots} → a ≡ gots fs x → b ≡ gots gs y → a' ≡ gots fs' x' → b' ≡ gots gs' y'
    → fs ≡ more l fs' → gs ≡ more r gs' → (eqb (tag_of l) 201 && eqb (tag_of r) 201) ≡ false → parts_of a b ≡ (l, r) ∷ parts_of a' b'
first-parts {l} {r} {fs' = fs'} {gs' = gs'} h k h' k' i j e = rw (h, k, h', k', i, j) (parts_first l r fs' gs' e)

part-suc : {row : List ℕ} {p q w k words : ℕ} (m : ℕ) (b : Beside row p q (suc m) w k words) → both_pairs row p q ≡ false → PartIs row p q (suc m) w k words
unfolding both_pairs parts_at
part-suc {row} {p} {q} {w} {k} {words} m b e =
    let f = first_of row m p b.lefts b.left-rest b.is-left in
    let g = first_of row m q b.rights b.right-rest b.is_right in
    let tf : get_or row p 0 ≡ tag_of f.form = tag_at row p f.form (encode_all f.rest ++ b.left-rest) f.words in
    let tg : get_or row q 0 ≡ tag_of g.form = tag_at row q g.form (encode_all g.rest ++ b.right-rest) g.words in
    let ne : (eqb (tag_of f.form) 201 && eqb (tag_of g.form) 201) ≡ false = rw (tf, tg) at e in
    let sf = some_words f.form in
    let sg = some_words g.form in
    let lf : length (encode_all b.lefts) ≡ length (encode f.form) + length (encode_all f.rest) = ap (λ z. length (encode_all z)) f.is ∙ first-length f.form f.rest in
    let lg : length (encode_all b.rights) ≡ length (encode g.form) + length (encode_all g.rest) = ap (λ z. length (encode_all z)) g.is ∙ first-length g.form g.rest in
    let room = b.room in
    let few = b.few in
    record {
      l = f.form;
      r = g.form;
      ok-l = f.ok;
      ok-r = g.ok;
      words-l = rw f.tail f.words;
      words-r = rw g.tail g.words;
      some-l = sf;
      some-r = sg;
      room = omega arith;
      few = omega arith;
      split = rw sub-one (first-parts b.is-left b.is_right (later f) (later g) f.is g.is ne);
      next =
          λ w' k' hw hk. record {
            lefts = f.rest;
            rights = g.rest;
            left-rest = b.left-rest;
            right-rest = b.right-rest;
            is-left = rw sub-one (later f);
            is_right = rw sub-one (later g);
            room = omega arith;
            few = omega arith;
          };
    }

pub part_of : {row : List ℕ} {p q w k words : ℕ} (n : ℕ) (b : Beside row p q n w k words) → 0 < n → both_pairs row p q ≡ false → PartIs row p q n w k words
part_of zero b h e = absurd (omega arith)
part_of (suc m) b h e = part-suc m b e

-- expressions that stand at p and at q, within the row
counted : {d : ℕ} {ss : List Sort} {fs : Forms} → OkAll d ss fs → length ss ≤ length (encode_all fs)
unfolding encode
counted ok-none = omega arith
counted (ok-more {f = f} {fs = fs} h k) = let a = counted k in let s = some_words f in rw length-append (omega arith)

expressions-in : (row : List ℕ) (p n : ℕ) (fs : Forms) (x : List ℕ) → read_all n (drop p row) ≡ gots fs x → 0 < n → (n ≤ length (encode_all fs)) × (p + length (encode_all fs) ≤ length row)
expressions-in row p n fs x e h =
    let (w, k) = all_sound 64 (replicate n expr) (drop p row) fs x e in
    let c : n ≤ length (encode_all fs) = rw length-replicate at (counted k) in
    (c, in_row row (encode_all fs) x p w (omega arith))

pub beside-in : {row : List ℕ} {p q n w k words : ℕ} (b : Beside row p q n w k words) → 0 < n → (p + n ≤ length row) × (q + n ≤ length row)
beside-in {row} {p} {q} {n} b h =
    let (a, c) = expressions-in row p n b.lefts b.left-rest b.is-left h in
    let (d, e) = expressions-in row q n b.rights b.right-rest b.is_right h in
    (omega arith, omega arith)

-- the marks of the expressions at q
pub same-forms : {fs gs : Forms} {x y : List ℕ} → gots fs x ≡ gots gs y → fs ≡ gs
same-forms e = cc

pub same-form : {f g : Form} {x y : List ℕ} → got f x ≡ got g y → f ≡ g
same-form e = cc

pair-marks : (a b : Form) → form_marks (node 201 [] [] (more a (more b none))) ≡ 0 ∷ (form_marks a ++ form_marks b)
unfolding marks_of
pair-marks a b = rw (only-mark (node 201 [] [] (more a (more b none))), only-mark a, only-mark b, append-nil)

pub marks-long : (f : Form) → length (form_marks f) ≡ length (encode f)
marks-long f = rw (only-mark f) (marks-length 0 f)

module _ (row lm : List ℕ) where
  pair-opened : (q : ℕ) (a b : Form) (rest : Forms) → MarksAre lm q (more (node 201 [] [] (more a (more b none))) rest) → MarksAre lm (q + 1) (more a (more b rest))
  unfolding MarksAre encode
  pair-opened q a b rest (h, k) =
      let n : q + length (encode (node 201 [] [] (more a (more b none)))) ≡ q + 1 + length (encode a) + length (encode b) = rw (append-nil, length-append (encode a)) (omega arith) in
      let z = drop (q + 1 + length (encode a) + length (encode b)) lm in
      let e : drop q lm ≡ 0 ∷ (form_marks a ++ (form_marks b ++ z)) = rw n at h ∙ (ap (λ l. l ++ z) (pair-marks a b) ∙ ap (λ l. 0 ∷ l) (append_assoc (form_marks a) (form_marks b) z)) in
      let d : drop (q + 1) lm ≡ form_marks a ++ (form_marks b ++ z) = rw (← drop-drop 1 q lm, e) in
      let c : drop (q + 1 + length (encode a)) lm ≡ form_marks b ++ z = rw (← drop-drop (length (encode a)) (q + 1) lm, d) (drop_at (form_marks a) (form_marks b ++ z) (length (encode a)) (marks-long a)) in
      (rw c d, (c, rw n at k))

  marked-opened : {p q w k words : ℕ} (m : ℕ) (b : Beside row p q (suc m) w k words) → both_pairs row p q ≡ true → MarkedAt row lm q (suc m) → MarkedAt row lm (q + 1) (suc (suc m))
  unfolding both_pairs MarkedAt
  marked-opened {p} {q} m b e h fs x r =
      let g = first_of row m q b.rights b.right-rest b.is_right in
      let (y, z) = and_yes (eqb (get_or row p 0) 201) (eqb (get_or row q 0) 201) e in
      let u = pair-view g.ok (omega arith) (sym (tag_at row q g.form (encode_all g.rest ++ b.right-rest) g.words) ∙ eqb-true (get_or row q 0) 201 z) in
      let eg : b.rights ≡ more (node 201 [] [] (more u.fst (more u.snd none))) g.rest = g.is ∙ ap (λ z. more z g.rest) u.is in
      let s : more u.fst (more u.snd g.rest) ≡ fs = same-forms (sym (opened g u) ∙ r) in
      rw (← s) (pair-opened q u.fst u.snd g.rest (rw eg at (h b.rights b.right-rest b.is_right)))

  pub marked-open : {p q w k words : ℕ} (n : ℕ) (b : Beside row p q n w k words) → 0 < n → both_pairs row p q ≡ true → MarkedAt row lm q n → MarkedAt row lm (q + 1) (n + 1)
  marked-open zero b h e m = absurd (omega arith)
  marked-open (suc n) b h e m =
      let j : suc n + 1 ≡ suc (suc n) = omega arith in
      rw j (marked-opened n b e m)

  marked-first : {p q w k words : ℕ} (m : ℕ) (b : Beside row p q (suc m) w k words) → MarkedAt row lm q (suc m) → (x : PartIs row p q (suc m) w k words)
      → (drop q lm ≡ form_marks x.r ++ drop (q + length (encode x.r)) lm) × MarkedAt row lm (q + length (encode x.r)) m
  unfolding MarkedAt MarksAre
  marked-first {p} {q} m b h x =
      let g = first_of row m q b.rights b.right-rest b.is_right in
      let a : decode 64 expr (drop q row) ≡ got g.form (encode_all g.rest ++ b.right-rest) = rw g.words (decode-encode g.ok (encode_all g.rest ++ b.right-rest)) in
      let c : decode 64 expr (drop q row) ≡ got x.r (drop (q + length (encode x.r)) row) = ap (λ l. decode 64 expr l) x.words-r ∙ decode-encode x.ok-r (drop (q + length (encode x.r)) row) in
      let s : g.form ≡ x.r = same-form (sym a ∙ c) in
      let k = rw g.is at (h b.rights b.right-rest b.is_right) in
      (rw s at k.0, λ fs y r. let t : g.rest ≡ fs = same-forms (sym (rw s at (later g)) ∙ r) in rw (← t) (rw s at k.1))

  pub marked-part : {p q w k words : ℕ} (n : ℕ) (b : Beside row p q n w k words) → 0 < n → MarkedAt row lm q n → (x : PartIs row p q n w k words)
      → (drop q lm ≡ form_marks x.r ++ drop (q + length (encode x.r)) lm) × MarkedAt row lm (q + length (encode x.r)) (n - 1)
  marked-part zero b h m x = absurd (omega arith)
  marked-part (suc n) b h m x = rw sub-one (marked-first n b m x)
