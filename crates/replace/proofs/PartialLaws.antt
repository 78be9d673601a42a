-- Declarations put round a body whose places are filled: the words are the definition's. Assumes nothing.
use mathlib.Core.Path.{◌≡◌, refl, ap, sym, ◌∙◌}
use mathlib.Core.Bool.{Bool, true, false, ◌||◌, not, ◌&&◌}
use mathlib.Core.List.{List, [], ◌∷◌, ◌++◌, append-nil, map, map-append}
use Prim.Native.Nat.{ℕ, suc, ◌+◌, ◌≤◌, ◌-◌, ◌<◌}
use native.Mathlib.Nat.{add-zero}
use borrow.Author.Tests.{eq-eqb, eqb-true, eqb-false, ne_eqb, leb-true, le-leb}
use lib.Dec.{eqb, leb}
use lib.ListN.{length, get_or, take, drop, set, length-append}
use lib.Seq.{take_at}
use Rattle.tree.specs.Form.{Form, node, noted, Decls, Forms, none, more, pick, encode}
use Rattle.tree.specs.Tag.{pred}
use Rattle.form.specs.Lists.{Place}
use Rattle.form.proofs.DecodeLaws.{clash, Ok, ok-node, ok-noted}
use Rattle.rules.specs.Walk.{walk, walk_all, put, subst}
use Rattle.rules.specs.Fill.{Decl, unnoted, listed, quantifier, other, quantified, quantify as quantify_decls, fill_for}
use Rattle.rules.specs.Shift.{lower}
use Rattle.replace.proofs.PlainLaws.{quantify_names as quantify, plain-quantify, plain-notes, plain-clear}
use Rattle.replace.specs.Internal.Pieces.{head_words, emitted, replaced, down_plan, Ready, placed_row}
use Rattle.replace.proofs.NameLaws.{encode-quantify, head-none, head-some}
use Rattle.replace.proofs.QuantLaws.{Quant, quant-by-tag, quant-tag, quant-names, quant-long}
use Rattle.rules.proofs.OkLaws.{ok-deep}
use Rattle.rules.specs.Partial.{join_with, put_round}
use Rattle.replace.specs.Internal.Partial.{joins, inner_end, inner_names, inner_start, Inner, partial_head, partial_words, head_fits, partial_row}
use native.Mathlib.Omega.{arith}
use Rattle.form.specs.Answer.{stop}
use Rattle.form.specs.declared.answer.Kind.TheVariants.{Predicate}
use Rattle.reader.specs.declared.lists.Table.{Table}
use Rattle.rules.specs.Split.{is_nil}
use Rattle.rules.proofs.WalkLaws.{and_left, and_right}
use Rattle.replace.proofs.ReadyLaws.{ready-is}
use Rattle.shift.specs.Internal.Items.{store}
use Rattle.shift.proofs.ItemLaws.{store-append}
use Rattle.form.specs.declared.answer.Refusal.TheVariants.{OutOfLimits}

-- a node with another tag does not join
join-not : (t u : ℕ) (ns : List Decl) (o ds : List ℕ) (ks : Forms) → eqb u t ≡ false → join_with t ns (node u o ds ks) (quantified (node u o ds ks)) ≡ quantify_decls t ns (node u o ds ks)
unfolding quantified
join-not t u ns o ds none e = refl
join-not t u ns o ds (more f none) e = go (eqb u 851 || eqb u 852)
  where
    go : (b : Bool) → join_with t ns (node u o ds (more f none)) (pick b (quantifier u (map unnoted ds) f) other) ≡ quantify_decls t ns (node u o ds (more f none))
    go true = rw e
    go false = refl
join-not t u ns o ds (more f (more g gs)) e = refl

join-noted : (t u : ℕ) (ns : List Decl) (o : List ℕ) (ds : Decls) (ks : Forms) → eqb (u - 10) t ≡ false → join_with t ns (noted u o ds ks) (quantified (noted u o ds ks)) ≡ quantify_decls t ns (noted u o ds ks)
unfolding quantified
join-noted t u ns o ds none e = refl
join-noted t u ns o ds (more f none) e = go (eqb u 861 || eqb u 862)
  where
    go : (b : Bool) → join_with t ns (noted u o ds (more f none)) (pick b (quantifier (u - 10) (listed ds) f) other) ≡ quantify_decls t ns (noted u o ds (more f none))
    go true = rw e
    go false = refl
join-noted t u ns o ds (more f (more g gs)) e = refl

-- one with the same tag does
pub join-same : (t : ℕ) (ns o ds : List ℕ) (f : Form) → (eqb t 851 || eqb t 852) ≡ true → join_with t (map unnoted ns) (node t o ds (more f none)) (quantified (node t o ds (more f none))) ≡ quantify t (ns ++ ds) f
unfolding quantified
join-same t ns o ds f e =
    rw (e, eq-eqb t t refl, plain-clear (length (map unnoted ns)) ds, plain-notes (lower (length (map unnoted ns))) ds, ← map-append unnoted ns ds) (plain-quantify t (ns ++ ds) f)

-- a body whose own quantifier is known by its first word, and has no annotations
pub record Heads (t : ℕ) (g : Form) : Type 0 where
  pub other : (ns : List ℕ) → eqb (get_or (encode g) 0 0) t ≡ false → eqb (get_or (encode g) 0 0) (t + 10) ≡ false → (ps : List Place)
      → join_with t (map unnoted ns) (subst (fill_for ps) g) (quantified (subst (fill_for ps) g)) ≡ quantify t ns (subst (fill_for ps) g)
  pub same : get_or (encode g) 0 0 ≡ t → Quant g

node-other : (t u : ℕ) (o ds : List ℕ) (ks : Forms) (ns : List ℕ) → eqb u t ≡ false → (ps : List Place)
    → join_with t (map unnoted ns) (subst (fill_for ps) (node u o ds ks)) (quantified (subst (fill_for ps) (node u o ds ks))) ≡ quantify t ns (subst (fill_for ps) (node u o ds ks))
unfolding walk
node-other t u o ds ks ns e ps =
    join-not t u (map unnoted ns) o ds (walk_all (put (fill_for ps)) (length ds + 0) ks) e ∙ plain-quantify t ns (node u o ds (walk_all (put (fill_for ps)) (length ds + 0) ks))

ten-less : (t u : ℕ) (a b : Bool) → eqb t 851 ≡ a → eqb t 852 ≡ b → (a || b) ≡ true → eqb u (t + 10) ≡ false → eqb (u - 10) t ≡ false
ten-less t u a b x y z e = ne_eqb (u - 10) t (λ q. let n = eqb-false u (t + 10) e in n (big a b x y z q))
  where
    big : (a b : Bool) → eqb t 851 ≡ a → eqb t 852 ≡ b → (a || b) ≡ true → u - 10 ≡ t → u ≡ t + 10
    big true b x y z q = let w = eqb-true t 851 x in omega arith
    big false true x y z q = let w = eqb-true t 852 y in omega arith
    big false false x y z q = absurd (clash cc)

noted_other : (t u : ℕ) (o : List ℕ) (ds : Decls) (ks : Forms) (ns : List ℕ) → eqb (u - 10) t ≡ false → (ps : List Place)
    → join_with t (map unnoted ns) (subst (fill_for ps) (noted u o ds ks)) (quantified (subst (fill_for ps) (noted u o ds ks))) ≡ quantify t ns (subst (fill_for ps) (noted u o ds ks))
unfolding walk
noted_other t u o ds ks ns e ps = join-noted t u (map unnoted ns) o _ _ e ∙ plain-quantify t ns _

pred-heads : {d : ℕ} {g : Form} (t : ℕ) → (eqb t 851 || eqb t 852) ≡ true → d ≤ 64 → Ok d pred g → (q : Ok 64 pred g) → Heads t g
unfolding encode
pred-heads t which h (ok-node {t = u} {o = o} {ds = ds} {ks = ks} l r k) q = record { other = λ ns e n ps. node-other t u o ds ks ns e ps; same = λ e. quant-by-tag q (rw e which) }
pred-heads t which h (ok-noted {t = u} {o = o} {ds = ds} {ks = ks} a r v k) q =
    record { other = λ ns e n ps. noted_other t u o ds ks ns (ten-less t u (eqb t 851) (eqb t 852) refl refl which n) ps; same = λ e. quant-by-tag q (rw e which) }

pub ok-heads : {d : ℕ} {g : Form} (t : ℕ) → (eqb t 851 || eqb t 852) ≡ true → d ≤ 64 → Ok d pred g → Heads t g
ok-heads t which h ok = pred-heads t which h ok (ok-deep ok 64 h)

pub node-heads : (t u : ℕ) (o ds : List ℕ) (ks : Forms) → (u ≡ t → ⊥) → Heads t (node u o ds ks)
unfolding encode
node-heads t u o ds ks ne = record { other = λ ns e n ps. node-other t u o ds ks ns e ps; same = λ e. absurd (ne e) }

-- a body that is a quantifier itself, filled
module _ (g : Form) (y : Quant g) where
  quant-one : get_or (encode g) 1 0 ≡ length y.decls
  unfolding encode
  quant-one = rw y.form

  pub inner-are : take (get_or (encode g) 1 0) (drop 2 (encode g)) ≡ y.decls
  inner-are = rw (quant-one, quant-names g y) (take_at y.decls (encode y.body) (length y.decls) refl)

  pub filled-quant : (t : ℕ) (ps : List Place) → y.tag ≡ t → subst (fill_for ps) g ≡ node t (length y.decls ∷ []) y.decls (more (walk (put (fill_for ps)) (length y.decls) y.body) none)
  unfolding walk
  filled-quant t ps e = rw (y.form, e, add-zero)

  pub same_tag : (t : ℕ) → (eqb t 851 || eqb t 852) ≡ true → (ps : List Place) → y.tag ≡ t → (ns : List ℕ)
      → join_with t (map unnoted ns) (subst (fill_for ps) g) (quantified (subst (fill_for ps) g)) ≡ quantify t (ns ++ y.decls) (walk (put (fill_for ps)) (length y.decls) y.body)
  same_tag t which ps e ns = rw (filled-quant t ps e) (join-same t ns (length y.decls ∷ []) y.decls (walk (put (fill_for ps)) (length y.decls) y.body) which)

-- the body filled, by its row and marks from a word on
module _ (t : ℕ) (which : (eqb t 851 || eqb t 852) ≡ true) (ps : List Place) (g : Form) (shape : Heads t g) (Rest-from : ℕ → List ℕ) (whole : Rest-from 0 ≡ encode (subst (fill_for ps) g))
    (inner : (y : Quant g) → Rest-from (2 + length y.decls) ≡ encode (walk (put (fill_for ps)) (length y.decls) y.body)) (bare : eqb (get_or (encode g) 0 0) (t + 10) ≡ false) where
  abbrev made : List ℕ → List ℕ → List ℕ
  made ns stay = head_words t (ns ++ (stay ++ inner_names t ns stay (encode g))) ++ Rest-from (inner_end t ns stay (encode g))

  quantify-words : (ns : List ℕ) → head_words t ns ++ Rest-from 0 ≡ encode (quantify t ns (subst (fill_for ps) g))
  quantify-words ns = rw whole (encode-quantify t ns (subst (fill_for ps) g))

  -- where nothing stays and there is a front
  none_stays : (n : ℕ) (ns : List ℕ) (b : Bool) → eqb (get_or (encode g) 0 0) t ≡ b → made (n ∷ ns) [] ≡ encode (join_with t (map unnoted (n ∷ ns)) (subst (fill_for ps) g) (quantified (subst (fill_for ps) g)))
  unfolding joins inner_end inner_names
  none_stays n ns false e = rw (e, shape.other (n ∷ ns) e bare ps) (ap (λ z. head_words t (n ∷ z) ++ Rest-from 0) (append-nil ns) ∙ quantify-words (n ∷ ns))
  none_stays n ns true e =
      let q : get_or (encode g) 0 0 ≡ t = eqb-true (get_or (encode g) 0 0) t e in
      let y = shape.same q in
      rw (e, same_tag g y t which ps (sym (quant-tag g y) ∙ q) (n ∷ ns), inner-are g y, quant-one g y, inner y) (encode-quantify t ((n ∷ ns) ++ y.decls) (walk (put (fill_for ps)) (length y.decls) y.body))

  pub round-words : (ns stay : List ℕ) → made ns stay ≡ encode (put_round t (map unnoted ns) (quantify t stay (subst (fill_for ps) g)))
  unfolding joins inner_end inner_names put_round
  round-words [] [] = quantify-words []
  round-words [] (s ∷ ss) = rw append-nil (quantify-words (s ∷ ss))
  round-words (n ∷ ns) [] = none_stays n ns (eqb (get_or (encode g) 0 0) t) refl
  round-words (n ∷ ns) (s ∷ ss) =
      rw (append-nil, join-same t (n ∷ ns) (suc (length ss) ∷ []) (s ∷ ss) (subst (fill_for ps) g) which) (quantify-words ((n ∷ ns) ++ (s ∷ ss)))

-- the body's own head, as the code finds it
module _ (t : ℕ) (row : List ℕ) where
  pub inner-stay : (front stay : List ℕ) → 0 < length stay → 0 ≡ inner_end t front stay row
  unfolding joins inner_end
  inner-stay front [] h = absurd (omega arith)
  inner-stay front (s ∷ ss) h = refl

  pub inner-alone : (front stay : List ℕ) → length front ≡ 0 → 0 ≡ inner_end t front stay row
  unfolding joins inner_end
  inner-alone [] [] h = refl
  inner-alone [] (s ∷ ss) h = refl
  inner-alone (n ∷ ns) stay h = absurd (omega arith)

  pub inner-other : (front stay : List ℕ) → (get_or row 0 0 ≡ t → ⊥) → 0 ≡ inner_end t front stay row
  unfolding joins inner_end
  inner-other [] [] h = refl
  inner-other [] (s ∷ ss) h = refl
  inner-other (n ∷ ns) [] h = rw (ne_eqb (get_or row 0 0) t h)
  inner-other (n ∷ ns) (s ∷ ss) h = refl

  pub inner-joins : (front stay : List ℕ) → length stay ≤ 0 → (length front ≡ 0 → ⊥) → get_or row 0 0 ≡ t → 2 + get_or row 1 0 ≡ inner_end t front stay row
  unfolding joins inner_end
  inner-joins [] stay h f e = absurd (f refl)
  inner-joins (n ∷ ns) [] h f e = rw (eq-eqb (get_or row 0 0) t e)
  inner-joins (n ∷ ns) (s ∷ ss) h f e = absurd (omega arith)

  module _ (front stay : List ℕ) (from : ℕ) (is : from ≡ inner_end t front stay row) where
    at-two : (k : ℕ) → inner_start (2 + k) ≡ 2
    at-two k = rw (ne_eqb (2 + k) 0 (λ z. absurd (omega arith)))

    pub inner-words : take (from - inner_start from) (drop (inner_start from) row) ≡ inner_names t front stay row
    unfolding inner_end inner_names
    inner-words = go (joins t front stay row) refl
      where
        go : (b : Bool) → joins t front stay row ≡ b → take (from - inner_start from) (drop (inner_start from) row) ≡ inner_names t front stay row
        go true q =
            let e : from ≡ 2 + get_or row 1 0 = is ∙ rw q in
            let s : inner_start from ≡ 2 = rw e (at-two (get_or row 1 0)) in
            let m : from - 2 ≡ get_or row 1 0 = omega arith in
            rw (s, m, q)
        go false q =
            let e : from ≡ 0 = is ∙ rw q in
            rw (e, q)

    pub inner-low : from ≤ 34 → (inner_start from ≤ from) × (from ≤ inner_start from + 32)
    unfolding inner_end
    inner-low h = go (joins t front stay row) refl
      where
        go : (b : Bool) → joins t front stay row ≡ b → (inner_start from ≤ from) × (from ≤ inner_start from + 32)
        go true q =
            let e : from ≡ 2 + get_or row 1 0 = is ∙ rw q in
            let s : inner_start from ≡ 2 = rw e (at-two (get_or row 1 0)) in
            (omega arith, omega arith)
        go false q =
            let e : from ≡ 0 = is ∙ rw q in
            let s : inner_start from ≡ 0 = rw e in
            (omega arith, omega arith)

-- a well-formed body that begins with a quantifier's tag has its head
pub inner_of : {d : ℕ} {g : Form} (t : ℕ) → (eqb t 851 || eqb t 852) ≡ true → d ≤ 64 → Ok d pred g → Inner t (encode g)
inner_of {g = g} t which h ok = record { long = λ e. (same e).1; few = λ e. (same e).0 }
  where
    same : get_or (encode g) 0 0 ≡ t → (get_or (encode g) 1 0 ≤ 32) × (2 + get_or (encode g) 1 0 ≤ length (encode g))
    same e =
        let q : (eqb (get_or (encode g) 0 0) 851 || eqb (get_or (encode g) 0 0) 852) ≡ true = rw e which in
        let y = quant-by-tag (ok-deep ok 64 h) q in
        let c = quant-one g y in
        let k = quant-long g y in
        let m = y.most in
        (omega arith, omega arith)

-- the names of three rows stored behind two words, and the two words before them
module _ (t a b c : ℕ) (h₀ h₁ h₂ h₃ front stay inner : List ℕ) (x : h₁ ≡ store h₀ 2 front) (y : h₂ ≡ store h₁ a stay) (z : h₃ ≡ store h₂ b inner) (p : a ≡ 2 + length front) (q : b ≡ a + length stay) (r : c ≡ b + length inner) where
  three : h₃ ≡ store h₀ 2 (front ++ (stay ++ inner))
  three = z ∙ rw (y, x, q, p, store-append h₀ 2 front (stay ++ inner), store-append (store h₀ 2 front) (2 + length front) stay inner)

  three-end : c ≡ 2 + length (front ++ (stay ++ inner))
  three-end = rw (length-append front (stay ++ inner), length-append stay inner) (omega arith)

  pub no-head : c ≡ 2 → take 0 h₃ ≡ head_words t (front ++ (stay ++ inner))
  no-head e = head-none t c (front ++ (stay ++ inner)) h₃ three-end e

  pub a-head : 2 + (length front + (length stay + length inner)) ≤ length h₀ → (c ≡ 2 → ⊥) → take c (set (set h₃ 0 t) 1 (c - 2)) ≡ head_words t (front ++ (stay ++ inner))
  a-head l n = head-some t c (front ++ (stay ++ inner)) h₀ h₃ (rw (length-append front (stay ++ inner), length-append stay inner) l) three three-end n

-- the test of the head's names
pub fits_all : (f s from n : ℕ) → head_fits f s from n ≡ true → (f ≤ 32) × (s ≤ 32) × (from ≤ 34) × (from ≤ n)
fits_all f s from n q =
    let a = and_right (leb f 32) (leb s 32 && (leb from 34 && leb from n)) q in
    let b = and_right (leb s 32) (leb from 34 && leb from n) a in (
      leb-true f 32 (and_left (leb f 32) (leb s 32 && (leb from 34 && leb from n)) q),
      leb-true s 32 (and_left (leb s 32) (leb from 34 && leb from n) a),
      leb-true from 34 (and_left (leb from 34) (leb from n) b),
      leb-true from n (and_right (leb from 34) (leb from n) b),
    )

head-fits : (t : ℕ) (front stay row : List ℕ) → Inner t row → length front ≤ 32 → length stay ≤ 32 → head_fits (length front) (length stay) (inner_end t front stay row) (length row) ≡ true
unfolding joins inner_end
head-fits t front stay row i h k = rw (le-leb (length front) 32 h, le-leb (length stay) 32 k) (go (joins t front stay row) refl)
  where
    go : (b : Bool) → joins t front stay row ≡ b → (leb (pick b (2 + get_or row 1 0) 0) 34 && leb (pick b (2 + get_or row 1 0) 0) (length row)) ≡ true
    go true q =
        let r = and_right (not (is_nil front)) (eqb (get_or row 0 0) t) (and_right (is_nil stay) (not (is_nil front) && eqb (get_or row 0 0) t) q) in
        let same = eqb-true (get_or row 0 0) t r in
        let l = i.long same in
        let f = i.few same in
        rw (le-leb (2 + get_or row 1 0) 34 (omega arith), le-leb (2 + get_or row 1 0) (length row) l)
    go false q = rw (le-leb 0 (length row) (omega arith))

-- the row that is written
module _ (sure : Bool) (t : ℕ) (front stay : List ℕ) (tb : Table) (d : ℕ) (list lm row marks : List ℕ) (room : ℕ) where
  module _ (from : ℕ) (e : from ≡ inner_end t front stay row) where
    pub partial-not : head_fits (length front) (length stay) from (length row) ≡ false → partial_row sure t front stay tb d list lm row marks room ≡ stop OutOfLimits
    unfolding partial_row
    partial-not q = rw (← e, q)

    pub partial-put : head_fits (length front) (length stay) from (length row) ≡ true → (sure' : Bool) (hd : List ℕ) (k : ℕ) → length hd ≡ k → sure' ≡ (leb k 34 && sure)
        → (start : ℕ) → start ≡ inner_start from → hd ≡ head_words t (front ++ (stay ++ take (from - start) (drop start row)))
        → placed_row sure' hd tb d list lm (drop from row) (drop from marks) room ≡ partial_row sure t front stay tb d list lm row marks room
    unfolding partial_row
    partial-put q sure' hd k l y start i h = rw (← e, q, y, ← l, h, i, inner-words t row front stay from e)

  -- where the table is ready and the head fits
  pub partial-is : Inner t row → length front ≤ 32 → length stay ≤ 32 → Ready (down_plan tb d) list lm
      → partial_row sure t front stay tb d list lm row marks room ≡ emitted (leb (length (partial_head t front stay row)) 34 && sure) Predicate (partial_words t front stay tb d list lm row marks) room
  unfolding partial_row placed_row replaced
  partial-is i h k r = rw (head-fits t front stay row i h k, ready-is tb list lm d r)
