-- Some declarations filled by small expressions, and the front put round the rest: the result is within the limits. Assumes nothing.
use mathlib.Core.Path.{◌≡◌, refl, ap, sym, ◌∙◌}
use mathlib.Core.Bool.{Bool, true, false, ◌&&◌, ◌||◌}
use mathlib.Core.List.{List, [], ◌∷◌, ◌++◌, map}
use Prim.Native.Nat.{ℕ, zero, suc, ◌+◌, ◌-◌, ◌≤◌, ◌<◌}
use native.Mathlib.Omega.{arith}
use borrow.Author.Tests.{leb-true, eqb-true}
use lib.Dec.{eqb, leb}
use lib.ListN.{length, get_or, take, drop, replicate, length-append, length-set, length-replicate, length-take, length-drop, length-map}
use Rattle.tree.specs.Form.{Form, none, more, between, encode}
use Rattle.tree.specs.Tag.{expr, pred}
use Rattle.form.specs.Decode.{row_form}
use Rattle.form.specs.Answer.{is_one, finish}
use Rattle.form.specs.Lists.{Place, kept, filled}
use Rattle.reader.specs.declared.lists.Table.{Table}
use Rattle.form.proofs.DecodeLaws.{Ok}
use Rattle.form.proofs.RowLaws.{row-encode}
use Rattle.rules.specs.Walk.{walk, lift, put, subst}
use Rattle.shift.specs.Internal.Items.{items}
use Rattle.rules.proofs.WalkLaws.{and_left, and_right}
use Rattle.shift.proofs.RowLaws.{items_of, marks_of}
use Rattle.rules.specs.Fill.{unnoted, quantified, fill_for, fill}
use Rattle.replace.proofs.PlainLaws.{quantify_names as quantify, kept_names, plain-fill, plain-notes}
use Rattle.replace.specs.Internal.Pieces.{part, head_words, are_names, down_plan, Ready}
use Rattle.replace.proofs.BuildLaws.{emit-sure}
use Rattle.rules.proofs.OkLaws.{ok-deep}
use Rattle.replace.proofs.QuantLaws.{Quant, quant-tag}
use Rattle.replace.proofs.OkLaws.{names-kept, node-names, quantify-ok}
use Rattle.replace.proofs.InsideLaws.{Small, SmallPlaces, small-append, quant-body, names-take, names-drop, partial-body}
use Rattle.rules.specs.Partial.{no_places, set_place, front, lower_place, join_with, put_round, instantiate_partial}
use Rattle.replace.specs.Internal.Partial.{joins, inner_names, partial_head, partial_row}
use Rattle.rules.specs.Replacement.{above}
use Rattle.one_point.proofs.PartialLaws.{lower-places, take-unnoted, drop-unnoted, point-stays, point-words}
use Rattle.replace.proofs.PartialLaws.{join-same, Heads, ok-heads, inner-are, filled-quant, same_tag, inner_of, partial-is}
use Rattle.rules.proofs.FrontLaws.{places-are, front-is, from_front}

names-join : (a b : List ℕ) → are_names a ≡ true → are_names b ≡ true → are_names (a ++ b) ≡ true
names-join [] b h g = g
names-join (n ∷ a) b h g = rw (and_left (between 0 65535 n) (are_names a) h) (names-join a b (and_right (between 0 65535 n) (are_names a) h) g)

-- a filled body under the declarations that stay, and the front round it: at most 32 names stand in the head
module _ (t : ℕ) (which : (eqb t 851 || eqb t 852) ≡ true) (g : Form) (shape : Heads t g) (qs : List Place) (ok : Ok 63 pred (subst (fill_for qs) g))
    (bare : eqb (get_or (encode g) 0 0) (t + 10) ≡ false) where
  -- the body's own quantifier joins the front
  join-ok : (y : Quant g) → y.tag ≡ t → (ns : List ℕ) → are_names ns ≡ true → length (ns ++ y.decls) ≤ 32 → Ok 64 pred (quantify t (ns ++ y.decls) (walk (put (fill_for qs)) (length y.decls) y.body))
  join-ok y e ns n l =
      let b = walk (put (fill_for qs)) (length y.decls) y.body in
      let o = rw (filled-quant g y t qs e) at ok in
      quantify-ok t (ns ++ y.decls) b which (names-join ns y.decls n (node-names t y.decls (more b none) which o)) l (ok-deep (quant-body t y.decls b which o) 63 (omega arith))

  none-stays-ok : (n : ℕ) (ns : List ℕ) (b : Bool) → eqb (get_or (encode g) 0 0) t ≡ b → are_names (n ∷ ns) ≡ true → length ((n ∷ ns) ++ ([] ++ inner_names t (n ∷ ns) [] (encode g))) ≤ 32
      → Ok 64 pred (join_with t (map unnoted (n ∷ ns)) (subst (fill_for qs) g) (quantified (subst (fill_for qs) g)))
  unfolding joins inner_names
  none-stays-ok n ns false e a l =
      let c = length-append (n ∷ ns) (inner_names t (n ∷ ns) [] (encode g)) in
      rw (shape.other (n ∷ ns) e bare qs) (quantify-ok t (n ∷ ns) (subst (fill_for qs) g) which a (omega arith) ok)
  none-stays-ok n ns true e a l =
      let q : get_or (encode g) 0 0 ≡ t = eqb-true (get_or (encode g) 0 0) t e in
      let y = shape.same q in
      let z : y.tag ≡ t = sym (quant-tag g y) ∙ q in
      rw (same_tag g y t which qs z (n ∷ ns)) (join-ok y z (n ∷ ns) a (rw (e, inner-are g y) at l))

  pub round-inside : (ns stay : List ℕ) → are_names ns ≡ true → are_names stay ≡ true → length (ns ++ (stay ++ inner_names t ns stay (encode g))) ≤ 32
      → Ok 64 pred (put_round t (map unnoted ns) (quantify t stay (subst (fill_for qs) g)))
  unfolding put_round
  round-inside [] stay a b l =
      let c = length-append stay (inner_names t [] stay (encode g)) in
      quantify-ok t stay (subst (fill_for qs) g) which b (omega arith) ok
  round-inside (n ∷ ns) [] a b l = none-stays-ok n ns (eqb (get_or (encode g) 0 0) t) refl a l
  round-inside (n ∷ ns) (s ∷ ss) a b l =
      let c = length-append (n ∷ ns) ((s ∷ ss) ++ inner_names t (n ∷ ns) (s ∷ ss) (encode g)) in
      let d = length-append (s ∷ ss) (inner_names t (n ∷ ns) (s ∷ ss) (encode g)) in
      let e = length-append (n ∷ ns) (s ∷ ss) in
      rw (join-same t (n ∷ ns) (suc (length ss) ∷ []) (s ∷ ss) (subst (fill_for qs) g) which)
      (quantify-ok t ((n ∷ ns) ++ (s ∷ ss)) (subst (fill_for qs) g) which (names-join (n ∷ ns) (s ∷ ss) a b) (omega arith) ok)

-- the names in the head: the first j, those of the others that stay, and those of the body's own quantifier if it joins
abbrev pub head_names : ℕ → List ℕ → List Place → Form → ℕ → ℕ → List ℕ
head_names t ns ps g j n = let stay = kept_names (map (lower_place n) (drop j ps)) (drop j ns) in take j ns ++ (stay ++ inner_names t (take j ns) stay (encode g))

-- some declarations of a quantifier filled by small expressions
module _ (m : ℕ) (t : ℕ) (which : (eqb t 851 || eqb t 852) ≡ true) (ns : List ℕ) (names : are_names ns ≡ true) (most : length ns ≤ 32) (ps : List Place) (all : length ps ≡ length ns) (h : SmallPlaces m ps)
    (g : Form) (d : ℕ) (ok : Ok d pred g) (deep : d + m ≤ 63) (bare : eqb (get_or (encode g) 0 0) (t + 10) ≡ false) where
  pub rest-inside : (j n : ℕ) → length (head_names t ns ps g j n) ≤ 32 → Ok 64 pred (put_round t (map unnoted (take j ns)) (fill t (map unnoted (drop j ns)) (map (lower_place n) (drop j ps)) g))
  rest-inside j n l =
      let qs = map (lower_place n) (drop j ps) in
      let o : Ok 63 pred (subst (fill_for qs) g) = rw (lower-places n (drop j ps)) (partial-body m ns names most ps all h j n ok deep) in
      rw (plain-fill t (drop j ns) (map (lower_place n) (drop j ps)) g)
      (round-inside t which g (ok-heads t which (omega arith) ok) qs o bare (take j ns) (kept_names qs (drop j ns)) (names-take j ns names) (names-kept qs (drop j ns) (names-drop j ns names)) l)

  pub point-inside : length (head_names t ns ps g (front ps) (length (drop (front ps) ns))) ≤ 32 → Ok 64 pred (instantiate_partial t (map unnoted ns) ps g)
  unfolding instantiate_partial
  point-inside l =
      rw (take-unnoted (front ps) ns, drop-unnoted (front ps) ns, length-map (drop (front ps) ns) unnoted, plain-notes (lift (front ps)) (drop (front ps) ns))
      (rest-inside (front ps) (length (drop (front ps) ns)) l)

  pub point-fits : length (head_names t ns ps g (front ps) (length (drop (front ps) ns))) ≤ 32 → length (encode (instantiate_partial t (map unnoted ns) ps g)) ≤ 8192 → is_one (row_form pred (encode (instantiate_partial t (map unnoted ns) ps g))) ≡ true
  point-fits l s = ap is_one (row-encode (point-inside l) s)

-- one place filled by a small expression
pub kept_small : (m n : ℕ) → SmallPlaces m (replicate n kept)
kept_small m zero = tt
kept_small m (suc n) = (tt, kept_small m n)

one-small : (m n i : ℕ) (e : Form) → i < n → Small m e → SmallPlaces m (set_place n i e (no_places n))
one-small m n i e l h = rw (places-are n i e l) (small-append m (replicate (n - suc i) kept) (filled e ∷ replicate i kept) (kept_small m (n - suc i)) (h, kept_small m i))

-- an expression and a body that stay within the limits under one quantifier when the one is put into the other
pub record Fitting (e g : Form) : Type 0 where
  pub over : ℕ
  pub deep : ℕ
  pub small : Small over e
  pub ok : Ok deep pred g
  pub sum : deep + over ≤ 63

head_few : (t : ℕ) (ws : List ℕ) → length (head_words t ws) ≤ 34 → length ws ≤ 32
unfolding head_words
head_few t [] h = omega arith
head_few t (k ∷ ks) h = omega arith

-- one point: of the declarations ns the one of index i is filled by e
module _ (t : ℕ) (which : (eqb t 851 || eqb t 852) ≡ true) (ns : List ℕ) (i : ℕ) (e : Form) (low : i < length ns) (most : length ns ≤ 32) (tb : Table) (list lm : List ℕ) (number : tb.n ≡ suc i)
    (words : take tb.n tb.words ≡ 1 ∷ replicate i 0)
    (there : items (part (get_or tb.starts 0 0) (get_or tb.ends 0 0) list) (part (get_or tb.starts 0 0) (get_or tb.ends 0 0) lm) ≡ items_of 0 e) {d : ℕ} (ok-e : Ok d expr e) (over : above i e ≡ true)
    (g : Form) (ok : Ok 63 pred g) (marks after : List ℕ) (marked : marks ≡ marks_of tb.n g ++ after) (names : are_names ns ≡ true) (ready : Ready (down_plan tb tb.n) list lm)
    (bare : eqb (get_or (encode g) 0 0) (t + 10) ≡ false) where
  abbrev ps : List Place
  ps = set_place (length ns) i e (no_places (length ns))

  names-few : length (partial_head t (take (length ns - suc i) ns) (drop (length ns - suc i + 1) ns) (encode g)) ≤ 34 → length (head_names t ns ps g (front ps) (length (drop (front ps) ns))) ≤ 32
  names-few h =
      rw (front-is (length ns) i e low, from_front (length ns) i e low, point-stays t which ns i e low most tb list lm number words there ok-e over g ok marks after marked bare)
      (head_few t _ h)

  pub point-row : (sure : Bool) → (sure ≡ true → Fitting e g) → (room : ℕ)
      → partial_row sure t (take (length ns - suc i) ns) (drop (length ns - suc i + 1) ns) tb tb.n list lm (encode g) marks room ≡ finish pred room (instantiate_partial t (map unnoted ns) ps g)
  point-row sure h room =
      let hd = partial_head t (take (length ns - suc i) ns) (drop (length ns - suc i + 1) ns) (encode g) in
      let a = length-take (length ns - suc i) ns in
      let b = length-drop (length ns - suc i + 1) ns in
      partial-is sure t (take (length ns - suc i) ns) (drop (length ns - suc i + 1) ns) tb tb.n list lm (encode g) marks room (inner_of t which (omega arith) ok) (omega arith) (omega arith) ready
      ∙ rw (point-words t which ns i e low most tb list lm number words there ok-e over g ok marks after marked bare)
      (emit-sure (leb (length hd) 34 && sure) pred room (instantiate_partial t (map unnoted ns) ps g) (λ y l. within (leb-true (length hd) 34 (and_left (leb (length hd) 34) sure y)) (h (and_right (leb (length hd) 34) sure y)) l))
    where
      within : length (partial_head t (take (length ns - suc i) ns) (drop (length ns - suc i + 1) ns) (encode g)) ≤ 34 → Fitting e g → length (encode (instantiate_partial t (map unnoted ns) ps g)) ≤ 8192
          → is_one (row_form pred (encode (instantiate_partial t (map unnoted ns) ps g))) ≡ true
      within a b l =
          point-fits b.over t which ns names most ps (length-set (no_places (length ns)) (length ns - suc i) (filled e) ∙ length-replicate (length ns) kept) (one-small b.over (length ns) i e low b.small) g b.deep b.ok b.sum bare (names-few a) l
