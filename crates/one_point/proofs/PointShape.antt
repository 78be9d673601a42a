-- What one point makes of a well-formed form has the right shape. Assumes nothing.
use mathlib.Core.Path.{◌≡◌, refl, ap, sym, ◌∙◌}
use mathlib.Core.Bool.{Bool, true, false, ◌&&◌, ◌||◌}
use mathlib.Core.Option.{Option, none as absent, some}
use mathlib.Core.List.{List, [], ◌∷◌, ◌++◌, map, reverse, reverse-cons}
use Prim.Native.Nat.{ℕ, zero, suc, ◌+◌, ◌-◌, ◌≤◌}
use native.Mathlib.Omega.{arith}
use borrow.Author.Tests.{eqb-true}
use lib.Dec.{eqb}
use lib.ListN.{length, take, drop, set, replicate, length-append, length-map}
use Rattle.tree.specs.Form.{Leaf, free, bound, Form, node, noted, Decls, names_of, any_typed, Forms, none, more, pick, between, encode}
use Rattle.tree.specs.Tag.{Sort, expr, pred, own, sorts}
use Rattle.form.specs.Decode.{Head, head, flagged, bad, only, read, is_leaf}
use Rattle.form.specs.Lists.{Place, kept, filled}
use Rattle.form.proofs.DecodeLaws.{clash, Ok, read-exact}
use Rattle.rules.specs.Walk.{Binding, inside, outside, binding, Outer, named, dangling, walk_index, walk_leaf, walk, walk_decls, walk_all, up, lift, put, subst}
use Rattle.rules.specs.Shift.{fall, lower}
use Rattle.rules.specs.Fill.{Decl, unnoted, name_of, listed, unlisted, any_noted, Quantified, quantifier, other, quantified, quantify, kept_count, kept_decls, fill_index, fill_for, fill}
use Rattle.rules.proofs.WalkLaws.{walk-names, walk-typed}
use Rattle.shift.proofs.AroundLaws.{Quant, quant-of, head_of, encode-around, names-unlisted}
use Rattle.replace.proofs.QuantLaws.{tag-heading, tag-flagged}
use Rattle.rules.specs.Replacement.{taken, nothing}
use Rattle.rules.specs.Scan.{Scan, scanned, scan}
use Rattle.rules.specs.Partial.{no_places, set_place, front, lower_place, on_note, clear, join_with, put_round, instantiate_partial}
use Rattle.rules.specs.Point.{polarity, rest_of, reduce, reduce_quantified, one_point}
use Rattle.one_point.proofs.ScanLimits.{OkScan, rest_ok, scan-ok}
use Rattle.one_point.proofs.ShapeLaws.{ReadAs, FlaggedAs, Reads, ReadsFlags, Shaped, shaped-leaf, shaped-node, shaped-noted, ShapedDecls, shaped-end, shaped-bare, shaped-typed, ShapedAll, shaped-none, shaped-more, own-flags, ok-shaped}

-- a walk that puts expressions
module _ (act : ℕ → Outer → Form) (h : (k : ℕ) (x : Outer) → Shaped expr (act k x)) where
  index-shaped : (k i : ℕ) (z : Binding) → Shaped expr (walk_index act k i z)
  index-shaped k i inside = shaped-leaf (bound i)
  index-shaped k i (outside j) = h k (dangling j)

  leaf-shaped : (k : ℕ) (x : Leaf) → Shaped expr (walk_leaf act k x)
  leaf-shaped k (free n) = h k (named n)
  leaf-shaped k (bound i) = index-shaped k i (binding k i)

  mutual
    unfolding walk

    walk-shaped : {s : Sort} {f : Form} → Shaped s f → (k : ℕ) → Shaped s (walk act k f)
    walk-shaped (shaped-leaf x) k = leaf-shaped k x
    walk-shaped (shaped-node {ds = ds} p e l r o w) k = shaped-node p e l r o (walks-shaped w (length ds + k))
    walk-shaped (shaped-noted {s = s} {t = t} {o = o} {ds = ds} p e l r n v w) k =
        shaped-noted {s = s} {t = t} {o = o} {ds = walk_decls act k ds} p e (walk-typed act k ds ∙ l) (rw (walk-names act k ds) r) n (walk-shaped_decls v k) (walks-shaped w (length (names_of ds) + k))

    walk-shaped_decls : {ds : Decls} → ShapedDecls ds → (k : ℕ) → ShapedDecls (walk_decls act k ds)
    walk-shaped_decls shaped-end k = shaped-end
    walk-shaped_decls (shaped-bare h) k = shaped-bare (walk-shaped_decls h k)
    walk-shaped_decls (shaped-typed f h) k = shaped-typed (walk-shaped f k) (walk-shaped_decls h k)

    walks-shaped : {ss : List Sort} {fs : Forms} → ShapedAll ss fs → (k : ℕ) → ShapedAll ss (walk_all act k fs)
    walks-shaped shaped-none k = shaped-none
    walks-shaped (shaped-more a b) k = shaped-more (walk-shaped a k) (walks-shaped b k)

lift-shaped : (n : ℕ) {s : Sort} {f : Form} → Shaped s f → Shaped s (lift n f)
lift-shaped n h = walk-shaped (up n) (λ k x. up-leaf k x) h 0
  where
    up-leaf : (k : ℕ) (x : Outer) → Shaped expr (up n k x)
    up-leaf k (named m) = shaped-leaf (free m)
    up-leaf k (dangling j) = shaped-leaf (bound (k + (j + n)))

subst-shaped : (σ : Outer → Form) → ((x : Outer) → Shaped expr (σ x)) → {s : Sort} {f : Form} → Shaped s f → Shaped s (subst σ f)
subst-shaped σ h w = walk-shaped (put σ) (λ k x. lift-shaped k (h x)) w 0

lower-shaped : (n : ℕ) {s : Sort} {f : Form} → Shaped s f → Shaped s (lower n f)
lower-shaped n h = subst-shaped (fall n) (λ x. fall-leaf x) h
  where
    fall-leaf : (x : Outer) → Shaped expr (fall n x)
    fall-leaf (named m) = shaped-leaf (free m)
    fall-leaf (dangling j) = shaped-leaf (bound (j - n))

-- places filled by expressions
abbrev ShapedPlaces : List Place → Type 0
ShapedPlaces [] = Unit {0}
ShapedPlaces (kept ∷ ps) = ShapedPlaces ps
ShapedPlaces (filled e ∷ ps) = Shaped expr e × ShapedPlaces ps

places-append : (ps qs : List Place) → ShapedPlaces ps → ShapedPlaces qs → ShapedPlaces (ps ++ qs)
places-append [] qs h k = k
places-append (kept ∷ ps) qs h k = places-append ps qs h k
places-append (filled e ∷ ps) qs h k = (h.0, places-append ps qs h.1 k)

places-reverse : (ps : List Place) → ShapedPlaces ps → ShapedPlaces (reverse ps)
places-reverse [] h = tt
places-reverse (kept ∷ ps) h = rw (reverse-cons kept ps) (places-append (reverse ps) (kept ∷ []) (places-reverse ps h) tt)
places-reverse (filled e ∷ ps) h = rw (reverse-cons (filled e) ps) (places-append (reverse ps) (filled e ∷ []) (places-reverse ps h.1) (h.0, tt))

fill-shaped : (m c : ℕ) (ps : List Place) (j : ℕ) → ShapedPlaces ps → Shaped expr (fill_index m c ps j)
fill-shaped m c [] j h = shaped-leaf (bound (m + j))
fill-shaped m c (kept ∷ ps) zero h = shaped-leaf (bound c)
fill-shaped m c (filled e ∷ ps) zero h = lift-shaped m h.0
fill-shaped m c (kept ∷ ps) (suc j) h = fill-shaped m (suc c) ps j h
fill-shaped m c (filled e ∷ ps) (suc j) h = fill-shaped m c ps j h.1

-- a quantifier put round a predicate
split-same : (a b x y : List ℕ) → length a ≡ length b → a ++ x ≡ b ++ y → (a ≡ b) × (x ≡ y)
split-same [] [] x y l e = (refl, e)
split-same [] (w ∷ b) x y l e = absurd (omega arith)
split-same (v ∷ a) [] x y l e = absurd (omega arith)
split-same (v ∷ a) (w ∷ b) x y l e =
    let p : v ≡ w = cc in
    let q : a ++ x ≡ b ++ y = cc in
    let (r, s) = split-same a b x y (omega arith) q in
    (rw (p, r), s)

-- annotations of the right shape
abbrev ShapedNote : Option Form → Type 0
ShapedNote absent = Unit {0}
ShapedNote (some f) = Shaped expr f

abbrev ShapedNotes : List Decl → Type 0
ShapedNotes [] = Unit {0}
ShapedNotes (d ∷ ds) = ShapedNote d.1 × ShapedNotes ds

notes-decls : (ds : List Decl) → ShapedNotes ds → ShapedDecls (unlisted ds)
notes-decls [] w = shaped-end
notes-decls ((n, absent) ∷ ds) w = shaped-bare (notes-decls ds w.1)
notes-decls ((n, some f) ∷ ds) w = shaped-typed w.0 (notes-decls ds w.1)

decls-notes : {ds : Decls} → ShapedDecls ds → ShapedNotes (listed ds)
decls-notes shaped-end = tt
decls-notes (shaped-bare w) = (tt, decls-notes w)
decls-notes (shaped-typed f w) = (f, decls-notes w)

plain-shaped : (ns : List ℕ) → ShapedNotes (map unnoted ns)
plain-shaped [] = tt
plain-shaped (n ∷ ns) = (tt, plain-shaped ns)

kept-notes : (ps : List Place) (ds : List Decl) → ShapedNotes ds → ShapedNotes (kept_decls ps ds)
kept-notes [] ds w = tt
kept-notes (kept ∷ ps) [] w = tt
kept-notes (filled x ∷ ps) [] w = tt
kept-notes (kept ∷ ps) (d ∷ ds) w = (w.0, kept-notes ps ds w.1)
kept-notes (filled x ∷ ps) (d ∷ ds) w = kept-notes ps ds w.1

append-notes : (ds es : List Decl) → ShapedNotes ds → ShapedNotes es → ShapedNotes (ds ++ es)
append-notes [] es w v = v
append-notes (d ∷ ds) es w v = (w.0, append-notes ds es w.1 v)

take-notes : (j : ℕ) (ds : List Decl) → ShapedNotes ds → ShapedNotes (take j ds)
take-notes zero ds w = tt
take-notes (suc j) [] w = tt
take-notes (suc j) (d ∷ ds) w = (w.0, take-notes j ds w.1)

drop-notes : (j : ℕ) (ds : List Decl) → ShapedNotes ds → ShapedNotes (drop j ds)
drop-notes zero ds w = w
drop-notes (suc j) [] w = tt
drop-notes (suc j) (d ∷ ds) w = drop-notes j ds w.1

map-notes : (h : Form → Form) → ((f : Form) → Shaped expr f → Shaped expr (h f)) → (ds : List Decl) → ShapedNotes ds → ShapedNotes (map (on_note h) ds)
map-notes h k [] w = tt
map-notes h k ((n, absent) ∷ ds) w = (tt, map-notes h k ds w.1)
map-notes h k ((n, some f) ∷ ds) w = (k f w.0, map-notes h k ds w.1)

any-unlisted : (ds : List Decl) → any_typed (unlisted ds) ≡ any_noted ds
any-unlisted [] = refl
any-unlisted ((n, absent) ∷ ds) = any-unlisted ds
any-unlisted ((n, some f) ∷ ds) = refl

-- the declarations and the body of a quantifier
first-kid : {h : Form} → ShapedAll (pred ∷ []) (more h none) → Shaped pred h
first-kid (shaped-more a b) = a

kid_of : (u : ℕ) (o ds : List ℕ) (ks : Forms) (ss : List Sort) → ShapedAll ss ks → ((eqb u 851 || eqb u 852) ≡ true → ss ≡ pred ∷ []) → (v : ℕ) (es : List Decl) (f : Form) → quantified (node u o ds ks) ≡ quantifier v es f
    → ShapedNotes es × Shaped pred f
unfolding quantified
kid_of u o ds none ss w k v es f q = absurd (clash cc)
kid_of u o ds (more h none) ss w k v es f q = go (eqb u 851 || eqb u 852) refl q
  where
    go : (z : Bool) → (eqb u 851 || eqb u 852) ≡ z → pick z (quantifier u (map unnoted ds) h) other ≡ quantifier v es f → ShapedNotes es × Shaped pred f
    go true e r =
        let b : h ≡ f = cc in
        let c : map unnoted ds ≡ es = cc in
        (rw (← c) (plain-shaped ds), rw (← b) (first-kid (rw (k e) at w)))
    go false e r = absurd (clash cc)
kid_of u o ds (more h (more i is)) ss w k v es f q = absurd (clash cc)

noted_of : (u : ℕ) (o : List ℕ) (ds : Decls) (ks : Forms) (ss : List Sort) → ShapedDecls ds → ShapedAll ss ks → ((eqb u 861 || eqb u 862) ≡ true → ss ≡ pred ∷ []) → (v : ℕ) (es : List Decl) (f : Form)
    → quantified (noted u o ds ks) ≡ quantifier v es f → ShapedNotes es × Shaped pred f
unfolding quantified
noted_of u o ds none ss n w k v es f q = absurd (clash cc)
noted_of u o ds (more h none) ss n w k v es f q = go (eqb u 861 || eqb u 862) refl q
  where
    go : (z : Bool) → (eqb u 861 || eqb u 862) ≡ z → pick z (quantifier (u - 10) (listed ds) h) other ≡ quantifier v es f → ShapedNotes es × Shaped pred f
    go true e r =
        let b : h ≡ f = cc in
        let c : listed ds ≡ es = cc in
        (rw (← c) (decls-notes n), rw (← b) (first-kid (rw (k e) at w)))
    go false e r = absurd (clash cc)
noted_of u o ds (more h (more i is)) ss n w k v es f q = absurd (clash cc)

body-shaped : {g : Form} → Shaped pred g → (u : ℕ) (ds : List Decl) (f : Form) → quantified g ≡ quantifier u ds f → ShapedNotes ds × Shaped pred f
body-shaped (shaped-node {t = v} {o = o} {ds = es} p e {ks = ks} l r k w) u ds f q = kid_of v o es ks (sorts p e) w (k refl) u ds f q
body-shaped (shaped-noted {t = v} {o = o} {ds = es} p e {ks = ks} l r k n w) u ds f q = noted_of v o es ks (sorts p e) n w (k refl) u ds f q

module _ (t : ℕ) (which : (eqb t 851 || eqb t 852) ≡ true) where
  not-leaf : is_leaf t ≡ false
  not-leaf = go (eqb t 851) (eqb t 852) refl refl which
    where
      go : (a b : Bool) → eqb t 851 ≡ a → eqb t 852 ≡ b → (a || b) ≡ true → is_leaf t ≡ false
      go true b x y z = rw (eqb-true t 851 x)
      go false true x y z = rw (eqb-true t 852 y)
      go false false x y z = absurd (clash cc)

  quant-reads : (ns : List ℕ) → Reads pred t (length ns ∷ []) ns 1 0
  quant-reads ns x = go (read (own pred t) (length ns ∷ (ns ++ x))) refl
    where
      go : (z : Head) → read (own pred t) (length ns ∷ (ns ++ x)) ≡ z → ReadAs z (length ns ∷ []) ns 1 0 x
      go (head o ds p e y) q =
          let h = tag-heading t (length ns ∷ (ns ++ x)) o ds p e y which q in
          let w : length ns ∷ (ns ++ x) ≡ o ++ (ds ++ y) = (read-exact (own pred t) (length ns ∷ (ns ++ x)) o ds p e y q).0 in
          let v : length ns ∷ (ns ++ x) ≡ length ds ∷ (ds ++ y) = w ∙ ap (λ (z : List ℕ). z ++ (ds ++ y)) h.words in
          let l : length ds ≡ length ns = cc in
          let u : ds ++ y ≡ ns ++ x = cc in
          let (a, b) = split-same ds ns y x l u in
          (h.words ∙ ap (λ (n : ℕ). n ∷ []) l, a, h.preds, h.exprs, b)
      go (flagged o n p e y) q = tag-flagged t (length ns ∷ (ns ++ x)) o n p e y which q
      go bad q = tt

  up-tag : (eqb (t + 10) 861 || eqb (t + 10) 862) ≡ true
  up-tag = go (eqb t 851) (eqb t 852) refl refl which
    where
      go : (a b : Bool) → eqb t 851 ≡ a → eqb t 852 ≡ b → (a || b) ≡ true → (eqb (t + 10) 861 || eqb (t + 10) 862) ≡ true
      go true b x y z = rw (eqb-true t 851 x)
      go false true x y z = rw (eqb-true t 852 y)
      go false false x y z = absurd (clash cc)

  flags-reads : (n : ℕ) → ReadsFlags pred (t + 10) (n ∷ []) n 1 0
  unfolding read
  flags-reads n x = rw (own-flags (t + 10) up-tag) (go (between 1 32 n))
    where
      go : (b : Bool) → FlaggedAs (only b (flagged (n ∷ []) n 1 0 x)) (n ∷ []) n 1 0 x
      go true = (refl, refl, refl, refl, refl)
      go false = tt

  quantify-shaped : (ns : List Decl) {f : Form} → ShapedNotes ns → Shaped pred f → Shaped pred (quantify t ns f)
  quantify-shaped [] w h = h
  quantify-shaped (n ∷ ns) {f} w h = go (any_noted (n ∷ ns)) refl
    where
      go : (z : Bool) → any_noted (n ∷ ns) ≡ z
          → Shaped pred (pick z (noted (t + 10) (length (n ∷ ns) ∷ []) (unlisted (n ∷ ns)) (more f none)) (node t (length (n ∷ ns) ∷ []) (map name_of (n ∷ ns)) (more f none)))
      go true e =
          let l : length (names_of (unlisted (n ∷ ns))) ≡ length (n ∷ ns) = ap length (names-unlisted (n ∷ ns)) ∙ length-map (n ∷ ns) name_of in
          shaped-noted {s = pred} {t = t + 10} {o = length (n ∷ ns) ∷ []} {ds = unlisted (n ∷ ns)} 1 0 (any-unlisted (n ∷ ns) ∙ e) (rw l (flags-reads (length (n ∷ ns)))) (λ a b. refl) (notes-decls (n ∷ ns) w)
          (shaped-more h shaped-none)
      go false e =
          let l : length (n ∷ ns) ≡ length (map name_of (n ∷ ns)) = sym (length-map (n ∷ ns) name_of) in
          rw l (shaped-node {s = pred} {t = t} {o = length (map name_of (n ∷ ns)) ∷ []} {ds = map name_of (n ∷ ns)} 1 0 not-leaf (quant-reads (map name_of (n ∷ ns))) (λ a b. refl) (shaped-more h shaped-none))

  fill-whole : (ns : List Decl) (ps : List Place) {f : Form} → ShapedNotes ns → ShapedPlaces ps → Shaped pred f → Shaped pred (fill t ns ps f)
  unfolding fill
  fill-whole ns ps n h w = quantify-shaped (kept_decls ps ns) (kept-notes ps ns n) (subst-shaped (fill_for ps) (λ x. of-outer x) w)
    where
      of-outer : (x : Outer) → Shaped expr (fill_for ps x)
      of-outer (named n) = shaped-leaf (free n)
      of-outer (dangling j) = fill-shaped (kept_count ps) 0 (reverse ps) j (places-reverse ps h)

  join-shaped : (ns : List Decl) (g : Form) → ShapedNotes ns → Shaped pred g → (q : Quantified) → quantified g ≡ q → Shaped pred (join_with t ns g q)
  join-shaped ns g n h other e = quantify-shaped ns n h
  join-shaped ns g n h (quantifier u ds f) e = go (eqb u t && clear (length ns) ds)
    where
      go : (b : Bool) → Shaped pred (pick b (quantify t (ns ++ map (on_note (lower (length ns))) ds) f) (quantify t ns g))
      go true =
          let (k, b) = body-shaped h u ds f e in
          quantify-shaped (ns ++ map (on_note (lower (length ns))) ds) (append-notes ns (map (on_note (lower (length ns))) ds) n (map-notes (lower (length ns)) (λ x y. lower-shaped (length ns) y) ds k)) b
      go false = quantify-shaped ns n h

  round-shaped : (ns : List Decl) (g : Form) → ShapedNotes ns → Shaped pred g → Shaped pred (put_round t ns g)
  unfolding put_round
  round-shaped [] g n h = h
  round-shaped (x ∷ ns) g n h = join-shaped (x ∷ ns) g n h (quantified g) refl

  -- the whole of one point
  places-drop : (j : ℕ) (ps : List Place) → ShapedPlaces ps → ShapedPlaces (drop j ps)
  places-drop zero ps h = h
  places-drop (suc j) [] h = tt
  places-drop (suc j) (kept ∷ ps) h = places-drop j ps h
  places-drop (suc j) (filled e ∷ ps) h = places-drop j ps h.1

  places-lower : (n : ℕ) (ps : List Place) → ShapedPlaces ps → ShapedPlaces (map (lower_place n) ps)
  places-lower n [] h = tt
  places-lower n (kept ∷ ps) h = places-lower n ps h
  places-lower n (filled e ∷ ps) h = (lower-shaped n h.0, places-lower n ps h.1)

  partial-shaped : (ns : List Decl) (ps : List Place) (f : Form) → ShapedNotes ns → ShapedPlaces ps → Shaped pred f → Shaped pred (instantiate_partial t ns ps f)
  unfolding instantiate_partial
  partial-shaped ns ps f n h w =
      let j = front ps in
      round-shaped (take j ns) (fill t (map (on_note (lift j)) (drop j ns)) (map (lower_place (length (drop j ns))) (drop j ps)) f) (take-notes j ns n)
      (fill-whole (map (on_note (lift j)) (drop j ns)) (map (lower_place (length (drop j ns))) (drop j ps)) (map-notes (lift j) (λ x y. lift-shaped j y) (drop j ns) (drop-notes j ns n))
      (places-lower (length (drop j ns)) (drop j ps) (places-drop j ps h)) w)

  places-kept : (n : ℕ) → ShapedPlaces (replicate n kept)
  places-kept zero = tt
  places-kept (suc n) = places-kept n

  places-set : (ps : List Place) (k : ℕ) (e : Form) → Shaped expr e → ShapedPlaces ps → ShapedPlaces (set ps k (filled e))
  places-set [] k e h w = tt
  places-set (kept ∷ ps) zero e h w = (h, w)
  places-set (filled x ∷ ps) zero e h w = (h, w.1)
  places-set (kept ∷ ps) (suc k) e h w = places-set ps k e h w
  places-set (filled x ∷ ps) (suc k) e h w = (w.0, places-set ps k e h w.1)

  reduce-shaped : (ns : List Decl) → ShapedNotes ns → (n d : ℕ) (s : Scan) → OkScan n (suc d) s → (g : Form) → reduce t ns s ≡ some g → Shaped pred g
  reduce-shaped ns v n d (scanned nothing x) h g r = absurd (clash cc)
  reduce-shaped ns v n d (scanned (taken i e) x) h g r =
      let k : instantiate_partial t ns (set_place (length ns) i e (no_places (length ns))) (rest_of (polarity t) x) ≡ g = cc in
      rw (← k)
      (partial-shaped ns (set_place (length ns) i e (no_places (length ns))) (rest_of (polarity t) x) v (places-set (no_places (length ns)) (length ns - suc i) e (ok-shaped h.0.0) (places-kept (length ns)))
      (ok-shaped (rest_ok {d = d} (polarity t) x h.1)))

-- what one point makes of a well-formed form
quant-short : (f : Form) (y : Quant 63 f) → length (encode y.body) ≤ length (encode f)
quant-short f y =
    let a = ap length (ap encode y.form ∙ encode-around y.op 0 y.decls y.body) ∙ length-append (head_of y.op y.decls) (encode y.body) in
    omega arith

quant-shaped : (f g : Form) (y : Quant 63 f) → Ok 64 pred f → length (encode f) ≤ 8192 → one_point f ≡ some g → Shaped pred g
unfolding one_point
quant-shaped f g y ok l r =
    let q : reduce y.op y.decls (scan (length y.decls) (polarity y.op) y.body) ≡ some g = rw y.is at r in
    let m = quant-short f y in
    let n = (body-shaped (ok-shaped ok) y.op y.decls y.body y.is).0 in
    reduce-shaped y.op y.which y.decls n (length y.decls) 62 (scan (length y.decls) (polarity y.op) y.body) (scan-ok y.ok (omega arith) (length y.decls) (polarity y.op)) g q

pub point-shaped : (f g : Form) → Ok 64 pred f → length (encode f) ≤ 8192 → one_point f ≡ some g → Shaped pred g
unfolding one_point
point-shaped f g ok l r = go (quantified f) refl
  where
    go : (q : Quantified) → quantified f ≡ q → Shaped pred g
    go (quantifier op ds b) e = quant-shaped f g (quant-of {d = 63} ok op ds b e) ok l r
    go other e = let z : reduce_quantified other ≡ some g = rw e at r in absurd (clash cc)
