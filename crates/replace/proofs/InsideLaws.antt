-- A substitution of expressions that are not deep and whose words are small gives a form within the limits. Assumes nothing.
use mathlib.Core.Path.{◌≡◌, refl, ap}
use mathlib.Core.Bool.{Bool, true, false, ◌&&◌, ◌||◌}
use mathlib.Core.List.{List, [], ◌∷◌, ◌++◌, map, reverse, reverse-cons}
use Prim.Native.Nat.{ℕ, zero, suc, ◌+◌, ◌-◌, ◌*◌, ◌≤◌, ◌<◌}
use native.Mathlib.Nat.{suc-add}
use native.Mathlib.Omega.{arith}
use borrow.Author.Tests.{lt-ltb, ltb-true}
use lib.Dec.{eqb, ltb}
use lib.ListN.{length, get_or, take, drop, length-map, length-drop}
use Rattle.tree.specs.Form.{free, bound, Form, leaf, node, noted, Decls, undeclared, bare, typed, names_of, Forms, none, more, pick, between, encode, encode_decls, encode_all}
use Rattle.tree.specs.Tag.{Sort, expr, pred, sorts}
use Rattle.form.specs.Decode.{row_form}
use Rattle.form.specs.Answer.{is_one}
use Rattle.form.specs.Lists.{Place, kept, filled, Entry, entry, place_of}
use Rattle.form.proofs.HeadLaws.{between_in, few-names as few-declared, few-decls}
use Rattle.form.proofs.DecodeLaws.{Ok, ok-free, ok-bound, ok-node, ok-noted, OkDecls, ok_end, ok-bare, ok-typed, OkAll, ok-none, ok-more}
use Rattle.form.proofs.RowLaws.{row-encode}
use Rattle.rules.specs.Walk.{Binding, inside, outside, binding, Outer, named, dangling, walk_index, walk, walk_decls, walk_all, up, lift, put, subst, collect_index, collect, each}
use Rattle.rules.specs.Shift.{fall, lower}
use Rattle.rules.proofs.WalkLaws.{each_all, each_decls, walk-names, walk-typed, binding-back, and_left, and_right}
use Rattle.rules.proofs.LimitLaws.{small as fits, ok-small as ok-fits}
use Rattle.shift.specs.Internal.Items.{all_below}
use Rattle.shift.proofs.ShiftLaws.{between-high}
use Rattle.rules.proofs.TreeLaws.{up_up}
use Rattle.rules.specs.Fill.{unnoted, kept_count, fill_index, fill_for, fill}
use Rattle.replace.proofs.PlainLaws.{kept_names, plain-fill}
use Rattle.rules.specs.Free.{or_name, seek, free_for, substitute}
use Rattle.replace.specs.Internal.Pieces.{are_names}
use Rattle.rules.proofs.OkLaws.{ok-deep}
use Rattle.replace.proofs.FillTree.{count-both, kept-reverse, low_place}
use Rattle.replace.proofs.QuantLaws.{Quant, tag-heading}
use Rattle.replace.proofs.OkLaws.{few-names, names-kept, node-names, quantify-ok}

-- a walk whose expressions are at most m + 1 deep makes a tree at most m deeper, if each is so wherever a test holds at a depth that occurs
module _ (K m : ℕ) (p : ℕ → Outer → Bool) (act : ℕ → Outer → Form) (ok-act : (k : ℕ) (x : Outer) → k ≤ K → p k x ≡ true → Ok (suc m) expr (act k x)) where
  tested-index : (d k i : ℕ) (z : Binding) → k ≤ K → between 0 65535 i ≡ true → collect_index true p k z ≡ true → Ok (suc d + m) expr (walk_index act k i z)
  tested-index d k i inside l h g = rw suc-add (ok-bound h)
  tested-index d k i (outside j) l h g = ok-deep (ok-act k (dangling j) l g) (suc d + m) (omega arith)

  mutual
    unfolding walk collect

    walk-tested : {d : ℕ} {s : Sort} {f : Form} → Ok d s f → (k : ℕ) → k + 32 * d ≤ K → each p k f ≡ true → Ok (d + m) s (walk act k f)
    walk-tested (ok-free {d = d} {n = n} h) k l g = ok-deep (ok-act k (named n) (omega arith) g) (suc d + m) (omega arith)
    walk-tested (ok-bound {d = d} {n = n} h) k l g = tested-index d k n (binding k n) (omega arith) h g
    walk-tested (ok-node {d = d} {s = s} {t = t} {o = o} {ds = ds} {p = ps} {e = es} n r w) k l g =
        let few = few-declared s t (o ++ (ds ++ [])) o ds ps es [] (r []) in
        rw suc-add (ok-node n r (walk-tested_all w (length ds + k) (omega arith) g))
    walk-tested (ok-noted {d = d} {s = s} {t = t} {o = o} {ds = ds} {p = ps} {e = es} {ks = ks} a r v w) k l g =
        let few = few-decls s t (o ++ []) o (length (names_of ds)) ps es [] (r []) in
        rw suc-add
        (ok-noted {s = s} {t = t} {o = o} {ds = walk_decls act k ds} {p = ps} {e = es} (rw (walk-typed act k ds) a) (rw (walk-names act k ds) r)
        (walk-tested_decls v k (omega arith) (and_left (each_decls p k ds) (each_all p (length (names_of ds) + k) ks) g))
        (walk-tested_all w (length (names_of ds) + k) (omega arith) (and_right (each_decls p k ds) (each_all p (length (names_of ds) + k) ks) g)))

    walk-tested_decls : {d : ℕ} {ds : Decls} → OkDecls d ds → (k : ℕ) → k + 32 * d ≤ K → each_decls p k ds ≡ true → OkDecls (d + m) (walk_decls act k ds)
    walk-tested_decls ok_end k l g = ok_end
    walk-tested_decls (ok-bare h w) k l g = ok-bare h (walk-tested_decls w k l g)
    walk-tested_decls (ok-typed {f = f} {ds = ds} h v w) k l g =
        ok-typed h (walk-tested v k l (and_left (each p k f) (each_decls p k ds) g)) (walk-tested_decls w k l (and_right (each p k f) (each_decls p k ds) g))

    walk-tested_all : {d : ℕ} {ss : List Sort} {fs : Forms} → OkAll d ss fs → (k : ℕ) → k + 32 * d ≤ K → each_all p k fs ≡ true → OkAll (d + m) ss (walk_all act k fs)
    walk-tested_all ok-none k l g = ok-none
    walk-tested_all (ok-more {f = f} {fs = fs} h w) k l g =
        ok-more (walk-tested h k l (and_left (each p k f) (each_all p k fs) g)) (walk-tested_all w k l (and_right (each p k f) (each_all p k fs) g))

-- in particular if each is so where the identifier's number is at most 65,535
pub walk-deeper : (K m : ℕ) (act : ℕ → Outer → Form) → ((k : ℕ) (x : Outer) → k ≤ K → fits k x ≡ true → Ok (suc m) expr (act k x))
    → {d : ℕ} {s : Sort} {f : Form} → Ok d s f → (k : ℕ) → k + 32 * d ≤ K → Ok (d + m) s (walk act k f)
walk-deeper K m act h ok k l = walk-tested K m fits act h ok k l (ok-fits ok k)

-- words that are at most 63,487
abbrev small : List ℕ → Bool
small ws = all_below 63488 ws

pub small-split : (a b : List ℕ) → small (a ++ b) ≡ true → (small a ≡ true) × (small b ≡ true)
unfolding all_below
small-split [] b h = (refl, h)
small-split (w ∷ a) b h =
    let (x, y) = small-split a b (and_right (ltb w 63488) (small (a ++ b)) h) in
    (rw (and_left (ltb w 63488) (small (a ++ b)) h) x, y)

small-join : (a b : List ℕ) → small a ≡ true → small b ≡ true → small (a ++ b) ≡ true
unfolding all_below
small-join [] b h g = g
small-join (w ∷ a) b h g = rw (and_left (ltb w 63488) (small a) h) (small-join a b (and_right (ltb w 63488) (small a) h) g)

-- an outer identifier's number is at most 63,487
abbrev low : ℕ → Outer → Bool
low k (named m) = ltb m 63488
low k (dangling j) = ltb (k + j) 63488

low-index : (k i : ℕ) (z : Binding) → binding k i ≡ z → ltb i 63488 ≡ true → collect_index true low k z ≡ true
low-index k i inside q h = refl
low-index k i (outside j) q h = rw (binding-back k i j q) h

last_word : (t n : ℕ) → small (t ∷ n ∷ []) ≡ true → ltb n 63488 ≡ true
unfolding all_below
last_word t n h = and_left (ltb n 63488) true (and_right (ltb t 63488) (ltb n 63488 && true) h)

kids-small : (t : ℕ) (o ds ws : List ℕ) → small (t ∷ (o ++ (ds ++ ws))) ≡ true → small ws ≡ true
unfolding all_below
kids-small t o ds ws h =
    let (a, b) = small-split o (ds ++ ws) (and_right (ltb t 63488) (small (o ++ (ds ++ ws))) h) in
    let (c, d) = small-split ds ws b in
    d

two-less : (t n : ℕ) (ws : List ℕ) → small (t ∷ n ∷ ws) ≡ true → small ws ≡ true
unfolding all_below
two-less t n ws h = and_right (ltb n 63488) (small ws) (and_right (ltb t 63488) (small (n ∷ ws)) h)

mutual
  unfolding encode collect all_below

  small_low : (k : ℕ) (f : Form) → small (encode f) ≡ true → each low k f ≡ true
  small_low k (leaf (free n)) h = last_word 1 n h
  small_low k (leaf (bound i)) h = low-index k i (binding k i) refl (last_word 2 i h)
  small_low k (node t o ds ks) h = small-low_all (length ds + k) ks (kids-small t o ds (encode_all ks) h)
  small_low k (noted t o ds ks) h =
      let (a, b) = small-split o (encode_decls ds ++ encode_all ks) (and_right (ltb t 63488) (small (o ++ (encode_decls ds ++ encode_all ks))) h) in
      let (c, d) = small-split (encode_decls ds) (encode_all ks) b in
      rw (small-low_decls k ds c, small-low_all (length (names_of ds) + k) ks d)

  small-low_decls : (k : ℕ) (ds : Decls) → small (encode_decls ds) ≡ true → each_decls low k ds ≡ true
  small-low_decls k undeclared h = refl
  small-low_decls k (bare n ds) h = small-low_decls k ds (two-less n 0 (encode_decls ds) h)
  small-low_decls k (typed n f ds) h =
      let (a, b) = small-split (encode f) (encode_decls ds) (two-less n 1 (encode f ++ encode_decls ds) h) in
      rw (small_low k f a, small-low_decls k ds b)

  small-low_all : (k : ℕ) (fs : Forms) → small (encode_all fs) ≡ true → each_all low k fs ≡ true
  small-low_all k none h = refl
  small-low_all k (more f fs) h =
      let (a, b) = small-split (encode f) (encode_all fs) h in
      rw (small_low k f a, small-low_all k fs b)

-- such a form can be lifted by 2,048
up_ok : (n k : ℕ) (x : Outer) → n ≤ 2048 → low k x ≡ true → Ok 1 expr (up n k x)
up_ok n k (named m) l h = let g = ltb-true m 63488 h in ok-free (between_in 0 65535 m (omega arith) (omega arith))
up_ok n k (dangling j) l h = let g = ltb-true (k + j) 63488 h in ok-bound (between_in 0 65535 (k + (j + n)) (omega arith) (omega arith))

pub lift-small : {d : ℕ} {s : Sort} {e : Form} → Ok d s e → small (encode e) ≡ true → (n : ℕ) → n ≤ 2048 → Ok d s (lift n e)
lift-small {d} {s} {e} ok h n l = ok-deep (walk-tested (32 * d) 0 low (up n) (λ k x a b. up_ok n k x l b) ok 0 (omega arith) (small_low 0 e h)) d (omega arith)

-- an expression at most m + 1 deep, of small words: a substitution may put it anywhere in a form at most 64 - m deep
pub record Small (m : ℕ) (e : Form) : Type 0 where
  pub ok : Ok (suc m) expr e
  pub words : small (encode e) ≡ true

abbrev pub SmallPlace : ℕ → Place → Type 0
SmallPlace m kept = Unit {0}
SmallPlace m (filled e) = Small m e

abbrev pub SmallPlaces : ℕ → List Place → Type 0
SmallPlaces m [] = Unit {0}
SmallPlaces m (p ∷ ps) = SmallPlace m p × SmallPlaces m ps

-- a form is at least one level deep
pub some-deep : {d : ℕ} {s : Sort} {f : Form} → Ok d s f → 0 < d
some-deep (ok-free h) = omega arith
some-deep (ok-bound h) = omega arith
some-deep (ok-node l r w) = omega arith
some-deep (ok-noted a r v w) = omega arith

only_kid : {d : ℕ} (p e : ℕ) (b : Form) → OkAll d (sorts p e) (more b none) → p ≡ 1 → e ≡ 0 → Ok d pred b
only_kid {d} p e b w x y = go (rw (x, y) at w)
  where
    go : OkAll d (pred ∷ []) (more b none) → Ok d pred b
    go (ok-more h k) = h

-- the body of a quantifier is one level less deep
pub quant-body : {d : ℕ} (t : ℕ) (ns : List ℕ) (b : Form) → (eqb t 851 || eqb t 852) ≡ true → Ok (suc d) pred (node t (length ns ∷ []) ns (more b none)) → Ok d pred b
quant-body t ns b w (ok-node {p = p} {e = e} l r k) =
    let g = tag-heading t ((length ns ∷ []) ++ (ns ++ [])) (length ns ∷ []) ns p e [] w (r []) in
    only_kid p e b k g.preds g.exprs

-- lowering: each index only falls
module _ (act : ℕ → Outer → Form) (g : (k : ℕ) (x : Outer) → low k x ≡ true → small (encode (act k x)) ≡ true) where
  small-index : (k i : ℕ) (z : Binding) → binding k i ≡ z → small (2 ∷ i ∷ []) ≡ true → small (encode (walk_index act k i z)) ≡ true
  unfolding encode
  small-index k i inside q h = h
  small-index k i (outside j) q h = g k (dangling j) (rw (binding-back k i j q) (last_word 2 i h))

  mutual
    unfolding walk encode all_below

    small-walk : (k : ℕ) (f : Form) → small (encode f) ≡ true → small (encode (walk act k f)) ≡ true
    small-walk k (leaf (free n)) h = g k (named n) (last_word 1 n h)
    small-walk k (leaf (bound i)) h = small-index k i (binding k i) refl h
    small-walk k (node t o ds ks) h =
        let (a, b) = small-split o (ds ++ encode_all ks) (and_right (ltb t 63488) (small (o ++ (ds ++ encode_all ks))) h) in
        let (c, d) = small-split ds (encode_all ks) b in
        let e = encode_all (walk_all act (length ds + k) ks) in
        rw (and_left (ltb t 63488) (small (o ++ (ds ++ encode_all ks))) h) (small-join o (ds ++ e) a (small-join ds e c (small-walk_all (length ds + k) ks d)))
    small-walk k (noted t o ds ks) h =
        let (a, b) = small-split o (encode_decls ds ++ encode_all ks) (and_right (ltb t 63488) (small (o ++ (encode_decls ds ++ encode_all ks))) h) in
        let (c, d) = small-split (encode_decls ds) (encode_all ks) b in
        let e = encode_all (walk_all act (length (names_of ds) + k) ks) in
        let x = encode_decls (walk_decls act k ds) in
        rw (and_left (ltb t 63488) (small (o ++ (encode_decls ds ++ encode_all ks))) h) (small-join o (x ++ e) a (small-join x e (small-walk_decls k ds c) (small-walk_all (length (names_of ds) + k) ks d)))

    small-walk_decls : (k : ℕ) (ds : Decls) → small (encode_decls ds) ≡ true → small (encode_decls (walk_decls act k ds)) ≡ true
    small-walk_decls k undeclared h = refl
    small-walk_decls k (bare n ds) h = rw (and_left (ltb n 63488) (small (0 ∷ encode_decls ds)) h, small-walk_decls k ds (two-less n 0 (encode_decls ds) h))
    small-walk_decls k (typed n f ds) h =
        let (a, b) = small-split (encode f) (encode_decls ds) (two-less n 1 (encode f ++ encode_decls ds) h) in
        rw (and_left (ltb n 63488) (small (1 ∷ (encode f ++ encode_decls ds))) h) (small-join (encode (walk act k f)) (encode_decls (walk_decls act k ds)) (small-walk k f a) (small-walk_decls k ds b))

    small-walk_all : (k : ℕ) (fs : Forms) → small (encode_all fs) ≡ true → small (encode_all (walk_all act k fs)) ≡ true
    small-walk_all k none h = refl
    small-walk_all k (more f fs) h =
        let (a, b) = small-split (encode f) (encode_all fs) h in
        small-join (encode (walk act k f)) (encode_all (walk_all act k fs)) (small-walk k f a) (small-walk_all k fs b)

fall-ok : (n k : ℕ) (x : Outer) → fits k x ≡ true → Ok 1 expr (put (fall n) k x)
unfolding walk
fall-ok n k (named m) h = ok-free h
fall-ok n k (dangling j) h = let g = between-high 65535 (k + j) h in ok-bound (between_in 0 65535 (0 + (j - n + k)) (omega arith) (omega arith))

fall-small : (n k : ℕ) (x : Outer) → low k x ≡ true → small (encode (put (fall n) k x)) ≡ true
unfolding walk encode all_below
fall-small n k (named m) h = rw h
fall-small n k (dangling j) h = let g = ltb-true (k + j) 63488 h in rw (lt-ltb (0 + (j - n + k)) 63488 (omega arith))

-- the names of the first j declarations and of the others
pub names-take : (j : ℕ) (ns : List ℕ) → are_names ns ≡ true → are_names (take j ns) ≡ true
names-take zero ns h = refl
names-take (suc j) [] h = refl
names-take (suc j) (n ∷ ns) h = rw (and_left (between 0 65535 n) (are_names ns) h) (names-take j ns (and_right (between 0 65535 n) (are_names ns) h))

pub names-drop : (j : ℕ) (ns : List ℕ) → are_names ns ≡ true → are_names (drop j ns) ≡ true
names-drop zero ns h = h
names-drop (suc j) [] h = refl
names-drop (suc j) (n ∷ ns) h = names-drop j ns (and_right (between 0 65535 n) (are_names ns) h)

module _ (m : ℕ) where
  -- place by place
  pub small-places : (ps : List Place) → ((i : ℕ) → i < length ps → SmallPlace m (get_or ps i kept)) → SmallPlaces m ps
  small-places [] h = tt
  small-places (p ∷ ps) h = (h 0 (omega arith), small-places ps (λ i l. h (suc i) (omega arith)))

  small-lift : (e : Form) → Small m e → (n : ℕ) → n ≤ 2048 → Ok (suc m) expr (lift n e)
  small-lift e h n l = lift-small h.ok h.words n l

  -- a name or an index alone
  name-ok : (k n : ℕ) → between 0 65535 n ≡ true → Ok (suc m) expr (lift k (leaf (free n)))
  unfolding walk
  name-ok k n h = ok-free h

  index_ok : (k j : ℕ) → k + j ≤ 65535 → Ok (suc m) expr (lift k (leaf (bound j)))
  unfolding walk
  index_ok k j h = ok-bound (between_in 0 65535 (0 + (j + k)) (omega arith) (omega arith))

  -- free substitution
  pick-ok : (k : ℕ) (b : Bool) (x y : Form) → Ok (suc m) expr (lift k x) → Ok (suc m) expr (lift k y) → Ok (suc m) expr (lift k (pick b x y))
  pick-ok k true x y h g = h
  pick-ok k false x y h g = g

  place_ok : (k n : ℕ) (p : Place) → SmallPlace m p → k ≤ 2048 → between 0 65535 n ≡ true → Ok (suc m) expr (lift k (or_name n p))
  place_ok k n kept h l g = name-ok k n g
  place_ok k n (filled e) h l g = small-lift e h k l

  seek_ok : (k n : ℕ) (es : List Entry) → SmallPlaces m (map place_of es) → k ≤ 2048 → between 0 65535 n ≡ true → Ok (suc m) expr (lift k (seek es n))
  seek_ok k n [] h l g = name-ok k n g
  seek_ok k n (entry w p ∷ es) h l g = pick-ok k (eqb w n) (or_name n p) (seek es n) (place_ok k n p h.0 l g) (seek_ok k n es h.1 l g)

  free-ok : (es : List Entry) → SmallPlaces m (map place_of es) → (k : ℕ) (x : Outer) → k ≤ 2048 → fits k x ≡ true → Ok (suc m) expr (put (free_for es) k x)
  free-ok es h k (named n) l g = seek_ok k n es h l g
  free-ok es h k (dangling j) l g = index_ok k j (between-high 65535 (k + j) g)

  pub free-inside : (es : List Entry) → SmallPlaces m (map place_of es) → {d : ℕ} {s : Sort} {f : Form} → Ok d s f → d + m ≤ 64 → Ok 64 s (substitute es f)
  unfolding substitute
  free-inside es h {d} ok l = ok-deep (walk-deeper 2048 m (put (free_for es)) (free-ok es h) ok 0 (omega arith)) 64 l

  pub free-fits : (es : List Entry) → SmallPlaces m (map place_of es) → {d : ℕ} {s : Sort} {f : Form} → Ok d s f → d + m ≤ 64 → length (encode (substitute es f)) ≤ 8192
      → is_one (row_form s (encode (substitute es f))) ≡ true
  free-fits es h ok l w = ap is_one (row-encode (free-inside es h ok l) w)

  -- fill
  pub small-append : (ps qs : List Place) → SmallPlaces m ps → SmallPlaces m qs → SmallPlaces m (ps ++ qs)
  small-append [] qs h g = g
  small-append (p ∷ ps) qs h g = (h.0, small-append ps qs h.1 g)

  small-reverse : (ps : List Place) → SmallPlaces m ps → SmallPlaces m (reverse ps)
  small-reverse [] h = tt
  small-reverse (p ∷ ps) h = rw (reverse-cons p ps) (small-append (reverse ps) (p ∷ []) (small-reverse ps h.1) (h.0, tt))

  fill-index-ok : (k n c : ℕ) (qs : List Place) (j : ℕ) → SmallPlaces m qs → n ≤ c + kept_count qs → n + k ≤ 2048 → k + (c + j) ≤ 65535 → Ok (suc m) expr (lift k (fill_index n c qs j))
  fill-index-ok k n c [] j h a l g = index_ok k (n + j) (omega arith)
  fill-index-ok k n c (kept ∷ qs) zero h a l g = index_ok k c (omega arith)
  fill-index-ok k n c (filled e ∷ qs) zero h a l g = rw (up_up n k e) (small-lift e h.0 (n + k) l)
  fill-index-ok k n c (kept ∷ qs) (suc j) h a l g = fill-index-ok k n (suc c) qs j h.1 (omega arith) l (omega arith)
  fill-index-ok k n c (filled e ∷ qs) (suc j) h a l g = fill-index-ok k n c qs j h.1 a l (omega arith)

  module _ (ps : List Place) (few : length ps ≤ 32) (h : SmallPlaces m ps) where
    fill-for-ok : (k : ℕ) (x : Outer) → k ≤ 2016 → fits k x ≡ true → Ok (suc m) expr (put (fill_for ps) k x)
    fill-for-ok k (named n) l g = name-ok k n g
    fill-for-ok k (dangling j) l g =
        let a = between-high 65535 (k + j) g in
        let b = count-both ps in
        fill-index-ok k (kept_count ps) 0 (reverse ps) j (small-reverse ps h) (rw (kept-reverse ps) (omega arith)) (omega arith) (omega arith)

    -- the body alone
    pub filled-body : {d : ℕ} {f : Form} → Ok d pred f → d + m ≤ 63 → Ok 63 pred (subst (fill_for ps) f)
    filled-body {d} ok l = ok-deep (walk-deeper 2016 m (put (fill_for ps)) fill-for-ok ok 0 (omega arith)) 63 l

    -- under the declarations that are kept
    pub filled_ok : (t : ℕ) (ns : List ℕ) → (eqb t 851 || eqb t 852) ≡ true → are_names ns ≡ true → length ns ≤ 32 → {d : ℕ} {f : Form} → Ok d pred f → d + m ≤ 63 → Ok 64 pred (fill t (map unnoted ns) ps f)
    filled_ok t ns w n l {f = f} ok deep = let q = few-names ps ns in rw (plain-fill t ns ps f) (quantify-ok t (kept_names ps ns) (subst (fill_for ps) f) w (names-kept ps ns n) (omega arith) (filled-body ok deep))

  module _ (f : Form) (d : ℕ) (ok : Ok (suc d) pred f) (deep : d + m ≤ 63) (q : Quant f) (ps : List Place) (all : length ps ≡ length q.decls) (h : SmallPlaces m ps) where
    pub fill-inside : Ok 64 pred (fill q.tag (map unnoted q.decls) ps q.body)
    fill-inside =
        let a = q.most in
        let o = rw q.form at ok in
        filled_ok ps (omega arith) h q.tag q.decls q.which (node-names q.tag q.decls (more q.body none) q.which o) a (quant-body q.tag q.decls q.body q.which o) deep

    pub fill-fits : length (encode (fill q.tag (map unnoted q.decls) ps q.body)) ≤ 8192 → is_one (row_form pred (encode (fill q.tag (map unnoted q.decls) ps q.body))) ≡ true
    fill-fits l = ap is_one (row-encode fill-inside l)

  -- lowered
  pub lower-small : (n : ℕ) (e : Form) → Small m e → Small m (lower n e)
  lower-small n e h =
      record { ok = ok-deep (walk-deeper (32 * suc m) 0 (put (fall n)) (λ k x a b. fall-ok n k x b) h.ok 0 (omega arith)) (suc m) (omega arith); words = small-walk (put (fall n)) (fall-small n) 0 e h.words }

  pub small-lowered : (n : ℕ) (ps : List Place) → SmallPlaces m ps → SmallPlaces m (map (low_place (lower n)) ps)
  small-lowered n [] h = tt
  small-lowered n (kept ∷ ps) h = (tt, small-lowered n ps h.1)
  small-lowered n (filled e ∷ ps) h = (lower-small n e h.0, small-lowered n ps h.1)

  pub small-drop : (j : ℕ) (ps : List Place) → SmallPlaces m ps → SmallPlaces m (drop j ps)
  small-drop zero ps h = h
  small-drop (suc j) [] h = h
  small-drop (suc j) (p ∷ ps) h = small-drop j ps h.1

  -- the declarations after the first j are filled, the expressions lowered
  module _ (ns : List ℕ) (names : are_names ns ≡ true) (most : length ns ≤ 32) (ps : List Place) (all : length ps ≡ length ns) (h : SmallPlaces m ps) (j n : ℕ) where
    abbrev qs : List Place
    qs = map (low_place (lower n)) (drop j ps)

    qs-few : length qs ≤ 32
    qs-few = let a = length-map (drop j ps) (low_place (lower n)) in let b = length-drop j ps in omega arith

    qs-small : SmallPlaces m qs
    qs-small = small-lowered n (drop j ps) (small-drop j ps h)

    pub partial-body : {d : ℕ} {f : Form} → Ok d pred f → d + m ≤ 63 → Ok 63 pred (subst (fill_for (map (low_place (lower n)) (drop j ps))) f)
    partial-body ok l = filled-body qs qs-few qs-small ok l
