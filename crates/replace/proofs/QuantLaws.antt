-- A row that is a quantified predicate: its tag, its number of declarations, their names, its body with the body's marks. Assumes nothing.
use mathlib.Core.Path.{◌≡◌, refl, ap, sym, ◌∙◌}
use mathlib.Core.Bool.{Bool, true, false, ◌||◌}
use mathlib.Core.List.{List, [], ◌∷◌, ◌++◌, append_assoc, append-nil, map}
use Prim.Native.Nat.{ℕ, zero, suc, ◌+◌, ◌≤◌, ◌<◌}
use native.Mathlib.Omega.{arith}
use borrow.Author.Tests.{eqb-true, leb-true, le-ltb}
use lib.Dec.{leb, eqb, ltb}
use lib.ListN.{length, get_or, drop, length-append}
use lib.Seq.{drop_at}
use Rattle.tree.specs.Form.{free, bound, Form, leaf, node, noted, Decls, Forms, none, more, pick, between, encode, encode_decls, encode_all}
use Rattle.tree.specs.Tag.{Sort, pred, ask, kids, own, own_of, shape_of, pred_tags, sorts}
use Rattle.form.specs.Decode.{Head, head, flagged, bad, add_word, add_name, only, names, read, is_leaf, Whole, one, not-one, row_form, found, as_sort, form_of}
use Rattle.form.specs.declared.answer.Kind.TheVariants.{Predicate}
use Rattle.form.proofs.DecodeLaws.{clash, no-flagged, Ok, ok-node, ok-noted, OkAll, ok-none, ok-more}
use Rattle.shift.specs.Internal.Items.{items, apart}
use Rattle.rules.proofs.WalkLaws.{and_left, and_right}
use Rattle.shift.proofs.RowLaws.{items_of, marks_of, zeros, zeros-length, items-encode}
use Rattle.shift.proofs.WordwiseLaws.{apart-encode}
use Rattle.shift.proofs.CheckedLaws.{Checked}
use Rattle.rules.specs.Fill.{unnoted, quantifier, other, quantified}
use Rattle.replace.specs.Internal.Pieces.{declared_in}

-- a word or a name was read: what it was, and what was read after it
pub only-word : (b : Bool) (w : ℕ) (h : Head) (o ds : List ℕ) (p e : ℕ) (r : List ℕ) → only b (add_word w h) ≡ head o ds p e r → (b ≡ true) × (o' : List ℕ) × (w ∷ o' ≡ o) × (h ≡ head o' ds p e r)
only-word true w (head o' ds' p' e' r') o ds p e r q = (refl, o', cc, cc)
only-word true w (flagged o' n p' e' r') o ds p e r q = absurd (clash cc)
only-word true w bad o ds p e r q = absurd (clash cc)
only-word false w h o ds p e r q = absurd (clash cc)

only-named : (b : Bool) (w : ℕ) (h : Head) (o ds : List ℕ) (p e : ℕ) (r : List ℕ) → only b (add_name w h) ≡ head o ds p e r → (ds' : List ℕ) × (w ∷ ds' ≡ ds) × (h ≡ head o ds' p e r)
only-named true w (head o' ds' p' e' r') o ds p e r q = (ds', cc, cc)
only-named true w (flagged o' n p' e' r') o ds p e r q = absurd (clash cc)
only-named true w bad o ds p e r q = absurd (clash cc)
only-named false w h o ds p e r q = absurd (clash cc)

pub names-count : (n p e : ℕ) (ws o ds : List ℕ) (p' e' : ℕ) (r : List ℕ) → names n p e ws ≡ head o ds p' e' r → (o ≡ []) × (length ds ≡ n) × (p' ≡ p) × (e' ≡ e)
names-count zero p e ws o ds p' e' r q =
    let a : [] ≡ o = cc in
    let b : [] ≡ ds = cc in
    let c : p ≡ p' = cc in
    let d : e ≡ e' = cc in
    (sym a, ap length (sym b), sym c, sym d)
names-count (suc n) p e [] o ds p' e' r q = absurd (clash cc)
names-count (suc n) p e (w ∷ ws) o ds p' e' r q =
    let (ds', a, h) = only-named (between 0 65535 w) w (names n p e ws) o ds p' e' r q in
    let (x, y, z, v) = names-count n p e ws o ds' p' e' r h in
    (x, ap length (sym a) ∙ ap suc y, z, v)

-- what was read after a quantifier's tag
pub record Heading (o ds : List ℕ) (p e : ℕ) : Type 0 where
  pub words : o ≡ length ds ∷ []
  pub least : 1 ≤ length ds
  pub most : length ds ≤ 32
  pub preds : p ≡ 1
  pub exprs : e ≡ 0

heading-of : (w : ℕ) (o o' ds : List ℕ) (p e : ℕ) → between 1 32 w ≡ true → w ∷ o' ≡ o → (o' ≡ []) × (length ds ≡ w) × (p ≡ 1) × (e ≡ 0) → Heading o ds p e
heading-of w o o' ds p e b x (z, n, s, t) =
    let l = leb-true 1 w (and_left (leb 1 w) (leb w 32) b) in
    let m = leb-true w 32 (and_right (leb 1 w) (leb w 32) b) in
    record { words = sym x ∙ rw (z, n); least = omega arith; most = omega arith; preds = s; exprs = t }

read-heading : (ws o ds : List ℕ) (p e : ℕ) (r : List ℕ) → read (ask 1 32 (λ n. kids n 1 0)) ws ≡ head o ds p e r → Heading o ds p e
unfolding read
read-heading [] o ds p e r q = absurd (clash cc)
read-heading (w ∷ ws) o ds p e r q =
    let (b, o', x, h) = only-word (between 1 32 w) w (names w 1 0 ws) o ds p e r q in
    heading-of w o o' ds p e b x (names-count w 1 0 ws o' ds p e r h)

tag-851 : own pred 851 ≡ ask 1 32 (λ n. kids n 1 0)
unfolding own own_of shape_of pred_tags
tag-851 = refl

tag-852 : own pred 852 ≡ ask 1 32 (λ n. kids n 1 0)
unfolding own own_of shape_of pred_tags
tag-852 = refl

pub tag-own : (t : ℕ) → (eqb t 851 || eqb t 852) ≡ true → own pred t ≡ ask 1 32 (λ n. kids n 1 0)
tag-own t h = go (eqb t 851) (eqb t 852) refl refl h
  where
    go : (a b : Bool) → eqb t 851 ≡ a → eqb t 852 ≡ b → (a || b) ≡ true → own pred t ≡ ask 1 32 (λ n. kids n 1 0)
    go true b x y z = rw (eqb-true t 851 x) tag-851
    go false true x y z = rw (eqb-true t 852 y) tag-852
    go false false x y z = absurd (clash cc)

pub tag-node : (t : ℕ) → (eqb t 851 || eqb t 852) ≡ true → is_leaf t ≡ false
tag-node t h = go (eqb t 851) (eqb t 852) refl refl h
  where
    go : (a b : Bool) → eqb t 851 ≡ a → eqb t 852 ≡ b → (a || b) ≡ true → is_leaf t ≡ false
    go true b x y z = rw (eqb-true t 851 x)
    go false true x y z = rw (eqb-true t 852 y)
    go false false x y z = absurd (clash cc)

pub tag-heading : (t : ℕ) (ws o ds : List ℕ) (p e : ℕ) (r : List ℕ) → (eqb t 851 || eqb t 852) ≡ true → read (own pred t) ws ≡ head o ds p e r → Heading o ds p e
tag-heading t ws o ds p e r h q = read-heading ws o ds p e r (rw (tag-own t h) at q)

-- its declarations have no flags
never-flagged : (ws o : List ℕ) (n p e : ℕ) (r : List ℕ) → read (ask 1 32 (λ n. kids n 1 0)) ws ≡ flagged o n p e r → ⊥
unfolding read
never-flagged [] o n p e r q = clash cc
never-flagged (w ∷ ws) o n p e r q = go (between 1 32 w) (names w 1 0 ws) refl q
  where
    go : (b : Bool) (h : Head) → names w 1 0 ws ≡ h → only b (add_word w h) ≡ flagged o n p e r → ⊥
    go true (head o' ds p' e' r') k q = clash cc
    go true (flagged o' m p' e' r') k q = no-flagged w 1 0 ws o' m p' e' r' k
    go true bad k q = clash cc
    go false h k q = clash cc

pub tag-flagged : (t : ℕ) (ws o : List ℕ) (n p e : ℕ) (r : List ℕ) → (eqb t 851 || eqb t 852) ≡ true → read (own pred t) ws ≡ flagged o n p e r → ⊥
tag-flagged t ws o n p e r h q = never-flagged ws o n p e r (rw (tag-own t h) at q)

one-kid : {d : ℕ} {ks : Forms} → OkAll d (pred ∷ []) ks → (b : Form) × (ks ≡ more b none) × Ok d pred b
one-kid (ok-more {f = f} h ok-none) = (f, refl, h)

-- a row that is a quantified predicate
pub record Quant (f : Form) : Type 0 where
  pub tag : ℕ
  pub decls : List ℕ
  pub body : Form
  pub is : quantified f ≡ quantifier tag (map unnoted decls) body
  pub which : (eqb tag 851 || eqb tag 852) ≡ true
  pub form : f ≡ node tag (length decls ∷ []) decls (more body none)
  pub least : 1 ≤ length decls
  pub most : length decls ≤ 32
  pub ok : Ok 63 pred body

kid-quant : (t : ℕ) (o ds : List ℕ) (p e : ℕ) (ks : Forms) → (eqb t 851 || eqb t 852) ≡ true → Heading o ds p e → OkAll 63 (sorts p e) ks → Quant (node t o ds ks)
unfolding quantified
kid-quant t o ds p e ks h g w =
    let (b, k, ok) = one-kid (rw (g.preds, g.exprs) at w) in
    go b k ok
  where
    go : (b : Form) → ks ≡ more b none → Ok 63 pred b → Quant (node t o ds ks)
    go b k ok = record { tag = t; decls = ds; body = b; is = rw (k, h); which = h; form = rw (k, g.words); least = g.least; most = g.most; ok = ok }

-- the number of declarations as the code finds it
dec-yes : (t n : ℕ) (ws : List ℕ) → (eqb t 851 || eqb t 852) ≡ true → declared_in (t ∷ n ∷ ws) ≡ n
unfolding declared_in
dec-yes t n ws h = rw (le-ltb (length (t ∷ n ∷ ws)) 2 (omega arith)) (go (eqb t 851) (eqb t 852) h)
  where
    go : (a b : Bool) → (a || b) ≡ true → pick a n (pick b n 0) ≡ n
    go true b e = refl
    go false true e = refl
    go false false e = absurd (clash cc)

dec-no : (t : ℕ) (ws : List ℕ) → (eqb t 851 || eqb t 852) ≡ false → declared_in (t ∷ ws) ≡ 0
unfolding declared_in
dec-no t ws h = go (ltb (length (t ∷ ws)) 2) (eqb t 851) (eqb t 852) (get_or (t ∷ ws) 1 0) h
  where
    go : (c a b : Bool) (n : ℕ) → (a || b) ≡ false → pick c 0 (pick a n (pick b n 0)) ≡ 0
    go true a b n e = refl
    go false true b n e = absurd (clash cc)
    go false false true n e = absurd (clash cc)
    go false false false n e = refl

pub quant-by-tag : {f : Form} → Ok 64 pred f → (eqb (get_or (encode f) 0 0) 851 || eqb (get_or (encode f) 0 0) 852) ≡ true → Quant f
unfolding encode
quant-by-tag (ok-node {t = t} {o = o} {ds = ds} {p = p} {e = e} {ks = ks} l r w) q = kid-quant t o ds p e ks q (tag-heading t (o ++ (ds ++ [])) o ds p e [] q (r [])) w
quant-by-tag (ok-noted {t = t} {o = o} a r v w) q = absurd (tag-flagged t (o ++ []) o _ _ _ [] q (r []))

pub is-quant : {f : Form} → Ok 64 pred f → 0 < declared_in (encode f) → Quant f
unfolding encode
is-quant (ok-node {t = t} {o = o} {ds = ds} {p = p} {e = e} {ks = ks} l r w) h = go (eqb t 851 || eqb t 852) refl
  where
    go : (b : Bool) → (eqb t 851 || eqb t 852) ≡ b → Quant (node t o ds ks)
    go true q = quant-by-tag (ok-node {t = t} {o = o} {ds = ds} {p = p} {e = e} {ks = ks} l r w) q
    go false q = let z = dec-no t (o ++ (ds ++ encode_all ks)) q in absurd (omega arith)
is-quant (ok-noted {t = t} {o = o} {ds = ds} {ks = ks} a r v w) h = go (eqb t 851 || eqb t 852) refl
  where
    go : (b : Bool) → (eqb t 851 || eqb t 852) ≡ b → Quant (noted t o ds ks)
    go true q = absurd (tag-flagged t (o ++ []) o _ _ _ [] q (r []))
    go false q = let z = dec-no t (o ++ (encode_decls ds ++ encode_all ks)) q in absurd (omega arith)

other_tag : (t : ℕ) (o ds : List ℕ) (ks : Forms) → (eqb t 851 || eqb t 852) ≡ false → quantified (node t o ds ks) ≡ other
unfolding quantified
other_tag t o ds none h = refl
other_tag t o ds (more f none) h = rw h
other_tag t o ds (more f (more g gs)) h = refl

other-noted : (t : ℕ) (o : List ℕ) (ds : Decls) (ks : Forms) → (eqb t 861 || eqb t 862) ≡ false → quantified (noted t o ds ks) ≡ other
unfolding quantified
other-noted t o ds none h = refl
other-noted t o ds (more f none) h = rw h
other-noted t o ds (more f (more g gs)) h = refl

-- where it does not begin with an annotated quantifier's tag
abbrev pub Unnoted : List ℕ → Type 0
Unnoted row = (eqb (get_or row 0 0) 861 || eqb (get_or row 0 0) 862) ≡ false

pub not-quant : {f : Form} → Ok 64 pred f → Unnoted (encode f) → declared_in (encode f) ≡ 0 → quantified f ≡ other
unfolding encode
not-quant (ok-noted {t = t} {o = o} {ds = ds} {ks = ks} a r v w) n h = other-noted t o ds ks n
not-quant (ok-node {t = t} {o = o} {ds = ds} {p = p} {e = e} {ks = ks} l r w) n h = go (eqb t 851 || eqb t 852) refl
  where
    go : (b : Bool) → (eqb t 851 || eqb t 852) ≡ b → quantified (node t o ds ks) ≡ other
    go true q =
        let g = tag-heading t (o ++ (ds ++ [])) o ds p e [] q (r []) in
        let n = g.least in
        let z : declared_in (t ∷ (o ++ (ds ++ encode_all ks))) ≡ length ds = rw g.words (dec-yes t (length ds) (ds ++ encode_all ks) q) in
        absurd (omega arith)
    go false q = other_tag t o ds ks q

some_words : (f : Form) → 0 < length (encode f)
unfolding encode
some_words (leaf (free n)) = omega arith
some_words (leaf (bound n)) = omega arith
some_words (node t o ds ks) = omega arith
some_words (noted t o ds ks) = omega arith

-- its row and its body's items
items-nil : (m : List ℕ) → items [] m ≡ []
unfolding items
items-nil m = refl

apart-nil : (lo : ℕ) (m : List ℕ) → apart lo [] m ≡ true
unfolding apart
apart-nil lo m = refl

module _ (t n u : ℕ) (ds : List ℕ) (b : Form) (rest : List ℕ) (e : n ≡ length ds) where
  abbrev quant_node : Form
  quant_node = node t (length ds ∷ []) ds (more b none)

  node-words : drop (2 + n) (encode quant_node) ≡ encode b ++ []
  unfolding encode
  node-words = let k : 2 + n ≡ suc (suc n) = omega arith in rw (k, drop_at ds (encode b ++ []) n (sym e))

  node-marks : drop (2 + n) (marks_of u quant_node ++ rest) ≡ marks_of (n + u) b ++ rest
  unfolding marks_of
  node-marks =
      let k : 2 + n ≡ suc (suc n) = omega arith in
      let x : (zeros ds ++ (marks_of (length ds + u) b ++ [])) ++ rest ≡ zeros ds ++ (marks_of (n + u) b ++ rest) = rw (append_assoc (zeros ds), append-nil, ← e) in
      rw (k, x, drop_at (zeros ds) (marks_of (n + u) b ++ rest) n (zeros-length ds ∙ sym e))

  node-apart : apart n (drop (2 + n) (encode quant_node)) (drop (2 + n) (marks_of u quant_node ++ rest)) ≡ true
  node-apart = rw (node-words, node-marks) (apart-encode n (n + u) b [] rest (omega arith) ∙ apart-nil n rest)

  node-items : items (drop (2 + n) (encode quant_node)) (drop (2 + n) (marks_of u quant_node ++ rest)) ≡ items_of (n + u) b
  node-items = rw (node-words, node-marks) (items-encode (n + u) b [] rest ∙ (rw (items-nil rest) (append-nil (items_of (n + u) b))))

module _ (f : Form) (y : Quant f) where
  pub quant-count : declared_in (encode f) ≡ length y.decls
  unfolding encode
  quant-count = rw y.form (dec-yes y.tag (length y.decls) (y.decls ++ (encode y.body ++ [])) y.which)

  pub quant-tag : get_or (encode f) 0 0 ≡ y.tag
  unfolding encode
  quant-tag = rw y.form

  pub quant-names : drop 2 (encode f) ≡ y.decls ++ encode y.body
  unfolding encode
  quant-names = rw (y.form, append-nil)

  pub quant-more : 2 + length y.decls < length (encode f)
  unfolding encode
  quant-more = let b = some_words y.body in rw (y.form, append-nil, length-append y.decls) (omega arith)

  pub quant-long : 2 + length y.decls ≤ length (encode f)
  quant-long = let l = quant-more in omega arith

  -- under u declarations
  pub quant-items-in : (n u : ℕ) (rest : List ℕ) → n ≡ length y.decls → items (drop (2 + n) (encode f)) (drop (2 + n) (marks_of u f ++ rest)) ≡ items_of (n + u) y.body
  quant-items-in n u rest e = rw y.form (node-items y.tag n u y.decls y.body rest e)

-- the row's form
pub pred-sort : (row : List ℕ) (s : Sort) (f : Form) → form_of Predicate row ≡ found s f → s ≡ pred
unfolding form_of
pred-sort row s f e = go (row_form pred row) e
  where
    go : (w : Whole) → as_sort pred w ≡ found s f → s ≡ pred
    go (one g) e = cc
    go not-one e = absurd (clash cc)

module _ (row m : List ℕ) (k : ℕ) (x : Checked Predicate row m k) where
  pub form-ok : Ok 64 pred x.form
  form-ok = rw (pred-sort row x.sort x.form x.is_found) at x.ok

  pub no-quant : (n : ℕ) → Unnoted row → n ≡ declared_in row → n ≡ 0 → quantified x.form ≡ other
  no-quant n u e z = not-quant form-ok (rw x.words at u) (ap declared_in (sym x.words) ∙ (sym e ∙ z))

  pub the-quant : (n : ℕ) → n ≡ declared_in row → (n ≡ 0 → ⊥) → Quant x.form
  the-quant n e z = let h : declared_in (encode x.form) ≡ n = ap declared_in (sym x.words) ∙ sym e in is-quant form-ok (pos n h z)
    where
      pos : (n : ℕ) → declared_in (encode x.form) ≡ n → (n ≡ 0 → ⊥) → 0 < declared_in (encode x.form)
      pos zero h z = absurd (z refl)
      pos (suc n) h z = omega arith

  pub the-count : (n : ℕ) → n ≡ declared_in row → (q : Quant x.form) → n ≡ length q.decls
  the-count n e q = e ∙ (ap declared_in x.words ∙ quant-count x.form q)

  pub the-length : (q : Quant x.form) → 2 + length q.decls ≤ length row
  the-length q = rw x.words (quant-long x.form q)
