-- Own words and declared names, from lists to positions of the row. Assumes nothing.
use mathlib.Core.Path.{◌≡◌, refl, ap, sym, ◌∙◌}
use mathlib.Core.Bool.{Bool, true, false, ◌&&◌}
use mathlib.Core.Logic.{⊎_elim}
use mathlib.Core.List.{List, [], ◌∷◌}
use Prim.Native.Nat.{ℕ, zero, suc, ◌+◌, ◌-◌, ◌≤◌, ◌<◌}
use native.Mathlib.Numerals.{add-one, sub-one}
use native.Mathlib.Omega.{arith}
use borrow.Author.Tests.{le-leb, leb-true}
use lib.Dec.{leb}
use lib.ListN.{length, get_or, drop, drop_of_length-le}
use lib.Seq.{drop-cons, drop-drop}
use Rattle.tree.specs.Form.{pick, between}
use Rattle.tree.specs.Tag.{Sort, expr, pred, Own, ask, kids, flags, wrong, own, own_of, shape_of}
use Rattle.form.specs.Decode.{Head, head, flagged, bad, add_word, add_name, only, names, read}
use Rattle.form.specs.Internal.Heads.{word_at, head_at, names_at}
use Rattle.tree.specs.declared.tag.Shape.{Shape}
use Rattle.tree.specs.declared.tag.Shape.TheVariants.{Unknown, Plain, Name, Value, Exprs, Preds, Apply, Compr, Quant, NotedCompr, NotedQuant}
use Rattle.std.specs.Prelude.{Option, Some, None}
use Rattle.form.specs.declared.head.Head as code
use Rattle.form.specs.declared.head.Head.TheVariants.{Kids, Noted}
use Rattle.form.proofs.DecodeLaws.{clash}
use Rattle.tree.proofs.Ranges.{split}

-- the words from a position on: none, or one and the words after it
pub gone : (row : List ℕ) (at : ℕ) → length row ≤ at → drop at row ≡ []
gone row at h = drop_of_length-le row h

pub here : (row : List ℕ) (at : ℕ) → at < length row → drop at row ≡ get_or row at 0 ∷ drop (at + 1) row
here row at h = rw (add-one, drop-cons row at 0) refl

pub between_in : (lo hi w : ℕ) → lo ≤ w → w ≤ hi → between lo hi w ≡ true
between_in lo hi w a b = rw (le-leb lo w a, le-leb w hi b)

-- the word asked for
pub word-is : (lo hi : ℕ) (l : List ℕ) (w : ℕ) → word_at lo hi l ≡ Some w → (ws : List ℕ) × (l ≡ w ∷ ws) × (between lo hi w ≡ true)
unfolding word_at
word-is lo hi [] w e = absurd (clash cc)
word-is lo hi (x ∷ l) w e = go (between lo hi x) refl e
  where
    go : (b : Bool) → between lo hi x ≡ b → pick b (Some x) None ≡ Some w → (ws : List ℕ) × (x ∷ l ≡ w ∷ ws) × (between lo hi w ≡ true)
    go true q e = let z : x ≡ w = cc in (l, rw z, rw z at q)
    go false q e = absurd (clash cc)

word-not : (lo hi : ℕ) (k : ℕ → Own) (l : List ℕ) → word_at lo hi l ≡ None → read (ask lo hi k) l ≡ bad
unfolding word_at read
word-not lo hi k [] e = refl
word-not lo hi k (x ∷ l) e = go (between lo hi x) e
  where
    go : (b : Bool) → pick b (Some x) None ≡ None → only b (add_word x (read (k x) l)) ≡ bad
    go true e = absurd (clash cc)
    go false e = refl

pub asked_in : (lo hi : ℕ) (row : List ℕ) (at w : ℕ) → word_at lo hi (drop at row) ≡ Some w → at < length row
unfolding word_at
asked_in lo hi row at w e = ⊎_elim (λ h. h) (λ h. let q : word_at lo hi (drop at row) ≡ None = rw (gone row at h) refl in absurd (clash cc)) (split (length row) at)

head-word : (at w : ℕ) (h : Head) → head_at at (add_word w h) ≡ head_at (at + 1) h
unfolding head_at
head-word at w (head o ds p e r) = ap (λ n. Some (Kids n p e (length ds))) (omega arith)
head-word at w (flagged o n p e r) = ap (λ z. Some (Noted z p e n)) (omega arith)
head-word at w bad = refl

-- after the first word
pub next-drop : (row : List ℕ) (at w : ℕ) (ws : List ℕ) → drop at row ≡ w ∷ ws → ws ≡ drop (at + 1) row
next-drop row at w ws e = rw (← drop-drop 1 at row, e)

module _ (lo hi : ℕ) (k : ℕ → Own) (row : List ℕ) (at : ℕ) where
  pub ask-go : (w : ℕ) → word_at lo hi (drop at row) ≡ Some w → head_at at (read (ask lo hi k) (drop at row)) ≡ head_at (at + 1) (read (k w) (drop (at + 1) row))
  unfolding read
  ask-go w e =
      let (ws, q, b) = word-is lo hi (drop at row) w e in
      rw (q, b, head-word, next-drop row at w ws q)

  pub ask-stop : word_at lo hi (drop at row) ≡ None → head_at at (read (ask lo hi k) (drop at row)) ≡ None
  unfolding head_at
  ask-stop e = rw (word-not lo hi k (drop at row) e)

pub no_kids : (at p e : ℕ) (l : List ℕ) → head_at at (read (kids 0 p e) l) ≡ Some (Kids at p e 0)
unfolding head_at read
no_kids at p e l = ap (λ n. Some (Kids n p e 0)) (omega arith)

pub no-flags : (at n p e : ℕ) (l : List ℕ) → head_at at (read (flags n p e) l) ≡ Some (Noted at p e n)
unfolding head_at read
no-flags at n p e l = ap (λ z. Some (Noted z p e n)) (omega arith)

-- names
names-word : (at w : ℕ) (h : Head) → names_at at (add_name w h) ≡ names_at (at + 1) h
unfolding names_at
names-word at w (head o ds p e r) = ap Some (omega arith)
names-word at w (flagged o n p e r) = refl
names-word at w bad = refl

module _ (row : List ℕ) where
  pub names_more : (n p w : ℕ) → 0 < n → word_at 0 65535 (drop p row) ≡ Some w → names_at p (names n 0 0 (drop p row)) ≡ names_at (p + 1) (names (n - 1) 0 0 (drop (p + 1) row))
  names_more zero p w h e = absurd (omega arith)
  names_more (suc n) p w h e =
      let (ws, q, b) = word-is 0 65535 (drop p row) w e in
      rw (q, b, names-word, next-drop row p w ws q, sub-one)

  names-wrong : (n : ℕ) (l : List ℕ) → word_at 0 65535 l ≡ None → names (suc n) 0 0 l ≡ bad
  unfolding word_at
  names-wrong n [] e = refl
  names-wrong n (x ∷ l) e = go (between 0 65535 x) e
    where
      go : (b : Bool) → pick b (Some x) None ≡ None → only b (add_name x (names n 0 0 l)) ≡ bad
      go true e = absurd (clash cc)
      go false e = refl

  pub names-stop : (n p : ℕ) → 0 < n → word_at 0 65535 (drop p row) ≡ None → names_at p (names n 0 0 (drop p row)) ≡ None
  unfolding names_at
  names-stop zero p h e = absurd (omega arith)
  names-stop (suc n) p h e = rw (names-wrong n (drop p row) e)

pub names-none : (n p : ℕ) (l : List ℕ) → n ≤ 0 → names_at p (names n 0 0 l) ≡ Some p
unfolding names_at
names-none zero p l h = ap Some (omega arith)
names-none (suc n) p l h = absurd (omega arith)

-- n names, whatever follows them
abbrev with_kids : ℕ → ℕ → Head → Head
with_kids p e (head o ds a b r) = head o ds p e r
with_kids p e (flagged o n a b r) = bad
with_kids p e bad = bad

with-name : (p e w : ℕ) (b : Bool) (h : Head) → only b (add_name w (with_kids p e h)) ≡ with_kids p e (only b (add_name w h))
with-name p e w true (head o ds a b r) = refl
with-name p e w true (flagged o n a b r) = refl
with-name p e w true bad = refl
with-name p e w false h = refl

names-with : (n p e : ℕ) (l : List ℕ) → names n p e l ≡ with_kids p e (names n 0 0 l)
names-with zero p e l = refl
names-with (suc n) p e [] = refl
names-with (suc n) p e (w ∷ l) = rw (names-with n p e l) (with-name p e w (between 0 65535 w) (names n 0 0 l))

abbrev Long : ℕ → Head → Type 0
Long n (head o ds a b r) = (o ≡ []) × (length ds ≡ n)
Long n (flagged o m a b r) = ⊥
Long n bad = Unit {0}

long-name : (n w : ℕ) (b : Bool) (h : Head) → Long n h → Long (suc n) (only b (add_name w h))
long-name n w true (head o ds a b r) q = (q.0, ap suc q.1)
long-name n w true (flagged o m a b r) q = tt
long-name n w true bad q = tt
long-name n w false h q = tt

names-long : (n p e : ℕ) (l : List ℕ) → Long n (names n p e l)
names-long zero p e l = (refl, refl)
names-long (suc n) p e [] = tt
names-long (suc n) p e (w ∷ l) = long-name n w (between 0 65535 w) (names n p e l) (names-long n p e l)

with-end : (n p e at q : ℕ) (h : Head) → Long n h → names_at at h ≡ Some q → head_at at (with_kids p e h) ≡ Some (Kids q p e n)
unfolding head_at names_at
with-end n p e at q (head o ds a b r) g k =
    let x : at + length ds ≡ q = cc in
    rw g.0 (rw g.1 (ap (λ z. Some (Kids z p e n)) (let y = g.1 in omega arith)))
with-end n p e at q (flagged o m a b r) g k = absurd g
with-end n p e at q bad g k = absurd (clash cc)

with-bad : (p e at : ℕ) (h : Head) → names_at at h ≡ None → head_at at (with_kids p e h) ≡ None
unfolding head_at names_at
with-bad p e at (head o ds a b r) k = absurd (clash cc)
with-bad p e at (flagged o m a b r) k = refl
with-bad p e at bad k = refl

pub names-go : (n p e at q : ℕ) (l : List ℕ) → names_at at (names n 0 0 l) ≡ Some q → head_at at (read (kids n p e) l) ≡ Some (Kids q p e n)
unfolding read
names-go n p e at q l k = rw (names-with n p e l) (with-end n p e at q (names n 0 0 l) (names-long n 0 0 l) k)

pub names-no : (n p e at : ℕ) (l : List ℕ) → names_at at (names n 0 0 l) ≡ None → head_at at (read (kids n p e) l) ≡ None
unfolding read
names-no n p e at l k = rw (names-with n p e l) (with-bad p e at (names n 0 0 l) k)

-- at most 32 declarations
abbrev Few : Own → Type 0
Few (ask lo hi k) = (w : ℕ) → between lo hi w ≡ true → Few (k w)
Few (kids n p e) = n ≤ 32
Few (flags n p e) = n ≤ 32
Few wrong = Unit {0}

abbrev Fewer : Head → Type 0
Fewer (head o ds p e r) = length ds ≤ 32
Fewer (flagged o n p e r) = n ≤ 32
Fewer bad = Unit {0}

fewer-word : (w : ℕ) (b : Bool) (h : Head) → (b ≡ true → Fewer h) → Fewer (only b (add_word w h))
fewer-word w true (head o ds p e r) q = q refl
fewer-word w true (flagged o n p e r) q = q refl
fewer-word w true bad q = tt
fewer-word w false h q = tt

fewer-names : (n : ℕ) (h : Head) → n ≤ 32 → Long n h → Fewer h
fewer-names n (head o ds p e r) q g = let y = g.1 in omega arith
fewer-names n (flagged o m p e r) q g = absurd g
fewer-names n bad q g = tt

few-read : (k : Own) (l : List ℕ) → Few k → Fewer (read k l)
unfolding read
few-read (ask lo hi k) [] f = tt
few-read (ask lo hi k) (w ∷ l) f = fewer-word w (between lo hi w) (read (k w) l) (λ b. few-read (k w) l (f w b))
few-read (kids n p e) l f = fewer-names n (names n p e l) f (names-long n p e l)
few-read (flags n p e) l f = f
few-read wrong l f = tt

between-high : (lo hi w : ℕ) → between lo hi w ≡ true → w ≤ hi
between-high lo hi w e = go (leb lo w) (leb w hi) refl e
  where
    go : (a b : Bool) → leb w hi ≡ b → (a && b) ≡ true → w ≤ hi
    go true true q e = leb-true w hi q
    go true false q e = absurd (clash cc)
    go false b q e = absurd (clash cc)

few-own : (s : Shape) → Few (own_of s)
unfolding own_of
few-own Unknown = tt
few-own (Plain p e) = omega arith
few-own Name = λ w b. omega arith
few-own Value = λ w b. omega arith
few-own (Exprs m) = λ w b. omega arith
few-own (Preds m) = λ w b. omega arith
few-own Apply = λ v c w b. omega arith
few-own Compr = λ v c w b. between-high 1 32 w b
few-own Quant = λ w b. between-high 1 32 w b
few-own NotedCompr = λ v c w b. between-high 1 32 w b
few-own NotedQuant = λ w b. between-high 1 32 w b

few_head : (b p x y z : ℕ) (h : Head) → Fewer h → head_at b h ≡ Some (Kids p x y z) → z ≤ 32
unfolding head_at
few_head b p x y z (head o ds p' e' r) f e = let q : length ds ≡ z = cc in omega arith
few_head b p x y z (flagged o n p' e' r) f e = absurd (clash cc)
few_head b p x y z bad f e = absurd (clash cc)

few-noted : (b p x y z : ℕ) (h : Head) → Fewer h → head_at b h ≡ Some (Noted p x y z) → z ≤ 32
unfolding head_at
few-noted b p x y z (head o ds p' e' r) f e = absurd (clash cc)
few-noted b p x y z (flagged o n p' e' r) f e = let q : n ≡ z = cc in omega arith
few-noted b p x y z bad f e = absurd (clash cc)

pub few : (b p x y z : ℕ) (s : Sort) (t : ℕ) (l : List ℕ) {h : Option code.Head} → h ≡ head_at b (read (own s t) l) → h ≡ Some (Kids p x y z) → z ≤ 32
unfolding own
few b p x y z s t l e k = few_head b p x y z (read (own s t) l) (few-read (own_of (shape_of s t)) l (few-own (shape_of s t))) (sym e ∙ k)

pub few-flags : (b p x y z : ℕ) (s : Sort) (t : ℕ) (l : List ℕ) {h : Option code.Head} → h ≡ head_at b (read (own s t) l) → h ≡ Some (Noted p x y z) → z ≤ 32
unfolding own
few-flags b p x y z s t l e k = few-noted b p x y z (read (own s t) l) (few-read (own_of (shape_of s t)) l (few-own (shape_of s t))) (sym e ∙ k)

-- the shape of a tag whose sort a flag says
pub shape-yes : (b : Bool) (tag : ℕ) (r : Shape) → b ≡ true → r ≡ shape_of expr tag → r ≡ shape_of (pick b expr pred) tag
shape-yes b tag r h e = rw h e

pub shape-not : (b : Bool) (tag : ℕ) (r : Shape) → b ≡ false → r ≡ shape_of pred tag → r ≡ shape_of (pick b expr pred) tag
shape-not b tag r h e = rw h e

-- the head of a tag from the head of its shape
pub shape-head : (b : ℕ) (s : Sort) (t : ℕ) (l : List ℕ) {sh : Shape} {h : Option code.Head} → sh ≡ shape_of s t → h ≡ head_at b (read (own_of sh) l) → h ≡ head_at b (read (own s t) l)
unfolding own
shape-head b s t l e k = rw e at k

pub plain-head : (b : ℕ) (s : Sort) (t p x : ℕ) (l : List ℕ) {sh : Shape} → sh ≡ shape_of s t → sh ≡ Plain p x → (Some (Kids b p x 0)) ≡ head_at b (read (own s t) l)
unfolding own own_of
plain-head b s t p x l e k = rw (← e, k) (sym (no_kids b p x l))

fewer-read : (s : Sort) (t : ℕ) (l o ds : List ℕ) (p e : ℕ) (r : List ℕ) (h : Head) → read (own s t) l ≡ h → h ≡ head o ds p e r → Fewer h → length ds ≤ 32
fewer-read s t l o ds p e r (head o' ds' p' e' r') q k f = let z : ds' ≡ ds = cc in rw z at f
fewer-read s t l o ds p e r (flagged o' n p' e' r') q k f = absurd (clash cc)
fewer-read s t l o ds p e r bad q k f = absurd (clash cc)

pub few-names : (s : Sort) (t : ℕ) (l o ds : List ℕ) (p e : ℕ) (r : List ℕ) → read (own s t) l ≡ head o ds p e r → length ds ≤ 32
unfolding own
few-names s t l o ds p e r q = fewer-read s t l o ds p e r (read (own s t) l) refl q (few-read (own_of (shape_of s t)) l (few-own (shape_of s t)))

pub head-rises : (b p x y w : ℕ) (z : Head) → head_at b z ≡ Some (Kids p x y w) → b < p + 1
unfolding head_at
head-rises b p x y w (head o ds x' y' l) e = let ep : p ≡ b + (length o + length ds) = cc in omega arith
head-rises b p x y w (flagged o n x' y' l) e = absurd (clash cc)
head-rises b p x y w bad e = absurd (clash cc)

pub flags-rise : (b p x y w : ℕ) (z : Head) → head_at b z ≡ Some (Noted p x y w) → b < p + 1
unfolding head_at
flags-rise b p x y w (head o ds x' y' l) e = absurd (clash cc)
flags-rise b p x y w (flagged o n x' y' l) e = let ep : p ≡ b + length o = cc in omega arith
flags-rise b p x y w bad e = absurd (clash cc)

fewer-flags : (s : Sort) (t : ℕ) (l o : List ℕ) (n p e : ℕ) (r : List ℕ) (h : Head) → read (own s t) l ≡ h → h ≡ flagged o n p e r → Fewer h → n ≤ 32
fewer-flags s t l o n p e r (head o' ds' p' e' r') q k f = absurd (clash cc)
fewer-flags s t l o n p e r (flagged o' n' p' e' r') q k f = let z : n' ≡ n = cc in rw z at f
fewer-flags s t l o n p e r bad q k f = absurd (clash cc)

pub few-decls : (s : Sort) (t : ℕ) (l o : List ℕ) (n p e : ℕ) (r : List ℕ) → read (own s t) l ≡ flagged o n p e r → n ≤ 32
unfolding own
few-decls s t l o n p e r q = fewer-flags s t l o n p e r (read (own s t) l) refl q (few-read (own_of (shape_of s t)) l (few-own (shape_of s t)))
