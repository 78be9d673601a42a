-- A row is read back as the form that it was written from, and what is read was written so. Assumes nothing.
use mathlib.Core.Path.{◌≡◌, refl, ap, sym, ◌∙◌}
use mathlib.Core.Bool.{Bool, true, false}
use mathlib.Core.List.{List, [], ◌∷◌, ◌++◌, append_assoc, append-nil}
use Prim.Native.Nat.{ℕ, zero, suc, ◌+◌}
use native.Mathlib.Omega.{arith}
use borrow.Author.Tests.{ne_eqb}
use lib.ListN.{length, get_or, drop, length-append}
use lib.Seq.{drop-drop, drop-append_seam}
use Rattle.tree.specs.Form.{free, bound, Form, leaf, node, noted, Decls, undeclared, bare, typed, names_of, any_typed, Forms, none, more, pick, between, encode, encode_decls, encode_all}
use Rattle.tree.specs.Tag.{Sort, expr, pred, Own, ask, kids, flags, wrong, own, own_of, shape_of, expr_tags, pred_tags, sorts}
use Rattle.form.specs.Decode.{Head, head, flagged, bad, add_word, add_name, only, names, read, Got, got, no-form, Gots, gots, no-forms, leaf_at, is_leaf, make, add_form, close, chain, decode_all, GotDecl, got_bare, got_typed, no-decl, note_of, by_flag, decl_at, GotDecls, declared, no-decls, add_bare, add_typed, add_decl, decls, close_noted, with_decls, branch, decode}

pub clash : ◌≡◌ {A = ℕ} 0 1 → ⊥
clash z = omega arith

-- well-formed trees: of the sort, and at most so deep
mutual
  pub data Ok : ℕ → Sort → Form → Type 0 where
    ok-free : {d n : ℕ} → between 0 65535 n ≡ true → Ok (suc d) expr (leaf (free n))
    ok-bound : {d n : ℕ} → between 0 65535 n ≡ true → Ok (suc d) expr (leaf (bound n))
    ok-node : {d : ℕ} {s : Sort} {t : ℕ} {o ds : List ℕ} {p e : ℕ} {ks : Forms}
        → is_leaf t ≡ false → ((x : List ℕ) → read (own s t) (o ++ (ds ++ x)) ≡ head o ds p e x) → OkAll d (sorts p e) ks → Ok (suc d) s (node t o ds ks)
    ok-noted : {d : ℕ} {s : Sort} {t : ℕ} {o : List ℕ} {ds : Decls} {p e : ℕ} {ks : Forms}
        → any_typed ds ≡ true → ((x : List ℕ) → read (own s t) (o ++ x) ≡ flagged o (length (names_of ds)) p e x) → OkDecls d ds → OkAll d (sorts p e) ks → Ok (suc d) s (noted t o ds ks)

  pub data OkDecls : ℕ → Decls → Type 0 where
    ok_end : {d : ℕ} → OkDecls d undeclared
    ok-bare : {d n : ℕ} {ds : Decls} → between 0 65535 n ≡ true → OkDecls d ds → OkDecls d (bare n ds)
    ok-typed : {d n : ℕ} {f : Form} {ds : Decls} → between 0 65535 n ≡ true → Ok d expr f → OkDecls d ds → OkDecls d (typed n f ds)

  pub data OkAll : ℕ → List Sort → Forms → Type 0 where
    ok-none : {d : ℕ} → OkAll d [] none
    ok-more : {d : ℕ} {s : Sort} {ss : List Sort} {f : Form} {fs : Forms} → Ok d s f → OkAll d ss fs → OkAll d (s ∷ ss) (more f fs)

-- a word was read: what it was, and what was read after it
pub only-head : (b : Bool) (w : ℕ) (h : Head) (o ds : List ℕ) (p e : ℕ) (r : List ℕ) → only b (add_word w h) ≡ head o ds p e r
    → (b ≡ true) × (o' : List ℕ) × (w ∷ o' ≡ o) × (h ≡ head o' ds p e r)
only-head true w (head o' ds' p' e' r') o ds p e r q = (refl, o', cc, cc)
only-head true w (flagged o' n p' e' r') o ds p e r q = absurd (clash cc)
only-head true w bad o ds p e r q = absurd (clash cc)
only-head false w h o ds p e r q = absurd (clash cc)

pub only-name : (b : Bool) (w : ℕ) (h : Head) (o ds : List ℕ) (p e : ℕ) (r : List ℕ) → only b (add_name w h) ≡ head o ds p e r
    → (b ≡ true) × (ds' : List ℕ) × (w ∷ ds' ≡ ds) × (h ≡ head o ds' p e r)
only-name true w (head o' ds' p' e' r') o ds p e r q = (refl, ds', cc, cc)
only-name true w (flagged o' n p' e' r') o ds p e r q = absurd (clash cc)
only-name true w bad o ds p e r q = absurd (clash cc)
only-name false w h o ds p e r q = absurd (clash cc)

name-step : (n p' e' w : ℕ) (ws o ds ds' : List ℕ) (p e : ℕ) (r : List ℕ) → between 0 65535 w ≡ true → w ∷ ds' ≡ ds
    → (o ≡ []) × (ws ≡ ds' ++ r) × ((x : List ℕ) → names n p' e' (ds' ++ x) ≡ head [] ds' p e x)
    → (o ≡ []) × (w ∷ ws ≡ ds ++ r) × ((x : List ℕ) → names (suc n) p' e' (ds ++ x) ≡ head [] ds p e x)
name-step n p' e' w ws o ds ds' p e r b q h = rw (← q) (h.0, ap (λ z. w ∷ z) h.1, λ x. rw (b, h.2 x))

names-exact : (n p' e' : ℕ) (ws o ds : List ℕ) (p e : ℕ) (r : List ℕ) → names n p' e' ws ≡ head o ds p e r
    → (o ≡ []) × (ws ≡ ds ++ r) × ((x : List ℕ) → names n p' e' (ds ++ x) ≡ head [] ds p e x)
names-exact zero p' e' ws o ds p e r q =
    let a : [] ≡ o = cc in
    let b : [] ≡ ds = cc in
    let c : p' ≡ p = cc in
    let d : e' ≡ e = cc in
    rw (← a, ← b, ← c, ← d) (refl, cc, λ x. refl)
names-exact (suc n) p' e' [] o ds p e r q = absurd (clash cc)
names-exact (suc n) p' e' (w ∷ ws) o ds p e r q =
    let (b, ds', q', h) = only-name (between 0 65535 w) w (names n p' e' ws) o ds p e r q in
    name-step n p' e' w ws o ds ds' p e r b q' (names-exact n p' e' ws o ds' p e r h)

read_step : (lo hi : ℕ) (k : ℕ → Own) (w : ℕ) (ws o o' ds : List ℕ) (p e : ℕ) (r : List ℕ) → between lo hi w ≡ true → w ∷ o' ≡ o
    → (ws ≡ o' ++ (ds ++ r)) × ((x : List ℕ) → read (k w) (o' ++ (ds ++ x)) ≡ head o' ds p e x)
    → (w ∷ ws ≡ o ++ (ds ++ r)) × ((x : List ℕ) → read (ask lo hi k) (o ++ (ds ++ x)) ≡ head o ds p e x)
unfolding read
read_step lo hi k w ws o o' ds p e r b q h = rw (← q) (ap (λ z. w ∷ z) h.0, λ x. rw (b, h.1 x))

read_names : (n p' e' : ℕ) (ws o ds : List ℕ) (p e : ℕ) (r : List ℕ)
    → (o ≡ []) × (ws ≡ ds ++ r) × ((x : List ℕ) → names n p' e' (ds ++ x) ≡ head [] ds p e x)
    → (ws ≡ o ++ (ds ++ r)) × ((x : List ℕ) → read (kids n p' e') (o ++ (ds ++ x)) ≡ head o ds p e x)
unfolding read
read_names n p' e' ws o ds p e r h = rw h.0 (h.1, h.2)

-- the words that were read are the row's first, and are read so whatever follows
pub read-exact : (k : Own) (ws o ds : List ℕ) (p e : ℕ) (r : List ℕ) → read k ws ≡ head o ds p e r
    → (ws ≡ o ++ (ds ++ r)) × ((x : List ℕ) → read k (o ++ (ds ++ x)) ≡ head o ds p e x)
unfolding read
read-exact (ask lo hi k) [] o ds p e r q = absurd (clash cc)
read-exact (ask lo hi k) (w ∷ ws) o ds p e r q =
    let (b, o', q', h) = only-head (between lo hi w) w (read (k w) ws) o ds p e r q in
    read_step lo hi k w ws o o' ds p e r b q' (read-exact (k w) ws o' ds p e r h)
read-exact (kids n p' e') ws o ds p e r q = read_names n p' e' ws o ds p e r (names-exact n p' e' ws o ds p e r q)
read-exact (flags n p' e') ws o ds p e r q = absurd (clash cc)
read-exact wrong ws o ds p e r q = absurd (clash cc)

-- the same where the declarations have flags
pub only-flagged : (b : Bool) (w : ℕ) (h : Head) (o : List ℕ) (n p e : ℕ) (r : List ℕ) → only b (add_word w h) ≡ flagged o n p e r
    → (b ≡ true) × (o' : List ℕ) × (w ∷ o' ≡ o) × (h ≡ flagged o' n p e r)
only-flagged true w (head o' ds' p' e' r') o n p e r q = absurd (clash cc)
only-flagged true w (flagged o' n' p' e' r') o n p e r q = (refl, o', cc, cc)
only-flagged true w bad o n p e r q = absurd (clash cc)
only-flagged false w h o n p e r q = absurd (clash cc)

pub no-flagged : (n p' e' : ℕ) (ws o : List ℕ) (m p e : ℕ) (r : List ℕ) → names n p' e' ws ≡ flagged o m p e r → ⊥
no-flagged zero p' e' ws o m p e r q = clash cc
no-flagged (suc n) p' e' [] o m p e r q = clash cc
no-flagged (suc n) p' e' (w ∷ ws) o m p e r q = go (between 0 65535 w) (names n p' e' ws) q
  where
    go : (b : Bool) (h : Head) → only b (add_name w h) ≡ flagged o m p e r → ⊥
    go true (head o' ds' p'' e'' r') q = clash cc
    go true (flagged o' n' p'' e'' r') q = clash cc
    go true bad q = clash cc
    go false h q = clash cc

flag-step : (lo hi : ℕ) (k : ℕ → Own) (w : ℕ) (ws o o' : List ℕ) (n p e : ℕ) (r : List ℕ) → between lo hi w ≡ true → w ∷ o' ≡ o
    → (ws ≡ o' ++ r) × ((x : List ℕ) → read (k w) (o' ++ x) ≡ flagged o' n p e x)
    → (w ∷ ws ≡ o ++ r) × ((x : List ℕ) → read (ask lo hi k) (o ++ x) ≡ flagged o n p e x)
unfolding read
flag-step lo hi k w ws o o' n p e r b q h = rw (← q) (ap (λ z. w ∷ z) h.0, λ x. rw (b, h.1 x))

pub flags-exact : (k : Own) (ws o : List ℕ) (n p e : ℕ) (r : List ℕ) → read k ws ≡ flagged o n p e r
    → (ws ≡ o ++ r) × ((x : List ℕ) → read k (o ++ x) ≡ flagged o n p e x)
unfolding read
flags-exact (ask lo hi k) [] o n p e r q = absurd (clash cc)
flags-exact (ask lo hi k) (w ∷ ws) o n p e r q =
    let (b, o', q', h) = only-flagged (between lo hi w) w (read (k w) ws) o n p e r q in
    flag-step lo hi k w ws o o' n p e r b q' (flags-exact (k w) ws o' n p e r h)
flags-exact (kids n' p' e') ws o n p e r q = absurd (no-flagged n' p' e' ws o n p e r q)
flags-exact (flags n' p' e') ws o n p e r q =
    let a : [] ≡ o = cc in
    let b : n' ≡ n = cc in
    let c : p' ≡ p = cc in
    let d : e' ≡ e = cc in
    let l : ws ≡ r = cc in
    rw (← a, ← b, ← c, ← d) (l, λ x. refl)
flags-exact wrong ws o n p e r q = absurd (clash cc)

pub read-free : (n : ℕ) (r : List ℕ) → read (own expr 1) (n ∷ r) ≡ only (between 0 65535 n) (head (n ∷ []) [] 0 0 r)
unfolding own own_of shape_of expr_tags read
read-free n r = refl

pub read-bound : (n : ℕ) (r : List ℕ) → read (own expr 2) (n ∷ r) ≡ only (between 0 65535 n) (head (n ∷ []) [] 0 0 r)
unfolding own own_of shape_of expr_tags read
read-bound n r = refl

mutual
  unfolding decode decode_all decls decl_at encode

  pub decode-encode : {d : ℕ} {s : Sort} {f : Form} → Ok d s f → (r : List ℕ) → decode d s (encode f ++ r) ≡ got f r
  decode-encode (ok-free {n = n} e) r = rw (read-free n r, e)
  decode-encode (ok-bound {n = n} e) r = rw (read-bound n r, e)
  decode-encode (ok-node {s = s} {t = t} {o = o} {ds = ds} {ks = ks} l e k) r =
      rw (append_assoc o, append_assoc ds, e (encode_all ks ++ r), decode_all-encode k r, l)
  decode-encode (ok-noted {s = s} {t = t} {o = o} {ds = ds} {ks = ks} a e w k) r =
      rw (append_assoc o, append_assoc (encode_decls ds), e (encode_decls ds ++ (encode_all ks ++ r)), decls-encode w (encode_all ks ++ r), decode_all-encode k r, a)

  pub decls-encode : {d : ℕ} {ds : Decls} → OkDecls d ds → (r : List ℕ) → decls (λ s ws. decode d s ws) (length (names_of ds)) (encode_decls ds ++ r) ≡ declared ds r
  decls-encode ok_end r = refl
  decls-encode (ok-bare h w) r = rw (h, decls-encode w r)
  decls-encode (ok-typed {f = f} {ds = ds} h g w) r = rw (h, append_assoc (encode f), decode-encode g (encode_decls ds ++ r), decls-encode w r)

  pub decode_all-encode : {d : ℕ} {ss : List Sort} {fs : Forms} → OkAll d ss fs → (r : List ℕ)
      → decode_all (λ s ws. decode d s ws) ss (encode_all fs ++ r) ≡ gots fs r
  decode_all-encode ok-none r = refl
  decode_all-encode (ok-more {fs = fs} h k) r = rw (append_assoc, decode-encode h (encode_all fs ++ r), decode_all-encode k r)

-- a name or an index has one word and nothing else
-- only the tags 1 and 2 are leaves
pub high-tag : (t : ℕ) → is_leaf (suc (suc (suc t))) ≡ false
high-tag t = rw (ne_eqb (suc (suc (suc t))) 1 (λ e. omega arith), ne_eqb (suc (suc (suc t))) 2 (λ e. omega arith))

leaf-own : (hi : ℕ) (o ds : List ℕ) (p e : ℕ) → read (ask 0 hi (λ n. kids 0 0 0)) (o ++ (ds ++ [])) ≡ head o ds p e []
    → (n : ℕ) × (o ≡ n ∷ []) × (ds ≡ []) × (p ≡ 0) × (e ≡ 0) × (between 0 hi n ≡ true)
unfolding read
leaf-own hi [] [] p e q = absurd (clash cc)
leaf-own hi [] (w ∷ ds) p e q =
    let (b, o', q', h) = only-head (between 0 hi w) w (head [] [] 0 0 (ds ++ [])) [] (w ∷ ds) p e [] q in
    absurd (clash cc)
leaf-own hi (n ∷ o) ds p e q =
    let (b, o', q', h) = only-head (between 0 hi n) n (head [] [] 0 0 (o ++ (ds ++ []))) (n ∷ o) ds p e [] q in
    (n, cc, cc, cc, cc, b)

module _ (d : ℕ) (o ds : List ℕ) (p e : ℕ) where
  one_word : (n : ℕ) → o ≡ n ∷ [] → ds ≡ [] → p ≡ 0 → e ≡ 0 → between 0 65535 n ≡ true
      → ((ds ≡ []) × (sorts p e ≡ []) × (1 ∷ o ≡ encode (leaf (leaf_at 1 (get_or o 0 0)))) × Ok (suc d) expr (leaf (leaf_at 1 (get_or o 0 0))))
      × ((ds ≡ []) × (sorts p e ≡ []) × (2 ∷ o ≡ encode (leaf (leaf_at 2 (get_or o 0 0)))) × Ok (suc d) expr (leaf (leaf_at 2 (get_or o 0 0))))
  unfolding encode
  one_word n a b c z k = rw (a, b, c, z) ((refl, refl, refl, ok-free k), (refl, refl, refl, ok-bound k))

  leaf-one : read (own expr 1) (o ++ (ds ++ [])) ≡ head o ds p e [] → (ds ≡ []) × (sorts p e ≡ []) × (1 ∷ o ≡ encode (leaf (leaf_at 1 (get_or o 0 0)))) × Ok (suc d) expr (leaf (leaf_at 1 (get_or o 0 0)))
  unfolding own own_of shape_of expr_tags
  leaf-one q = let (n, a, b, c, z, k) = leaf-own 65535 o ds p e q in (one_word n a b c z k).0

  leaf-two : read (own expr 2) (o ++ (ds ++ [])) ≡ head o ds p e [] → (ds ≡ []) × (sorts p e ≡ []) × (2 ∷ o ≡ encode (leaf (leaf_at 2 (get_or o 0 0)))) × Ok (suc d) expr (leaf (leaf_at 2 (get_or o 0 0)))
  unfolding own own_of shape_of expr_tags
  leaf-two q = let (n, a, b, c, z, k) = leaf-own 65535 o ds p e q in (one_word n a b c z k).1

  leaf-sound : (s : Sort) (t : ℕ) → is_leaf t ≡ true → read (own s t) (o ++ (ds ++ [])) ≡ head o ds p e []
      → (ds ≡ []) × (sorts p e ≡ []) × (t ∷ o ≡ encode (leaf (leaf_at t (get_or o 0 0)))) × Ok (suc d) s (leaf (leaf_at t (get_or o 0 0)))
  unfolding own own_of shape_of pred_tags read
  leaf-sound expr zero l q = absurd (clash cc)
  leaf-sound expr (suc zero) l q = leaf-one q
  leaf-sound expr (suc (suc zero)) l q = leaf-two q
  leaf-sound expr (suc (suc (suc t))) l q = let h = high-tag t in absurd (clash cc)
  leaf-sound pred zero l q = absurd (clash cc)
  leaf-sound pred (suc zero) l q = absurd (clash cc)
  leaf-sound pred (suc (suc zero)) l q = absurd (clash cc)
  leaf-sound pred (suc (suc (suc t))) l q = let h = high-tag t in absurd (clash cc)

-- what was read of a row was written so, and is well formed
abbrev Sound : ℕ → Type 0
Sound d = (s : Sort) (ws : List ℕ) (f : Form) (r : List ℕ) → decode d s ws ≡ got f r → (ws ≡ encode f ++ r) × Ok d s f

pub chain-sound : (g : Got) (k : List ℕ → Gots) (ks : Forms) (x : List ℕ) → chain g k ≡ gots ks x
    → (f : Form) × (fs : Forms) × (r : List ℕ) × (g ≡ got f r) × (k r ≡ gots fs x) × (more f fs ≡ ks)
chain-sound (got f r) k ks x e = go (k r) refl e
  where
    go : (z : Gots) → k r ≡ z → add_form f z ≡ gots ks x → (f' : Form) × (fs : Forms) × (r' : List ℕ) × (got f r ≡ got f' r') × (k r' ≡ gots fs x) × (more f' fs ≡ ks)
    go (gots fs y) q p = (f, fs, r, refl, cc, cc)
    go no-forms q p = absurd (clash cc)
chain-sound no-form k ks x e = absurd (clash cc)

more-sound : (d : ℕ) (s : Sort) (ss : List Sort) (ws r x : List ℕ) (f : Form) (fs ks : Forms) → (ws ≡ encode f ++ r) × Ok d s f
    → (r ≡ encode_all fs ++ x) × OkAll d ss fs → more f fs ≡ ks → (ws ≡ encode_all ks ++ x) × OkAll d (s ∷ ss) ks
unfolding encode
more-sound d s ss ws r x f fs ks h k q = rw (← q) (rw append_assoc (cc (h.0, k.0)), ok-more h.1 k.1)

all-sound-from : (d : ℕ) → Sound d → (ss : List Sort) (ws : List ℕ) (ks : Forms) (x : List ℕ)
    → decode_all (λ s ws'. decode d s ws') ss ws ≡ gots ks x → (ws ≡ encode_all ks ++ x) × OkAll d ss ks
unfolding encode decode_all
all-sound-from d ih [] ws ks x e =
    let a : none ≡ ks = cc in
    let b : ws ≡ x = cc in
    rw (← a) (b, ok-none)
all-sound-from d ih (s ∷ ss) ws ks x e =
    let (f, fs, r, a, b, q) = chain-sound (decode d s ws) (λ r. decode_all (λ s ws'. decode d s ws') ss r) ks x e in
    more-sound d s ss ws r x f fs ks (ih s ws f r a) (all-sound-from d ih ss r fs x b) q

ok-nil : {d : ℕ} {ss : List Sort} {ks : Forms} → OkAll d ss ks → ss ≡ [] → ks ≡ none
ok-nil ok-none e = refl
ok-nil (ok-more h k) e = absurd (clash cc)

-- the form that is made of a tag, its words and its children
pub made : (d : ℕ) (s : Sort) (t : ℕ) (o ds : List ℕ) (p e : ℕ) (ks : Forms) (l : Bool) → is_leaf t ≡ l
    → ((x : List ℕ) → read (own s t) (o ++ (ds ++ x)) ≡ head o ds p e x) → OkAll d (sorts p e) ks
    → (t ∷ (o ++ (ds ++ encode_all ks)) ≡ encode (pick l (leaf (leaf_at t (get_or o 0 0))) (node t o ds ks))) × Ok (suc d) s (pick l (leaf (leaf_at t (get_or o 0 0))) (node t o ds ks)) × (l ≡ true → ks ≡ none)
unfolding encode
made d s t o ds p e ks true l q h =
    let (a, n, w, g) = leaf-sound d o ds p e s t l (q []) in
    (rw (ok-nil h n, a, append-nil o) w, g, λ z. ok-nil h n)
made d s t o ds p e ks false l q h = (refl, ok-node l q h, λ z. absurd (clash cc))

pub close-sound : (t : ℕ) (o ds : List ℕ) (g : Gots) (f : Form) (r : List ℕ) → close t o ds g ≡ got f r → (ks : Forms) × (g ≡ gots ks r) × (make t o ds ks ≡ f)
close-sound t o ds (gots ks x) f r e = (ks, cc, cc)
close-sound t o ds no-forms f r e = absurd (clash cc)

-- declarations that were read were written so
module _ (d : ℕ) (ih : Sound d) where
  abbrev DeclsSound : ℕ → List ℕ → Decls → List ℕ → Type 0
  DeclsSound n ws ds r = (ws ≡ encode_decls ds ++ r) × OkDecls d ds × (length (names_of ds) ≡ n)

  abbrev pub DeclSound : List ℕ → GotDecl → Type 0
  DeclSound ws (got_bare w r) = (ws ≡ w ∷ 0 ∷ r) × (between 0 65535 w ≡ true)
  DeclSound ws (got_typed w f r) = (ws ≡ w ∷ 1 ∷ (encode f ++ r)) × (between 0 65535 w ≡ true) × Ok d expr f
  DeclSound ws no-decl = Unit {0}

  note-sound : (w : ℕ) (ws : List ℕ) (g : Got) → between 0 65535 w ≡ true → decode d expr ws ≡ g → DeclSound (w ∷ 1 ∷ ws) (note_of w g)
  note-sound w ws (got f r) b q = let (e, k) = ih expr ws f r q in (ap (λ v. w ∷ 1 ∷ v) e, b, k)
  note-sound w ws no-form b q = tt

  flag-sound : (w x : ℕ) (ws : List ℕ) → between 0 65535 w ≡ true → DeclSound (w ∷ x ∷ ws) (by_flag (λ s l. decode d s l) w x ws)
  flag-sound w zero ws b = (refl, b)
  flag-sound w (suc zero) ws b = note-sound w ws (decode d expr ws) b refl
  flag-sound w (suc (suc x)) ws b = tt

  pub decl-sound : (ws : List ℕ) → DeclSound ws (decl_at (λ s l. decode d s l) ws)
  unfolding decl_at
  decl-sound [] = tt
  decl-sound (w ∷ []) = tt
  decl-sound (w ∷ x ∷ ws) = go (between 0 65535 w) refl
    where
      go : (b : Bool) → between 0 65535 w ≡ b → DeclSound (w ∷ x ∷ ws) (pick b (by_flag (λ s l. decode d s l) w x ws) no-decl)
      go true q = flag-sound w x ws q
      go false q = tt

  add-sound : (n : ℕ) (ws : List ℕ) (g : GotDecl) (k : List ℕ → GotDecls) (ds : Decls) (r : List ℕ) → DeclSound ws g
      → ((y : List ℕ) (es : Decls) → k y ≡ declared es r → DeclsSound n y es r) → add_decl g k ≡ declared ds r → DeclsSound (suc n) ws ds r
  unfolding encode
  add-sound n ws (got_bare w x) k ds r s h e = go (k x) refl e
    where
      go : (z : GotDecls) → k x ≡ z → add_bare w z ≡ declared ds r → DeclsSound (suc n) ws ds r
      go (declared es y) q e =
          let z : bare w es ≡ ds = cc in
          let (a, c, l) = h x es cc in
          rw (← z) (s.0 ∙ ap (λ v. w ∷ 0 ∷ v) a, ok-bare s.1 c, ap suc l)
      go no-decls q e = absurd (clash cc)
  add-sound n ws (got_typed w f x) k ds r s h e = go (k x) refl e
    where
      go : (z : GotDecls) → k x ≡ z → add_typed w f z ≡ declared ds r → DeclsSound (suc n) ws ds r
      go (declared es y) q e =
          let z : typed w f es ≡ ds = cc in
          let (a, c, l) = h x es cc in
          rw (← z) (s.0 ∙ ap (λ v. w ∷ 1 ∷ v) (rw append_assoc (cc a)), ok-typed s.1 s.2 c, ap suc l)
      go no-decls q e = absurd (clash cc)
  add-sound n ws no-decl k ds r s h e = absurd (clash cc)

  pub decls-sound-from : (n : ℕ) (ws : List ℕ) (ds : Decls) (r : List ℕ) → decls (λ s l. decode d s l) n ws ≡ declared ds r → DeclsSound n ws ds r
  unfolding decls encode
  decls-sound-from zero ws ds r e =
      let a : undeclared ≡ ds = cc in
      let b : ws ≡ r = cc in
      rw (← a) (b, ok_end, refl)
  decls-sound-from (suc n) ws ds r e =
      add-sound n ws (decl_at (λ s l. decode d s l) ws) (λ y. decls (λ s l. decode d s l) n y) ds r (decl-sound ws) (λ y es k. decls-sound-from n y es r k) e

pub noted-sound : (t : ℕ) (o : List ℕ) (ds : Decls) (g : Gots) (f : Form) (r : List ℕ) → close_noted t o ds g ≡ got f r → (ks : Forms) × (g ≡ gots ks r) × (any_typed ds ≡ true) × (noted t o ds ks ≡ f)
noted-sound t o ds (gots ks x) f r e = go (any_typed ds) refl e
  where
    go : (b : Bool) → any_typed ds ≡ b → pick b (got (noted t o ds ks) x) no-form ≡ got f r → (ks' : Forms) × (gots ks x ≡ gots ks' r) × (any_typed ds ≡ true) × (noted t o ds ks' ≡ f)
    go true q e = (ks, cc, q, cc)
    go false q e = absurd (clash cc)
noted-sound t o ds no-forms f r e = absurd (clash cc)

row-join : (t : ℕ) (ws o ds x kw fw r : List ℕ) → ws ≡ o ++ (ds ++ x) → x ≡ kw ++ r → t ∷ (o ++ (ds ++ kw)) ≡ fw → t ∷ ws ≡ fw ++ r
row-join t ws o ds x kw fw r a k w = rw (← w, append_assoc o, append_assoc ds) (cc)

branch-sound : (d : ℕ) → Sound d → (s : Sort) (t : ℕ) (ws : List ℕ) (h : Head) (f : Form) (r : List ℕ) → read (own s t) ws ≡ h
    → branch (λ s' ws'. decode d s' ws') t h ≡ got f r → (t ∷ ws ≡ encode f ++ r) × Ok (suc d) s f
unfolding encode
branch-sound d ih s t ws bad f r q e = absurd (clash cc)
branch-sound d ih s t ws (flagged o n p m x) f r q e = go (decls (λ s' ws'. decode d s' ws') n x) refl e
  where
    go : (g : GotDecls) → decls (λ s' ws'. decode d s' ws') n x ≡ g → with_decls (λ s' ws'. decode d s' ws') t o p m g ≡ got f r → (t ∷ ws ≡ encode f ++ r) × Ok (suc d) s f
    go (declared ds y) u v =
        let (ks, g, ty, w) = noted-sound t o ds (decode_all (λ s' ws'. decode d s' ws') (sorts p m) y) f r v in
        let (a, b) = flags-exact (own s t) ws o n p m x q in
        let (c, k, l) = decls-sound-from d ih n x ds y u in
        let (z, i) = all-sound-from d ih (sorts p m) y ks r g in
        let h : (x : List ℕ) → read (own s t) (o ++ x) ≡ flagged o (length (names_of ds)) p m x = λ x. b x ∙ ap (λ n. flagged o n p m x) (sym l) in
        rw (← w) (row-join t ws o (encode_decls ds) y (encode_all ks) (encode (noted t o ds ks)) r (a ∙ ap (λ z. o ++ z) c) z refl, ok-noted ty h k i)
    go no-decls u v = absurd (clash cc)
branch-sound d ih s t ws (head o ds p n x) f r q e =
    let (ks, g, m) = close-sound t o ds (decode_all (λ s' ws'. decode d s' ws') (sorts p n) x) f r e in
    let (a, b) = read-exact (own s t) ws o ds p n x q in
    let (k, y) = all-sound-from d ih (sorts p n) x ks r g in
    let (w, z, l) = made d s t o ds p n ks (is_leaf t) refl b y in
    rw (← m) (row-join t ws o ds x (encode_all ks) (encode (make t o ds ks)) r a k w, z)

pub decode-sound : (d : ℕ) → Sound d
unfolding decode
decode-sound zero s ws f r e = absurd (clash cc)
decode-sound (suc d) s [] f r e = absurd (clash cc)
decode-sound (suc d) s (t ∷ ws) f r e = branch-sound d (decode-sound d) s t ws (read (own s t) ws) f r refl e

pub all_sound : (d : ℕ) (ss : List Sort) (ws : List ℕ) (ks : Forms) (x : List ℕ)
    → decode_all (λ s ws'. decode d s ws') ss ws ≡ gots ks x → (ws ≡ encode_all ks ++ x) × OkAll d ss ks
all_sound d ss ws ks x e = all-sound-from d (decode-sound d) ss ws ks x e

pub decls-sound : (d n : ℕ) (ws : List ℕ) (ds : Decls) (r : List ℕ) → decls (λ s l. decode d s l) n ws ≡ declared ds r
    → (ws ≡ encode_decls ds ++ r) × OkDecls d ds × (length (names_of ds) ≡ n)
decls-sound d n ws ds r e = decls-sound-from d (decode-sound d) n ws ds r e

-- in a row from a position on: where the form ends
pub decode-at : (d : ℕ) (s : Sort) (ws : List ℕ) (at : ℕ) (f : Form) (r : List ℕ) → decode d s (drop at ws) ≡ got f r → r ≡ drop (at + length (encode f)) ws
decode-at d s ws at f r e =
    let (w, k) = decode-sound d s (drop at ws) f r e in
    rw (← drop-drop (length (encode f)) at ws, w, drop-append_seam)

-- own words in a row from a position on: where the children begin
pub read_at : (k : Own) (ws : List ℕ) (at : ℕ) (o ds : List ℕ) (p e : ℕ) (r : List ℕ) → read k (drop at ws) ≡ head o ds p e r → r ≡ drop (at + (length o + length ds)) ws
read_at k ws at o ds p e r q =
    let (w, x) = read-exact k (drop at ws) o ds p e r q in
    rw (← drop-drop (length o + length ds) at ws, w, ← length-append, ← append_assoc, drop-append_seam)

pub flags-at : (k : Own) (ws : List ℕ) (at : ℕ) (o : List ℕ) (n p e : ℕ) (r : List ℕ) → read k (drop at ws) ≡ flagged o n p e r → r ≡ drop (at + length o) ws
flags-at k ws at o n p e r q =
    let (w, x) = flags-exact k (drop at ws) o n p e r q in
    rw (← drop-drop (length o) at ws, w, drop-append_seam)

pub decls-at : (d n : ℕ) (ws : List ℕ) (at : ℕ) (ds : Decls) (r : List ℕ) → decls (λ s l. decode d s l) n (drop at ws) ≡ declared ds r → r ≡ drop (at + length (encode_decls ds)) ws
decls-at d n ws at ds r e =
    let (w, k, l) = decls-sound d n (drop at ws) ds r e in
    rw (← drop-drop (length (encode_decls ds)) at ws, w, drop-append_seam)

module _ (d : ℕ) (ws : List ℕ) (at w : ℕ) where
  pub bare-at : (r : List ℕ) → decl_at (λ s l. decode d s l) (drop at ws) ≡ got_bare w r → r ≡ drop (at + 2) ws
  bare-at r e =
      let s : DeclSound d (decode-sound d) (drop at ws) (got_bare w r) = rw e at (decl-sound d (decode-sound d) (drop at ws)) in
      rw (← drop-drop 2 at ws, s.0)

  pub typed_at : (f : Form) (r : List ℕ) → decl_at (λ s l. decode d s l) (drop at ws) ≡ got_typed w f r → r ≡ drop (at + 2 + length (encode f)) ws
  typed_at f r e =
      let s : DeclSound d (decode-sound d) (drop at ws) (got_typed w f r) = rw e at (decl-sound d (decode-sound d) (drop at ws)) in
      rw (← drop-drop (length (encode f)) (at + 2) ws, ← drop-drop 2 at ws, s.0, drop-append_seam)

-- no name and no index has declarations with flags
pub flags-node : (s : Sort) (t : ℕ) (ws o : List ℕ) (n p e : ℕ) (r : List ℕ) → read (own s t) ws ≡ flagged o n p e r → is_leaf t ≡ false
unfolding own own_of shape_of expr_tags pred_tags read
flags-node s zero ws o n p e r q = refl
flags-node expr (suc zero) ws o n p e r q = absurd (leaf-flags ws q)
  where
    leaf-flags : (ws : List ℕ) → read (own expr 1) ws ≡ flagged o n p e r → ⊥
    leaf-flags [] q = clash cc
    leaf-flags (w ∷ ws) q =
        let (b, o', q', h) = only-flagged (between 0 65535 w) w (head [] [] 0 0 ws) o n p e r q in
        clash cc
flags-node expr (suc (suc zero)) ws o n p e r q = absurd (leaf-flags ws q)
  where
    leaf-flags : (ws : List ℕ) → read (own expr 2) ws ≡ flagged o n p e r → ⊥
    leaf-flags [] q = clash cc
    leaf-flags (w ∷ ws) q =
        let (b, o', q', h) = only-flagged (between 0 65535 w) w (head [] [] 0 0 ws) o n p e r q in
        clash cc
flags-node pred (suc zero) ws o n p e r q = absurd (clash cc)
flags-node pred (suc (suc zero)) ws o n p e r q = absurd (clash cc)
flags-node s (suc (suc (suc t))) ws o n p e r q = high-tag t
