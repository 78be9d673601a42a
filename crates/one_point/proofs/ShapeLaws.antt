-- Forms of the right shape, whatever their depth, names and numbers of declarations: where the row of one decodes at all, it decodes to it.
-- Assumes nothing.
use mathlib.Core.Path.{◌≡◌, refl, ap, sym, ◌∙◌}
use mathlib.Core.Bool.{Bool, true, false, ◌||◌}
use mathlib.Core.List.{List, [], ◌∷◌, ◌++◌, append_assoc}
use Prim.Native.Nat.{ℕ, zero, suc}
use borrow.Author.Tests.{eqb-true}
use lib.Dec.{eqb}
use lib.ListN.{length}
use Rattle.tree.specs.Form.{Leaf, free, bound, Form, leaf, node, noted, Decls, undeclared, bare, typed, names_of, any_typed, Forms, none, more, pick, between, encode, encode_decls, encode_all}
use Rattle.tree.specs.Tag.{Sort, expr, pred, ask, flags, own, own_of, shape_of, pred_tags, sorts}
use Rattle.form.specs.Decode.{Head, head, flagged, bad, only, read, Got, got, no-form, Gots, gots, no-forms, got_bare, no-decl, note_of, decl_at, GotDecls, declared, no-decls, add_bare, add_typed, add_decl, decls, is_leaf, close, close_noted, with_decls, chain, add_form, branch, decode, decode_all}
use Rattle.form.proofs.DecodeLaws.{clash, Ok, ok-free, ok-bound, ok-node, ok-noted, OkDecls, ok_end, ok-bare, ok-typed, OkAll, ok-none, ok-more, read-free, read-bound}
use Rattle.replace.proofs.QuantLaws.{Heading, tag-heading}

-- if the head of a node is read at all, it is read as it stands, with names or with flags
abbrev pub ReadAs : Head → List ℕ → List ℕ → ℕ → ℕ → List ℕ → Type 0
ReadAs (head o' ds' p' e' x') o ds p e x = (o' ≡ o) × (ds' ≡ ds) × (p' ≡ p) × (e' ≡ e) × (x' ≡ x)
ReadAs (flagged o' n' p' e' x') o ds p e x = ⊥
ReadAs bad o ds p e x = Unit {0}

abbrev pub FlaggedAs : Head → List ℕ → ℕ → ℕ → ℕ → List ℕ → Type 0
FlaggedAs (head o' ds' p' e' x') o n p e x = ⊥
FlaggedAs (flagged o' n' p' e' x') o n p e x = (o' ≡ o) × (n' ≡ n) × (p' ≡ p) × (e' ≡ e) × (x' ≡ x)
FlaggedAs bad o n p e x = Unit {0}

abbrev pub Reads : Sort → ℕ → List ℕ → List ℕ → ℕ → ℕ → Type 0
Reads s t o ds p e = (x : List ℕ) → ReadAs (read (own s t) (o ++ (ds ++ x))) o ds p e x

abbrev pub ReadsFlags : Sort → ℕ → List ℕ → ℕ → ℕ → ℕ → Type 0
ReadsFlags s t o n p e = (x : List ℕ) → FlaggedAs (read (own s t) (o ++ x)) o n p e x

-- a quantifier has one child
abbrev pub OneKid : Sort → ℕ → ℕ → ℕ → Type 0
OneKid s t p e = s ≡ pred → (eqb t 851 || eqb t 852) ≡ true → sorts p e ≡ pred ∷ []

abbrev pub NotedKid : Sort → ℕ → ℕ → ℕ → Type 0
NotedKid s t p e = s ≡ pred → (eqb t 861 || eqb t 862) ≡ true → sorts p e ≡ pred ∷ []

mutual
  pub data Shaped : Sort → Form → Type 0 where
    shaped-leaf : (x : Leaf) → Shaped expr (leaf x)
    shaped-node : {s : Sort} {t : ℕ} {o ds : List ℕ} (p e : ℕ) {ks : Forms} → is_leaf t ≡ false → Reads s t o ds p e → OneKid s t p e → ShapedAll (sorts p e) ks → Shaped s (node t o ds ks)
    shaped-noted : {s : Sort} {t : ℕ} {o : List ℕ} {ds : Decls} (p e : ℕ) {ks : Forms} → any_typed ds ≡ true → ReadsFlags s t o (length (names_of ds)) p e → NotedKid s t p e → ShapedDecls ds → ShapedAll (sorts p e) ks
        → Shaped s (noted t o ds ks)

  pub data ShapedDecls : Decls → Type 0 where
    shaped-end : ShapedDecls undeclared
    shaped-bare : {n : ℕ} {ds : Decls} → ShapedDecls ds → ShapedDecls (bare n ds)
    shaped-typed : {n : ℕ} {f : Form} {ds : Decls} → Shaped expr f → ShapedDecls ds → ShapedDecls (typed n f ds)

  pub data ShapedAll : List Sort → Forms → Type 0 where
    shaped-none : ShapedAll [] none
    shaped-more : {s : Sort} {ss : List Sort} {f : Form} {fs : Forms} → Shaped s f → ShapedAll ss fs → ShapedAll (s ∷ ss) (more f fs)

-- its row decodes to it, if to anything
leaf-if : (d t n : ℕ) (l : Leaf) (r : List ℕ) (b : Bool) → close t (n ∷ []) [] (gots none r) ≡ got (leaf l) r → (g : Form) (x : List ℕ) → branch (λ s w. decode d s w) t (only b (head (n ∷ []) [] 0 0 r)) ≡ got g x
    → (g ≡ leaf l) × (x ≡ r)
unfolding decode_all
leaf-if d t n l r true c g x e =
    let q : got g x ≡ got (leaf l) r = sym e ∙ c in
    (cc, cc)
leaf-if d t n l r false c g x e = absurd (clash cc)

-- a node, once its head is read; several forms, once the first is read
close-is : (t : ℕ) (o ds : List ℕ) (ks : Forms) (r : List ℕ) → is_leaf t ≡ false → (z : Gots) → ((fs : Forms) (y : List ℕ) → z ≡ gots fs y → (fs ≡ ks) × (y ≡ r)) → (g : Form) (x : List ℕ) → close t o ds z ≡ got g x
    → (g ≡ node t o ds ks) × (x ≡ r)
close-is t o ds ks r l (gots fs y) h g x e =
    let (a, b) = h fs y refl in
    let q : got (node t o ds fs) y ≡ got g x = rw l at e in
    let c : g ≡ node t o ds fs = cc in
    let d : x ≡ y = cc in
    (c ∙ ap (λ (k : Forms). node t o ds k) a, d ∙ b)
close-is t o ds ks r l no-forms h g x e = absurd (clash cc)

node-decode : (d : ℕ) (s : Sort) (t : ℕ) (o ds : List ℕ) (p m : ℕ) (ks : Forms) → is_leaf t ≡ false → Reads s t o ds p m → (r : List ℕ) (g : Form) (x : List ℕ)
    → (z : Head) → read (own s t) (o ++ (ds ++ (encode_all ks ++ r))) ≡ z → branch (λ s' w. decode d s' w) t z ≡ got g x
    → ((fs : Forms) (y : List ℕ) → decode_all (λ s' w. decode d s' w) (sorts p m) (encode_all ks ++ r) ≡ gots fs y → (fs ≡ ks) × (y ≡ r)) → (g ≡ node t o ds ks) × (x ≡ r)
node-decode d s t o ds p m ks l h r g x (head o' ds' p' m' x') q e k =
    let (a, b, c, u, v) = rw q at (h (encode_all ks ++ r)) in
    close-is t o ds ks r l (decode_all (λ s' w. decode d s' w) (sorts p m) (encode_all ks ++ r)) k g x (rw (a, b, c, u, v) at e)
node-decode d s t o ds p m ks l h r g x (flagged o' n' p' m' x') q e k = absurd (rw q at (h (encode_all ks ++ r)))
node-decode d s t o ds p m ks l h r g x bad q e k = absurd (clash cc)

-- the same with flags
close-noted : (t : ℕ) (o : List ℕ) (ds : Decls) (ks : Forms) (r : List ℕ) → any_typed ds ≡ true → (z : Gots) → ((fs : Forms) (y : List ℕ) → z ≡ gots fs y → (fs ≡ ks) × (y ≡ r)) → (g : Form) (x : List ℕ) → close_noted t o ds z ≡ got g x
    → (g ≡ noted t o ds ks) × (x ≡ r)
close-noted t o ds ks r l (gots fs y) h g x e =
    let (a, b) = h fs y refl in
    let q : got (noted t o ds fs) y ≡ got g x = rw l at e in
    let c : g ≡ noted t o ds fs = cc in
    let d : x ≡ y = cc in
    (c ∙ ap (λ (k : Forms). noted t o ds k) a, d ∙ b)
close-noted t o ds ks r l no-forms h g x e = absurd (clash cc)

decls-decode : (d t : ℕ) (o : List ℕ) (ds : Decls) (p m : ℕ) (ks : Forms) → any_typed ds ≡ true → (r : List ℕ) (g : Form) (x : List ℕ) → (z : GotDecls)
    → ((es : Decls) (y : List ℕ) → z ≡ declared es y → (es ≡ ds) × (y ≡ encode_all ks ++ r)) → with_decls (λ s' w. decode d s' w) t o p m z ≡ got g x
    → ((fs : Forms) (y : List ℕ) → decode_all (λ s' w. decode d s' w) (sorts p m) (encode_all ks ++ r) ≡ gots fs y → (fs ≡ ks) × (y ≡ r)) → (g ≡ noted t o ds ks) × (x ≡ r)
decls-decode d t o ds p m ks l r g x (declared es y) h e k =
    let (a, b) = h es y refl in
    close-noted t o ds ks r l (decode_all (λ s' w. decode d s' w) (sorts p m) (encode_all ks ++ r)) k g x (rw (a, b) at e)
decls-decode d t o ds p m ks l r g x no-decls h e k = absurd (clash cc)

noted-decode : (d : ℕ) (s : Sort) (t : ℕ) (o : List ℕ) (ds : Decls) (p m : ℕ) (ks : Forms) → any_typed ds ≡ true → ReadsFlags s t o (length (names_of ds)) p m → (r : List ℕ) (g : Form) (x : List ℕ)
    → (z : Head) → read (own s t) (o ++ (encode_decls ds ++ (encode_all ks ++ r))) ≡ z → branch (λ s' w. decode d s' w) t z ≡ got g x
    → ((es : Decls) (y : List ℕ) → decls (λ s' w. decode d s' w) (length (names_of ds)) (encode_decls ds ++ (encode_all ks ++ r)) ≡ declared es y → (es ≡ ds) × (y ≡ encode_all ks ++ r))
    → ((fs : Forms) (y : List ℕ) → decode_all (λ s' w. decode d s' w) (sorts p m) (encode_all ks ++ r) ≡ gots fs y → (fs ≡ ks) × (y ≡ r)) → (g ≡ noted t o ds ks) × (x ≡ r)
noted-decode d s t o ds p m ks l h r g x (head o' ds' p' m' x') q e w k = absurd (rw q at (h (encode_decls ds ++ (encode_all ks ++ r))))
noted-decode d s t o ds p m ks l h r g x (flagged o' n' p' m' x') q e w k =
    let (a, b, c, u, v) = rw q at (h (encode_decls ds ++ (encode_all ks ++ r))) in
    decls-decode d t o ds p m ks l r g x (decls (λ s' w. decode d s' w) (length (names_of ds)) (encode_decls ds ++ (encode_all ks ++ r))) w (rw (a, b, c, u, v) at e) k
noted-decode d s t o ds p m ks l h r g x bad q e w k = absurd (clash cc)

add_is : (f : Form) (fs : Forms) (r : List ℕ) → (z : Gots) → ((hs : Forms) (y : List ℕ) → z ≡ gots hs y → (hs ≡ fs) × (y ≡ r)) → (gs : Forms) (x : List ℕ) → add_form f z ≡ gots gs x → (gs ≡ more f fs) × (x ≡ r)
add_is f fs r (gots hs y) h gs x e =
    let (a, b) = h hs y refl in
    let c : gs ≡ more f hs = cc in
    let d : x ≡ y = cc in
    (c ∙ ap (λ (k : Forms). more f k) a, d ∙ b)
add_is f fs r no-forms h gs x e = absurd (clash cc)

more-decode : (d : ℕ) (s : Sort) (ss : List Sort) (f : Form) (fs : Forms) (r : List ℕ) (gs : Forms) (x : List ℕ) → (z : Got) → decode d s (encode f ++ (encode_all fs ++ r)) ≡ z
    → chain z (λ w. decode_all (λ s' v. decode d s' v) ss w) ≡ gots gs x → ((g : Form) (y : List ℕ) → decode d s (encode f ++ (encode_all fs ++ r)) ≡ got g y → (g ≡ f) × (y ≡ encode_all fs ++ r))
    → ((hs : Forms) (y : List ℕ) → decode_all (λ s' v. decode d s' v) ss (encode_all fs ++ r) ≡ gots hs y → (hs ≡ fs) × (y ≡ r)) → (gs ≡ more f fs) × (x ≡ r)
more-decode d s ss f fs r gs x (got g y) q e h k =
    let (a, b) = h g y q in
    add_is f fs r (decode_all (λ s' v. decode d s' v) ss (encode_all fs ++ r)) k gs x (rw (a, b) at e)
more-decode d s ss f fs r gs x no-form q e h k = absurd (clash cc)

-- declarations with flags, once the first is read
bare-is : (n : ℕ) (ds : Decls) (r : List ℕ) (b : Bool) (ws : List ℕ) (k : List ℕ → GotDecls) → ((es : Decls) (y : List ℕ) → k ws ≡ declared es y → (es ≡ ds) × (y ≡ r)) → (es : Decls) (y : List ℕ)
    → add_decl (pick b (got_bare n ws) no-decl) k ≡ declared es y → (es ≡ bare n ds) × (y ≡ r)
bare-is n ds r false ws k h es y e = absurd (clash cc)
bare-is n ds r true ws k h es y e = go (k ws) refl e
  where
    go : (z : GotDecls) → k ws ≡ z → add_bare n z ≡ declared es y → (es ≡ bare n ds) × (y ≡ r)
    go (declared fs v) q e =
        let (a, b) = h fs v q in
        let c : es ≡ bare n fs = cc in
        let d : y ≡ v = cc in
        (c ∙ ap (λ (i : Decls). bare n i) a, d ∙ b)
    go no-decls q e = absurd (clash cc)

typed-is : (n : ℕ) (f : Form) (ds : Decls) (r : List ℕ) (b : Bool) (z : Got) (ws : List ℕ) (k : List ℕ → GotDecls) → ((g : Form) (y : List ℕ) → z ≡ got g y → (g ≡ f) × (y ≡ ws))
    → ((es : Decls) (y : List ℕ) → k ws ≡ declared es y → (es ≡ ds) × (y ≡ r)) → (es : Decls) (y : List ℕ) → add_decl (pick b (note_of n z) no-decl) k ≡ declared es y → (es ≡ typed n f ds) × (y ≡ r)
typed-is n f ds r false z ws k u h es y e = absurd (clash cc)
typed-is n f ds r true no-form ws k u h es y e = absurd (clash cc)
typed-is n f ds r true (got g x) ws k u h es y e =
    let (a, b) = u g x refl in
    go (k ws) refl (rw (a, b) at e)
  where
    go : (z : GotDecls) → k ws ≡ z → add_typed n f (k ws) ≡ declared es y → (es ≡ typed n f ds) × (y ≡ r)
    go (declared fs v) q e =
        let (a, b) = h fs v q in
        let m : declared (typed n f fs) v ≡ declared es y = rw q at e in
        let c : es ≡ typed n f fs = cc in
        let d : y ≡ v = cc in
        (c ∙ ap (λ (i : Decls). typed n f i) a, d ∙ b)
    go no-decls q e = let m : no-decls ≡ declared es y = rw q at e in absurd (clash cc)

leaf-decode : (d : ℕ) (l : Leaf) (r : List ℕ) (g : Form) (x : List ℕ) → decode d expr (encode (leaf l) ++ r) ≡ got g x → (g ≡ leaf l) × (x ≡ r)
unfolding decode encode
leaf-decode zero l r g x e = absurd (clash cc)
leaf-decode (suc d) (free n) r g x e = leaf-if d 1 n (free n) r (between 0 65535 n) refl g x (rw (read-free n r) at e)
leaf-decode (suc d) (bound n) r g x e = leaf-if d 2 n (bound n) r (between 0 65535 n) refl g x (rw (read-bound n r) at e)

node_at : (d : ℕ) (s : Sort) (t : ℕ) (o ds : List ℕ) (p m : ℕ) (ks : Forms) → is_leaf t ≡ false → Reads s t o ds p m → (r : List ℕ) (g : Form) (x : List ℕ) → decode d s (encode (node t o ds ks) ++ r) ≡ got g x
    → ((d : ℕ) (fs : Forms) (y : List ℕ) → decode_all (λ s' w. decode d s' w) (sorts p m) (encode_all ks ++ r) ≡ gots fs y → (fs ≡ ks) × (y ≡ r)) → (g ≡ node t o ds ks) × (x ≡ r)
unfolding decode encode
node_at zero s t o ds p m ks l h r g x e k = absurd (clash cc)
node_at (suc d) s t o ds p m ks l h r g x e k = node-decode d s t o ds p m ks l h r g x (read (own s t) (o ++ (ds ++ (encode_all ks ++ r)))) refl (rw (append_assoc o, append_assoc ds) at e) (k d)

noted-at : (d : ℕ) (s : Sort) (t : ℕ) (o : List ℕ) (ds : Decls) (p m : ℕ) (ks : Forms) → any_typed ds ≡ true → ReadsFlags s t o (length (names_of ds)) p m → (r : List ℕ) (g : Form) (x : List ℕ) → decode d s (encode (noted t o ds ks) ++ r) ≡ got g x
    → ((d : ℕ) (es : Decls) (y : List ℕ) → decls (λ s' w. decode d s' w) (length (names_of ds)) (encode_decls ds ++ (encode_all ks ++ r)) ≡ declared es y → (es ≡ ds) × (y ≡ encode_all ks ++ r))
    → ((d : ℕ) (fs : Forms) (y : List ℕ) → decode_all (λ s' w. decode d s' w) (sorts p m) (encode_all ks ++ r) ≡ gots fs y → (fs ≡ ks) × (y ≡ r)) → (g ≡ noted t o ds ks) × (x ≡ r)
unfolding decode encode
noted-at zero s t o ds p m ks l h r g x e w k = absurd (clash cc)
noted-at (suc d) s t o ds p m ks l h r g x e w k =
    noted-decode d s t o ds p m ks l h r g x (read (own s t) (o ++ (encode_decls ds ++ (encode_all ks ++ r)))) refl (rw (append_assoc o, append_assoc (encode_decls ds)) at e) (w d) (k d)

mutual
  unfolding decode_all decls decl_at encode

  pub shaped-decode : {s : Sort} {f : Form} → Shaped s f → (d : ℕ) (r : List ℕ) (g : Form) (x : List ℕ) → decode d s (encode f ++ r) ≡ got g x → (g ≡ f) × (x ≡ r)
  shaped-decode (shaped-leaf l) d r g x e = leaf-decode d l r g x e
  shaped-decode (shaped-node {s = s} {t = t} {o = o} {ds = ds} p m {ks = ks} l h k w) d r g x e =
      node_at d s t o ds p m ks l h r g x e (λ n fs y q. shaped-all w n r fs y q)
  shaped-decode (shaped-noted {s = s} {t = t} {o = o} {ds = ds} p m {ks = ks} l h k v w) d r g x e =
      noted-at d s t o ds p m ks l h r g x e (λ n es y q. shaped-decls v n (encode_all ks ++ r) es y q) (λ n fs y q. shaped-all w n r fs y q)

  shaped-decls : {ds : Decls} → ShapedDecls ds → (d : ℕ) (r : List ℕ) (es : Decls) (x : List ℕ) → decls (λ s w. decode d s w) (length (names_of ds)) (encode_decls ds ++ r) ≡ declared es x → (es ≡ ds) × (x ≡ r)
  shaped-decls shaped-end d r es x e =
      let q : declared es x ≡ declared undeclared r = sym e in
      (cc, cc)
  shaped-decls (shaped-bare {n = n} {ds = ds} h) d r es x e =
      bare-is n ds r (between 0 65535 n) (encode_decls ds ++ r) (λ w. decls (λ s v. decode d s v) (length (names_of ds)) w) (λ fs y q. shaped-decls h d r fs y q) es x e
  shaped-decls (shaped-typed {n = n} {f = f} {ds = ds} k h) d r es x e =
      typed-is n f ds r (between 0 65535 n) (decode d expr (encode f ++ (encode_decls ds ++ r))) (encode_decls ds ++ r) (λ w. decls (λ s v. decode d s v) (length (names_of ds)) w)
      (λ g y q. shaped-decode k d (encode_decls ds ++ r) g y q) (λ fs y q. shaped-decls h d r fs y q) es x (rw (append_assoc (encode f)) at e)

  shaped-all : {ss : List Sort} {fs : Forms} → ShapedAll ss fs → (d : ℕ) (r : List ℕ) (gs : Forms) (x : List ℕ) → decode_all (λ s w. decode d s w) ss (encode_all fs ++ r) ≡ gots gs x → (gs ≡ fs) × (x ≡ r)
  shaped-all shaped-none d r gs x e =
      let q : gots gs x ≡ gots none r = sym e in
      (cc, cc)
  shaped-all (shaped-more {s = s} {ss = ss} {f = f} {fs = fs} h k) d r gs x e =
      more-decode d s ss f fs r gs x (decode d s (encode f ++ (encode_all fs ++ r))) refl (rw append_assoc at e) (λ g y q. shaped-decode h d (encode_all fs ++ r) g y q) (λ hs y q. shaped-all k d r hs y q)

-- a well-formed form
read_same : (s : Sort) (t : ℕ) (o ds : List ℕ) (p e : ℕ) → ((x : List ℕ) → read (own s t) (o ++ (ds ++ x)) ≡ head o ds p e x) → Reads s t o ds p e
read_same s t o ds p e h x = rw (h x) (refl, refl, refl, refl, refl)

flags-same : (s : Sort) (t : ℕ) (o : List ℕ) (n p e : ℕ) → ((x : List ℕ) → read (own s t) (o ++ x) ≡ flagged o n p e x) → ReadsFlags s t o n p e
flags-same s t o n p e h x = rw (h x) (refl, refl, refl, refl, refl)

heading-one : (o ds : List ℕ) (p e : ℕ) → Heading o ds p e → sorts p e ≡ pred ∷ []
heading-one o ds p e h = rw (h.preds, h.exprs) refl

one-kid : (s : Sort) (t : ℕ) (o ds : List ℕ) (p e : ℕ) → ((x : List ℕ) → read (own s t) (o ++ (ds ++ x)) ≡ head o ds p e x) → OneKid s t p e
one-kid s t o ds p e h k w = heading-one o ds p e (tag-heading t (o ++ (ds ++ [])) o ds p e [] w (rw k at (h [])))

-- a quantifier whose declarations have flags
pub own-flags : (t : ℕ) → (eqb t 861 || eqb t 862) ≡ true → own pred t ≡ ask 1 32 (λ n. flags n 1 0)
unfolding own own_of shape_of pred_tags
own-flags t h = go (eqb t 861) (eqb t 862) refl refl h
  where
    go : (a b : Bool) → eqb t 861 ≡ a → eqb t 862 ≡ b → (a || b) ≡ true → own pred t ≡ ask 1 32 (λ n. flags n 1 0)
    go true b x y z = rw (eqb-true t 861 x)
    go false true x y z = rw (eqb-true t 862 y)
    go false false x y z = absurd (clash cc)

flags-one : (ws o : List ℕ) (n p e : ℕ) (r : List ℕ) → read (ask 1 32 (λ n. flags n 1 0)) ws ≡ flagged o n p e r → sorts p e ≡ pred ∷ []
unfolding read
flags-one [] o n p e r q = absurd (clash cc)
flags-one (w ∷ ws) o n p e r q = go (between 1 32 w) q
  where
    go : (b : Bool) → only b (flagged (w ∷ []) w 1 0 ws) ≡ flagged o n p e r → sorts p e ≡ pred ∷ []
    go true q =
        let d : 1 ≡ p = cc in
        let z : 0 ≡ e = cc in
        rw (← d, ← z) refl
    go false q = absurd (clash cc)

noted-kid : (s : Sort) (t : ℕ) (o : List ℕ) (n p e : ℕ) → ((x : List ℕ) → read (own s t) (o ++ x) ≡ flagged o n p e x) → NotedKid s t p e
noted-kid s t o n p e h k w = flags-one (o ++ []) o n p e [] (rw (k, own-flags t w) at (h []))

mutual
  pub ok-shaped : {d : ℕ} {s : Sort} {f : Form} → Ok d s f → Shaped s f
  ok-shaped (ok-free {n = n} e) = shaped-leaf (free n)
  ok-shaped (ok-bound {n = n} e) = shaped-leaf (bound n)
  ok-shaped (ok-node {s = s} {t = t} {o = o} {ds = ds} {p = p} {e = e} l h k) = shaped-node p e l (read_same s t o ds p e h) (one-kid s t o ds p e h) (all-shaped k)
  ok-shaped (ok-noted {s = s} {t = t} {o = o} {ds = ds} {p = p} {e = e} a h v k) =
      shaped-noted p e a (flags-same s t o (length (names_of ds)) p e h) (noted-kid s t o (length (names_of ds)) p e h) (decls-shaped v) (all-shaped k)

  decls-shaped : {d : ℕ} {ds : Decls} → OkDecls d ds → ShapedDecls ds
  decls-shaped ok_end = shaped-end
  decls-shaped (ok-bare h k) = shaped-bare (decls-shaped k)
  decls-shaped (ok-typed h g k) = shaped-typed (ok-shaped g) (decls-shaped k)

  all-shaped : {d : ℕ} {ss : List Sort} {fs : Forms} → OkAll d ss fs → ShapedAll ss fs
  all-shaped ok-none = shaped-none
  all-shaped (ok-more h k) = shaped-more (ok-shaped h) (all-shaped k)
