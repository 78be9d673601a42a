-- A quantified predicate in its row, with or without annotations: its head, where its body starts, the body's words, marks and items. A
-- well-formed form that is quantified is its declarations put round its body. Assumes nothing.
use Rattle.std.proofs.Common.{◌≡◌, ℕ, zero, suc, ◌+◌, ◌-◌, ◌≤◌, Bool, true, false, ◌||◌, eqb, leb, List, [], ◌∷◌, ◌++◌, map, length, get_or, drop, sym, refl, ap, ◌∙◌, append_assoc, append-nil, arith, eqb-true, leb-true}
use mathlib.Core.Option.{Option, none as absent, some}
use lib.ListN.{length-map}
use lib.Seq.{drop-append_seam}
use Rattle.tree.specs.Form.{Form, node, noted, Decls, undeclared, bare, typed, names_of, any_typed, Forms, none, more, pick, between, encode, encode_decls}
use Rattle.tree.specs.Tag.{pred, ask, kids, flags, own, own_of, shape_of, pred_tags}
use Rattle.form.specs.Decode.{Head, head, flagged, bad, add_word, add_name, only, names, read}
use Rattle.form.proofs.DecodeLaws.{clash, no-flagged, Ok, ok-node, ok-noted, OkAll, ok-none, ok-more}
use Rattle.rules.specs.Fill.{Decl, unnoted, name_of, listed, declare, unlisted, any_noted, quantifier, other, quantified, around}
use Rattle.rules.proofs.WalkLaws.{and_left, and_right}
use Rattle.rules.proofs.JoinLaws.{names-plain}
use Rattle.shift.specs.Internal.Items.{items, apart}
use Rattle.shift.proofs.RowLaws.{zeros, zeros-length, marks_of, marks_decls, marks-length_decls, items_of, items-encode}
use Rattle.shift.proofs.WordwiseLaws.{apart-encode}

-- the lists of declarations
names-declare : (n : ℕ) (x : Option Form) (ds : Decls) → names_of (declare n x ds) ≡ n ∷ names_of ds
names-declare n absent ds = refl
names-declare n (some f) ds = refl

pub names-unlisted : (ds : List Decl) → names_of (unlisted ds) ≡ map name_of ds
names-unlisted [] = refl
names-unlisted (d ∷ ds) = names-declare d.0 d.1 (unlisted ds) ∙ ap (λ z. d.0 ∷ z) (names-unlisted ds)

pub none-noted : (ns : List ℕ) → any_noted (map unnoted ns) ≡ false
none-noted [] = refl
none-noted (n ∷ ns) = none-noted ns

pub unlisted-listed : (ds : Decls) → unlisted (listed ds) ≡ ds
unlisted-listed undeclared = refl
unlisted-listed (bare n ds) = ap (λ z. bare n z) (unlisted-listed ds)
unlisted-listed (typed n f ds) = ap (λ z. typed n f z) (unlisted-listed ds)

pub noted-listed : (ds : Decls) → any_noted (listed ds) ≡ any_typed ds
noted-listed undeclared = refl
noted-listed (bare n ds) = noted-listed ds
noted-listed (typed n f ds) = refl

pub listed-length : (ds : Decls) → length (listed ds) ≡ length (names_of ds)
listed-length undeclared = refl
listed-length (bare n ds) = ap suc (listed-length ds)
listed-length (typed n f ds) = ap suc (listed-length ds)

-- the head of a quantified predicate and its marks under u declarations
abbrev pub head_of : ℕ → List Decl → List ℕ
head_of t ds = pick (any_noted ds) ((t + 10) ∷ length ds ∷ encode_decls (unlisted ds)) (t ∷ length ds ∷ map name_of ds)

abbrev pub head_marks : ℕ → List Decl → List ℕ
head_marks u ds = pick (any_noted ds) (0 ∷ 0 ∷ marks_decls u (unlisted ds)) (0 ∷ 0 ∷ zeros (map name_of ds))

module _ (t u : ℕ) (ds : List Decl) (b : Form) where
  pub encode-around : encode (around t ds b) ≡ head_of t ds ++ encode b
  unfolding encode
  encode-around = go (any_noted ds)
    where
      go : (z : Bool) → encode (pick z (noted (t + 10) (length ds ∷ []) (unlisted ds) (more b none)) (node t (length ds ∷ []) (map name_of ds) (more b none)))
          ≡ pick z ((t + 10) ∷ length ds ∷ encode_decls (unlisted ds)) (t ∷ length ds ∷ map name_of ds) ++ encode b
      go true = rw append-nil
      go false = rw append-nil

  pub head-marks-length : length (head_marks u ds) ≡ length (head_of t ds)
  head-marks-length = go (any_noted ds)
    where
      go : (z : Bool) → length (pick z (0 ∷ 0 ∷ marks_decls u (unlisted ds)) (0 ∷ 0 ∷ zeros (map name_of ds))) ≡ length (pick z ((t + 10) ∷ length ds ∷ encode_decls (unlisted ds)) (t ∷ length ds ∷ map name_of ds))
      go true = ap (λ z. suc (suc z)) (marks-length_decls u (unlisted ds))
      go false = ap (λ z. suc (suc z)) (zeros-length (map name_of ds))

  pub marks-around : marks_of u (around t ds b) ≡ head_marks u ds ++ marks_of (length ds + u) b
  unfolding marks_of
  marks-around = go (any_noted ds)
    where
      go : (z : Bool) → marks_of u (pick z (noted (t + 10) (length ds ∷ []) (unlisted ds) (more b none)) (node t (length ds ∷ []) (map name_of ds) (more b none)))
          ≡ pick z (0 ∷ 0 ∷ marks_decls u (unlisted ds)) (0 ∷ 0 ∷ zeros (map name_of ds)) ++ marks_of (length ds + u) b
      go true = let e : length (names_of (unlisted ds)) ≡ length ds = ap length (names-unlisted ds) ∙ length-map ds name_of in rw (append-nil, e)
      go false = rw (append-nil, length-map ds name_of)

  -- where the body starts, and what stands there
  pub body-words : (s : ℕ) → s ≡ length (head_of t ds) → drop s (encode (around t ds b)) ≡ encode b
  body-words s e = rw (e, encode-around, drop-append_seam)

  pub body-marks : (s : ℕ) (rest : List ℕ) → s ≡ length (head_of t ds) → drop s (marks_of u (around t ds b) ++ rest) ≡ marks_of (length ds + u) b ++ rest
  body-marks s rest e =
      let k : s ≡ length (head_marks u ds) = e ∙ sym head-marks-length in
      rw (k, marks-around, append_assoc (head_marks u ds), drop-append_seam)

  pub body-items : (s : ℕ) (rest : List ℕ) → s ≡ length (head_of t ds) → items (drop s (encode (around t ds b))) (drop s (marks_of u (around t ds b) ++ rest)) ≡ items_of (length ds + u) b
  unfolding items
  body-items s rest e = rw (body-words s e, body-marks s rest e) (rw (append-nil, append-nil) at (items-encode (length ds + u) b [] rest))

  pub body-apart : (s : ℕ) (rest : List ℕ) → s ≡ length (head_of t ds) → apart (length ds) (drop s (encode (around t ds b))) (drop s (marks_of u (around t ds b) ++ rest)) ≡ true
  unfolding apart
  body-apart s rest e = rw (body-words s e, body-marks s rest e) (rw append-nil at (apart-encode (length ds) (length ds + u) b [] rest (omega arith)))

-- what was read after a quantifier's tag
only-word : (b : Bool) (w : ℕ) (h : Head) (o ds : List ℕ) (p e : ℕ) (r : List ℕ) → only b (add_word w h) ≡ head o ds p e r → (b ≡ true) × (o' : List ℕ) × (w ∷ o' ≡ o) × (h ≡ head o' ds p e r)
only-word true w (head o' ds' p' e' r') o ds p e r q = (refl, o', cc, cc)
only-word true w (flagged o' n p' e' r') o ds p e r q = absurd (clash cc)
only-word true w bad o ds p e r q = absurd (clash cc)
only-word false w h o ds p e r q = absurd (clash cc)

only-named : (b : Bool) (w : ℕ) (h : Head) (o ds : List ℕ) (p e : ℕ) (r : List ℕ) → only b (add_name w h) ≡ head o ds p e r → (ds' : List ℕ) × (w ∷ ds' ≡ ds) × (h ≡ head o ds' p e r)
only-named true w (head o' ds' p' e' r') o ds p e r q = (ds', cc, cc)
only-named true w (flagged o' n p' e' r') o ds p e r q = absurd (clash cc)
only-named true w bad o ds p e r q = absurd (clash cc)
only-named false w h o ds p e r q = absurd (clash cc)

names-count : (n p e : ℕ) (ws o ds : List ℕ) (p' e' : ℕ) (r : List ℕ) → names n p e ws ≡ head o ds p' e' r → (o ≡ []) × (length ds ≡ n) × (p' ≡ p) × (e' ≡ e)
names-count zero p e ws o ds p' e' r q =
    let a : [] ≡ o = cc in
    let b : [] ≡ ds = cc in
    let c : p ≡ p' = cc in
    let d : e ≡ e' = cc in
    (sym a, ap length (sym b), sym c, sym d)
names-count (suc n) p e [] o ds p' e' r q = absurd (clash cc)
names-count (suc n) p e (w ∷ ws) o ds p' e' r q =
    let (ds', a, h) = only-named (between 0 65535 w) w (names n p e ws) o ds p' e' r q in
    let (x, y, z, v) = names-count n p e ws o ds' p' e' r h in
    (x, ap length (sym a) ∙ ap suc y, z, v)

-- n declarations, one predicate
pub record Heading (o : List ℕ) (n p e : ℕ) : Type 0 where
  pub words : o ≡ n ∷ []
  pub least : 1 ≤ n
  pub most : n ≤ 32
  pub preds : p ≡ 1
  pub exprs : e ≡ 0

heading-of : (n : ℕ) (o : List ℕ) (p e : ℕ) → between 1 32 n ≡ true → o ≡ n ∷ [] → p ≡ 1 → e ≡ 0 → Heading o n p e
heading-of n o p e b x s t =
    record { words = x; least = leb-true 1 n (and_left (leb 1 n) (leb n 32) b); most = leb-true n 32 (and_right (leb 1 n) (leb n 32) b); preds = s; exprs = t }

plain-heading : (ws o ds : List ℕ) (p e : ℕ) (r : List ℕ) → read (ask 1 32 (λ n. kids n 1 0)) ws ≡ head o ds p e r → Heading o (length ds) p e
unfolding read
plain-heading [] o ds p e r q = absurd (clash cc)
plain-heading (w ∷ ws) o ds p e r q =
    let (b, o', x, h) = only-word (between 1 32 w) w (names w 1 0 ws) o ds p e r q in
    let (z, n, s, t) = names-count w 1 0 ws o' ds p e r h in
    heading-of (length ds) o p e (rw n b) (sym x ∙ rw (z, n)) s t

pub flags-heading : (ws o : List ℕ) (n p e : ℕ) (r : List ℕ) → read (ask 1 32 (λ n. flags n 1 0)) ws ≡ flagged o n p e r → Heading o n p e
unfolding read
flags-heading [] o n p e r q = absurd (clash cc)
flags-heading (w ∷ ws) o n p e r q = go (between 1 32 w) refl q
  where
    go : (b : Bool) → between 1 32 w ≡ b → only b (flagged (w ∷ []) w 1 0 ws) ≡ flagged o n p e r → Heading o n p e
    go true b q =
        let a : w ≡ n = cc in
        let c : w ∷ [] ≡ o = cc in
        let d : 1 ≡ p = cc in
        let z : 0 ≡ e = cc in
        heading-of n o p e (rw (← a) b) (sym c ∙ rw a) (sym d) (sym z)
    go false b q = absurd (clash cc)

own-plain : (t : ℕ) (a b : Bool) → eqb t 851 ≡ a → eqb t 852 ≡ b → (a || b) ≡ true → own pred t ≡ ask 1 32 (λ n. kids n 1 0)
unfolding own own_of shape_of pred_tags
own-plain t true b x y z = rw (eqb-true t 851 x)
own-plain t false true x y z = rw (eqb-true t 852 y)
own-plain t false false x y z = absurd (clash cc)

pub own-noted : (t : ℕ) (a b : Bool) → eqb t 861 ≡ a → eqb t 862 ≡ b → (a || b) ≡ true → (own pred t ≡ ask 1 32 (λ n. flags n 1 0)) × (t ≡ t - 10 + 10) × ((eqb (t - 10) 851 || eqb (t - 10) 852) ≡ true)
unfolding own own_of shape_of pred_tags
own-noted t true b x y z = rw (eqb-true t 861 x) (refl, refl, refl)
own-noted t false true x y z = rw (eqb-true t 862 y) (refl, refl, refl)
own-noted t false false x y z = absurd (clash cc)

-- a quantified predicate, well formed: its operator, its declarations round its body
pub record Quant (d : ℕ) (f : Form) : Type 0 where
  pub op : ℕ
  pub decls : List Decl
  pub body : Form
  pub is : quantified f ≡ quantifier op decls body
  pub which : (eqb op 851 || eqb op 852) ≡ true
  pub form : f ≡ around op decls body
  pub least : 1 ≤ length decls
  pub most : length decls ≤ 32
  pub ok : Ok d pred body

one-kid : {d : ℕ} {ks : Forms} → OkAll d (pred ∷ []) ks → (b : Form) × (ks ≡ more b none) × Ok d pred b
one-kid (ok-more {f = f} h ok-none) = (f, refl, h)

pub plain-around : (t : ℕ) (ds : List ℕ) (b : Form) → node t (length ds ∷ []) ds (more b none) ≡ around t (map unnoted ds) b
plain-around t ds b = rw (none-noted ds, length-map ds unnoted, names-plain ds)

pub noted-around : (t : ℕ) (ds : Decls) (b : Form) → any_typed ds ≡ true → noted (t + 10) (length (names_of ds) ∷ []) ds (more b none) ≡ around t (listed ds) b
noted-around t ds b a = rw (noted-listed ds, a, listed-length ds, unlisted-listed ds)

quant-plain : {d : ℕ} (t : ℕ) (o ds : List ℕ) (ks : Forms) → (eqb t 851 || eqb t 852) ≡ true → Ok (suc d) pred (node t o ds ks) → Quant d (node t o ds ks)
unfolding quantified
quant-plain {d} t o ds ks w (ok-node {p = p} {e = e} l r k) =
    let h = plain-heading (o ++ (ds ++ [])) o ds p e [] (rw (own-plain t (eqb t 851) (eqb t 852) refl refl w) at (r [])) in
    let (b, m, ok) = one-kid (rw (h.preds, h.exprs) at k) in
    go b m ok h
  where
    go : (b : Form) → ks ≡ more b none → Ok d pred b → Heading o (length ds) p e → Quant d (node t o ds ks)
    go b m ok h =
        record {
          op = t;
          decls = map unnoted ds;
          body = b;
          is = rw (m, w);
          which = w;
          form = rw (m, h.words) (plain-around t ds b);
          least = rw (length-map ds unnoted) h.least;
          most = rw (length-map ds unnoted) h.most;
          ok = ok;
        }

quant-noted : {d : ℕ} (t : ℕ) (o : List ℕ) (ds : Decls) (ks : Forms) → (eqb t 861 || eqb t 862) ≡ true → Ok (suc d) pred (noted t o ds ks) → Quant d (noted t o ds ks)
unfolding quantified
quant-noted {d} t o ds ks w (ok-noted {p = p} {e = e} a r v k) =
    let (x, y, z) = own-noted t (eqb t 861) (eqb t 862) refl refl w in
    let h = flags-heading (o ++ []) o (length (names_of ds)) p e [] (rw x at (r [])) in
    let (b, m, ok) = one-kid (rw (h.preds, h.exprs) at k) in
    go b m ok h y z
  where
    go : (b : Form) → ks ≡ more b none → Ok d pred b → Heading o (length (names_of ds)) p e → t ≡ t - 10 + 10 → (eqb (t - 10) 851 || eqb (t - 10) 852) ≡ true → Quant d (noted t o ds ks)
    go b m ok h y z =
        record {
          op = t - 10;
          decls = listed ds;
          body = b;
          is = rw (m, w);
          which = z;
          form = ap (λ k. noted t o ds k) m ∙ ap (λ q. noted t q ds (more b none)) h.words ∙ ap (λ u. noted u (length (names_of ds) ∷ []) ds (more b none)) y ∙ noted-around (t - 10) ds b a;
          least = rw (listed-length ds) h.least;
          most = rw (listed-length ds) h.most;
          ok = ok;
        }

-- by its first word
pub quant-of : {d : ℕ} {f : Form} → Ok (suc d) pred f → (op : ℕ) (ds : List Decl) (b : Form) → quantified f ≡ quantifier op ds b → Quant d f
unfolding quantified
quant-of (ok-node {d = d} {t = t} {o = o} {ds = es} {ks = ks} l r k) op ds b q = go ks refl (eqb t 851 || eqb t 852) refl q
  where
    go : (js : Forms) → ks ≡ js → (z : Bool) → (eqb t 851 || eqb t 852) ≡ z → quantified (node t o es ks) ≡ quantifier op ds b → Quant d (node t o es ks)
    go js e true w q = quant-plain t o es ks w (ok-node l r k)
    go none e false w q = let x : quantified (node t o es ks) ≡ other = rw e in absurd (clash cc)
    go (more f none) e false w q = let x : quantified (node t o es ks) ≡ other = rw (e, w) in absurd (clash cc)
    go (more f (more g gs)) e false w q = let x : quantified (node t o es ks) ≡ other = rw e in absurd (clash cc)
quant-of (ok-noted {d = d} {t = t} {o = o} {ds = es} {ks = ks} a r v k) op ds b q = go ks refl (eqb t 861 || eqb t 862) refl q
  where
    go : (js : Forms) → ks ≡ js → (z : Bool) → (eqb t 861 || eqb t 862) ≡ z → quantified (noted t o es ks) ≡ quantifier op ds b → Quant d (noted t o es ks)
    go js e true w q = quant-noted t o es ks w (ok-noted a r v k)
    go none e false w q = let x : quantified (noted t o es ks) ≡ other = rw e in absurd (clash cc)
    go (more f none) e false w q = let x : quantified (noted t o es ks) ≡ other = rw (e, w) in absurd (clash cc)
    go (more f (more g gs)) e false w q = let x : quantified (noted t o es ks) ≡ other = rw e in absurd (clash cc)

-- a row whose first word is a quantifier's tag is quantified, and no other is
plain-only : (ws o : List ℕ) (n p e : ℕ) (r : List ℕ) → read (ask 1 32 (λ n. kids n 1 0)) ws ≡ flagged o n p e r → ⊥
unfolding read
plain-only [] o n p e r q = clash cc
plain-only (w ∷ ws) o n p e r q = go (between 1 32 w) (names w 1 0 ws) refl q
  where
    go : (b : Bool) (h : Head) → names w 1 0 ws ≡ h → only b (add_word w h) ≡ flagged o n p e r → ⊥
    go true (head o' ds p' e' r') k q = clash cc
    go true (flagged o' m p' e' r') k q = no-flagged w 1 0 ws o' m p' e' r' k
    go true bad k q = clash cc
    go false h k q = clash cc

pub flags-only : (ws o ds : List ℕ) (p e : ℕ) (r : List ℕ) → read (ask 1 32 (λ n. flags n 1 0)) ws ≡ head o ds p e r → ⊥
unfolding read
flags-only [] o ds p e r q = clash cc
flags-only (w ∷ ws) o ds p e r q = go (between 1 32 w) q
  where
    go : (b : Bool) → only b (flagged (w ∷ []) w 1 0 ws) ≡ head o ds p e r → ⊥
    go true q = clash cc
    go false q = clash cc

abbrev pub plain_tag : ℕ → Bool
plain_tag w = eqb w 851 || eqb w 852

abbrev pub noted_tag : ℕ → Bool
noted_tag w = eqb w 861 || eqb w 862

pub first_plain : {d : ℕ} {f : Form} → Ok (suc d) pred f → plain_tag (get_or (encode f) 0 0) ≡ true → Quant d f
unfolding encode
first_plain (ok-node {t = t} {o = o} {ds = ds} {ks = ks} l r k) w = quant-plain t o ds ks w (ok-node l r k)
first_plain (ok-noted {t = t} {o = o} {ds = ds} {p = p} {e = e} a r v k) w =
    absurd (plain-only (o ++ []) o (length (names_of ds)) p e [] (rw (own-plain t (eqb t 851) (eqb t 852) refl refl w) at (r [])))

pub first-noted : {d : ℕ} {f : Form} → Ok (suc d) pred f → noted_tag (get_or (encode f) 0 0) ≡ true → Quant d f
unfolding encode
first-noted (ok-node {t = t} {o = o} {ds = ds} {p = p} {e = e} l r k) w =
    absurd (flags-only (o ++ (ds ++ [])) o ds p e [] (rw (own-noted t (eqb t 861) (eqb t 862) refl refl w).0 at (r [])))
first-noted (ok-noted {t = t} {o = o} {ds = ds} {ks = ks} a r v k) w = quant-noted t o ds ks w (ok-noted a r v k)

pub other-first : {d : ℕ} {f : Form} → Ok (suc d) pred f → quantified f ≡ other → (plain_tag (get_or (encode f) 0 0) ≡ false) × (noted_tag (get_or (encode f) 0 0) ≡ false)
other-first {d} {f} ok e = (plain (plain_tag (get_or (encode f) 0 0)) refl, annotated (noted_tag (get_or (encode f) 0 0)) refl)
  where
    never : Quant d f → ⊥
    never y = let z = y.is in clash cc

    plain : (b : Bool) → plain_tag (get_or (encode f) 0 0) ≡ b → b ≡ false
    plain true q = absurd (never (first_plain ok q))
    plain false q = refl

    annotated : (b : Bool) → noted_tag (get_or (encode f) 0 0) ≡ b → b ≡ false
    annotated true q = absurd (never (first-noted ok q))
    annotated false q = refl

up-tag : (t : ℕ) (a b : Bool) → eqb t 851 ≡ a → eqb t 852 ≡ b → (a || b) ≡ true → noted_tag (t + 10) ≡ true
up-tag t true b x y z = rw (eqb-true t 851 x)
up-tag t false true x y z = rw (eqb-true t 852 y)
up-tag t false false x y z = absurd (clash cc)

-- its first two words
module _ {d : ℕ} {f : Form} (y : Quant d f) where
  first-words : encode f ≡ head_of y.op y.decls ++ encode y.body
  first-words = ap encode y.form ∙ encode-around y.op 0 y.decls y.body

  pub quant-second : get_or (encode f) 1 0 ≡ length y.decls
  quant-second = rw first-words (go (any_noted y.decls))
    where
      go : (z : Bool) → get_or (pick z ((y.op + 10) ∷ length y.decls ∷ encode_decls (unlisted y.decls)) (y.op ∷ length y.decls ∷ map name_of y.decls) ++ encode y.body) 1 0 ≡ length y.decls
      go true = refl
      go false = refl

  pub quant-first : get_or (encode f) 0 0 ≡ pick (any_noted y.decls) (y.op + 10) y.op
  quant-first = rw first-words (go (any_noted y.decls))
    where
      go : (z : Bool) → get_or (pick z ((y.op + 10) ∷ length y.decls ∷ encode_decls (unlisted y.decls)) (y.op ∷ length y.decls ∷ map name_of y.decls) ++ encode y.body) 0 0 ≡ pick z (y.op + 10) y.op
      go true = refl
      go false = refl

  pub quant-two : 2 ≤ length (encode f)
  quant-two = rw first-words (go (any_noted y.decls))
    where
      go : (z : Bool) → 2 ≤ length (pick z ((y.op + 10) ∷ length y.decls ∷ encode_decls (unlisted y.decls)) (y.op ∷ length y.decls ∷ map name_of y.decls) ++ encode y.body)
      go true = omega arith
      go false = omega arith

  pub quant-tagged : (plain_tag (get_or (encode f) 0 0) || noted_tag (get_or (encode f) 0 0)) ≡ true
  quant-tagged = rw quant-first (go (any_noted y.decls))
    where
      right : (b : Bool) → (b || true) ≡ true
      right true = refl
      right false = refl

      go : (z : Bool) → (plain_tag (pick z (y.op + 10) y.op) || noted_tag (pick z (y.op + 10) y.op)) ≡ true
      go true = rw (up-tag y.op (eqb y.op 851) (eqb y.op 852) refl refl y.which) (right (plain_tag (y.op + 10)))
      go false = rw y.which
