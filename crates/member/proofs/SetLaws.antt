-- A comprehension in a row: its head, its declarations and what was read after its tag. Assumes nothing.
use mathlib.Core.Path.{◌≡◌, refl, ap, sym, ◌∙◌}
use mathlib.Core.Bool.{Bool, true, false}
use mathlib.Core.List.{List, [], ◌∷◌, ◌++◌, append-nil, map}
use mathlib.Core.Option.{none as absent, some}
use Prim.Native.Nat.{ℕ, zero, suc, ◌+◌, ◌≤◌, ◌<◌}
use native.Mathlib.Nat.{add-zero}
use native.Mathlib.Omega.{arith}
use borrow.Author.Tests.{leb-true, eqb-true}
use lib.Dec.{leb, eqb}
use lib.ListN.{length, get_or, drop, length-drop, length-map}
use lib.Seq.{drop-drop, get_or-drop}
use Rattle.tree.specs.Form.{Form, node, noted, Decls, names_of, any_typed, Forms, none, more, pick, between, encode, encode_decls}
use Rattle.tree.specs.Tag.{expr, pred, ask, kids, flags, own, own_of, shape_of, expr_tags, sorts}
use Rattle.form.specs.Decode.{Head, head, flagged, bad, add_word, only, names, read}
use Rattle.form.proofs.DecodeLaws.{clash, only-name, no-flagged, Ok, ok-free, ok-bound, ok-node, ok-noted, OkDecls, ok-bare, ok-typed, OkAll}
use Rattle.rules.specs.Fill.{Decl, unnoted, name_of, listed, unlisted, any_noted}
use Rattle.rules.proofs.WalkLaws.{and_left, and_right}
use Rattle.rules.proofs.OkLaws.{ok-deep}
use Rattle.rules.proofs.JoinLaws.{names-plain}
use Rattle.shift.proofs.AroundLaws.{none-noted, unlisted-listed, noted-listed, listed-length}
use Rattle.replace.specs.Internal.Pieces.{are_names}
use Rattle.replace.proofs.QuantLaws.{only-word, names-count}
use Rattle.decls.specs.Internal.Noted.{decls_end}
use Rattle.decls.proofs.DeclLaws.{GoodDecls}
use Rattle.decls.proofs.NotedLaws.{decls-end}
use Rattle.rules.specs.Member.{member_of, in_set}
use Rattle.member.specs.Internal.Member.{set_of, set_head, set_tag, guard_at}
use Rattle.places.proofs.ViewLaws.{two-more}
use Rattle.places.proofs.PartsLaws.{tag_of}

-- what was read after a comprehension's tag
record Heading (o : List ℕ) (n p e : ℕ) : Type 0 where
  form : ℕ
  words : o ≡ form ∷ n ∷ []
  least : 1 ≤ n
  most : n ≤ 32
  preds : p ≡ 1
  exprs : e ≡ 1

heading-of : (w v : ℕ) (o o₁ o₂ : List ℕ) (n p e : ℕ) → between 1 32 v ≡ true → w ∷ o₁ ≡ o → v ∷ o₂ ≡ o₁ → o₂ ≡ [] → n ≡ v → p ≡ 1 → e ≡ 1 → Heading o n p e
heading-of w v o o₁ o₂ n p e b x y z k s t =
    let l = leb-true 1 v (and_left (leb 1 v) (leb v 32) b) in
    let m = leb-true v 32 (and_right (leb 1 v) (leb v 32) b) in
    record { form = w; words = sym x ∙ ap (λ (i : List ℕ). w ∷ i) (sym y ∙ rw (z, k)); least = omega arith; most = omega arith; preds = s; exprs = t }

read-heading : (ws o ds : List ℕ) (p e : ℕ) (r : List ℕ) → read (ask 0 3 (λ k. ask 1 32 (λ n. kids n 1 1))) ws ≡ head o ds p e r → Heading o (length ds) p e
unfolding read
read-heading [] o ds p e r q = absurd (clash cc)
read-heading (w ∷ []) o ds p e r q = let (b, o₁, x, h) = only-word (between 0 3 w) w bad o ds p e r q in absurd (clash cc)
read-heading (w ∷ v ∷ ws) o ds p e r q =
    let (b, o₁, x, h) = only-word (between 0 3 w) w (only (between 1 32 v) (add_word v (names v 1 1 ws))) o ds p e r q in
    let (c, o₂, y, k) = only-word (between 1 32 v) v (names v 1 1 ws) o₁ ds p e r h in
    let (z, n, s, t) = names-count v 1 1 ws o₂ ds p e r k in
    heading-of w v o o₁ o₂ (length ds) p e c x y z n s t

-- and with flags
only-flags : (b : Bool) (w : ℕ) (h : Head) (o : List ℕ) (n p e : ℕ) (r : List ℕ) → only b (add_word w h) ≡ flagged o n p e r → (b ≡ true) × (o' : List ℕ) × (w ∷ o' ≡ o) × (h ≡ flagged o' n p e r)
only-flags true w (head o' ds' p' e' r') o n p e r q = absurd (clash cc)
only-flags true w (flagged o' n' p' e' r') o n p e r q = (refl, o', cc, cc)
only-flags true w bad o n p e r q = absurd (clash cc)
only-flags false w h o n p e r q = absurd (clash cc)

flags-heading : (ws o : List ℕ) (n p e : ℕ) (r : List ℕ) → read (ask 0 3 (λ k. ask 1 32 (λ n. flags n 1 1))) ws ≡ flagged o n p e r → Heading o n p e
unfolding read
flags-heading [] o n p e r q = absurd (clash cc)
flags-heading (w ∷ []) o n p e r q = let (b, o₁, x, h) = only-flags (between 0 3 w) w bad o n p e r q in absurd (clash cc)
flags-heading (w ∷ v ∷ ws) o n p e r q =
    let (b, o₁, x, h) = only-flags (between 0 3 w) w (only (between 1 32 v) (add_word v (flagged [] v 1 1 ws))) o n p e r q in
    let (c, o₂, y, k) = only-flags (between 1 32 v) v (flagged [] v 1 1 ws) o₁ n p e r h in
    let a : v ≡ n = cc in
    let z : [] ≡ o₂ = cc in
    let s : 1 ≡ p = cc in
    let t : 1 ≡ e = cc in
    heading-of w v o o₁ o₂ n p e c x y (sym z) (sym a) (sym s) (sym t)

tag-803 : own expr 803 ≡ ask 0 3 (λ k. ask 1 32 (λ n. kids n 1 1))
unfolding own own_of shape_of expr_tags
tag-803 = refl

tag-873 : own expr 873 ≡ ask 0 3 (λ k. ask 1 32 (λ n. flags n 1 1))
unfolding own own_of shape_of expr_tags
tag-873 = refl

-- a comprehension
pub record SetView (r : Form) : Type 0 where
  pub form : ℕ
  pub decls : List Decl
  pub guard : Form
  pub value : Form
  pub is : r ≡ set_of form decls guard value
  pub in-it : (l : Form) → in_set l r ≡ some (member_of l decls guard value)
  pub least : 1 ≤ length decls
  pub most : length decls ≤ 32
  pub ok-guard : Ok 62 pred guard
  pub ok-value : Ok 62 expr value

plain-set : (k : ℕ) (ds : List ℕ) (g v : Form) → node 803 (k ∷ length ds ∷ []) ds (more g (more v none)) ≡ set_of k (map unnoted ds) g v
plain-set k ds g v = rw (none-noted ds, length-map ds unnoted, names-plain ds)

noted-set : (k : ℕ) (ds : Decls) (g v : Form) → any_typed ds ≡ true → noted 873 (k ∷ length (names_of ds) ∷ []) ds (more g (more v none)) ≡ set_of k (listed ds) g v
noted-set k ds g v a = rw (noted-listed ds, a, listed-length ds, unlisted-listed ds)

set-made : {o ds : List ℕ} {p e : ℕ} {ks : Forms} → Heading o (length ds) p e → OkAll 62 (sorts p e) ks → SetView (node 803 o ds ks)
set-made {o} {ds} {p} {e} {ks} h k = go (two-more (rw (h.preds, h.exprs) at k))
  where
    go : (l : Form) × (r : Form) × (ks ≡ more l (more r none)) × Ok 62 pred l × Ok 62 expr r → SetView (node 803 o ds ks)
    go (l, r, q, a, b) =
        record {
          form = h.form;
          decls = map unnoted ds;
          guard = l;
          value = r;
          is = rw (h.words, q) (plain-set h.form ds l r);
          in-it = λ x. rw q;
          least = rw (length-map ds unnoted) h.least;
          most = rw (length-map ds unnoted) h.most;
          ok-guard = a;
          ok-value = b;
        }

noted-made : {o : List ℕ} {ds : Decls} {p e : ℕ} {ks : Forms} → Heading o (length (names_of ds)) p e → any_typed ds ≡ true → OkAll 62 (sorts p e) ks → SetView (noted 873 o ds ks)
noted-made {o} {ds} {p} {e} {ks} h any k = go (two-more (rw (h.preds, h.exprs) at k))
  where
    go : (l : Form) × (r : Form) × (ks ≡ more l (more r none)) × Ok 62 pred l × Ok 62 expr r → SetView (noted 873 o ds ks)
    go (l, r, q, a, b) =
        record {
          form = h.form;
          decls = listed ds;
          guard = l;
          value = r;
          is = rw (h.words, q) (noted-set h.form ds l r any);
          in-it = λ x. rw q;
          least = rw (listed-length ds) h.least;
          most = rw (listed-length ds) h.most;
          ok-guard = a;
          ok-value = b;
        }

plain-flags : (ws o : List ℕ) (n p e : ℕ) (r : List ℕ) → read (ask 0 3 (λ k. ask 1 32 (λ n. kids n 1 1))) ws ≡ flagged o n p e r → ⊥
unfolding read
plain-flags [] o n p e r q = clash cc
plain-flags (w ∷ []) o n p e r q = let (b, o₁, x, h) = only-flags (between 0 3 w) w bad o n p e r q in clash cc
plain-flags (w ∷ v ∷ ws) o n p e r q =
    let (b, o₁, x, h) = only-flags (between 0 3 w) w (only (between 1 32 v) (add_word v (names v 1 1 ws))) o n p e r q in
    let (c, o₂, y, k) = only-flags (between 1 32 v) v (names v 1 1 ws) o₁ n p e r h in
    no-flagged v 1 1 ws o₂ n p e r k

flags-plain : (ws o ds : List ℕ) (p e : ℕ) (r : List ℕ) → read (ask 0 3 (λ k. ask 1 32 (λ n. flags n 1 1))) ws ≡ head o ds p e r → ⊥
unfolding read
flags-plain [] o ds p e r q = clash cc
flags-plain (w ∷ []) o ds p e r q = let (b, o₁, x, h) = only-word (between 0 3 w) w bad o ds p e r q in clash cc
flags-plain (w ∷ v ∷ ws) o ds p e r q =
    let (b, o₁, x, h) = only-word (between 0 3 w) w (only (between 1 32 v) (add_word v (flagged [] v 1 1 ws))) o ds p e r q in
    let (c, o₂, y, k) = only-word (between 1 32 v) v (flagged [] v 1 1 ws) o₁ ds p e r h in
    clash cc

set-node : {t : ℕ} {o ds : List ℕ} {ks : Forms} → (z : Bool) → eqb t 803 ≡ z → set_tag t ≡ true → Ok 63 expr (node t o ds ks) → SetView (node t o ds ks)
set-node {t} {o} {ds} true q e (ok-node {p = p} {e = e'} l h k) =
    let f = eqb-true t 803 q in
    rw f (set-made (read-heading (o ++ (ds ++ [])) o ds p e' [] (rw (f, tag-803) at (h []))) k)
set-node {t} {o} {ds} false q e (ok-node {p = p} {e = e'} l h k) =
    let f = eqb-true t 873 (rw q at e) in
    absurd (flags-plain (o ++ (ds ++ [])) o ds p e' [] (rw (f, tag-873) at (h [])))

set-noted : {t : ℕ} {o : List ℕ} {ds : Decls} {ks : Forms} → (z : Bool) → eqb t 803 ≡ z → set_tag t ≡ true → Ok 63 expr (noted t o ds ks) → SetView (noted t o ds ks)
set-noted {t} {o} {ds} true q e (ok-noted {p = p} {e = e'} a h w k) =
    let f = eqb-true t 803 q in
    absurd (plain-flags (o ++ []) o (length (names_of ds)) p e' [] (rw (f, tag-803) at (h [])))
set-noted {t} {o} {ds} false q e (ok-noted {p = p} {e = e'} a h w k) =
    let f = eqb-true t 873 (rw q at e) in
    rw f (noted-made (flags-heading (o ++ []) o (length (names_of ds)) p e' [] (rw (f, tag-873) at (h []))) a k)

pub set_view : {f : Form} → Ok 63 expr f → set_tag (tag_of f) ≡ true → SetView f
set_view (ok-free h) e = absurd (clash cc)
set_view (ok-bound h) e = absurd (clash cc)
set_view (ok-node {t = t} a b k) e = set-node (eqb t 803) refl e (ok-node a b k)
set_view (ok-noted {t = t} a b w k) e = set-noted (eqb t 803) refl e (ok-noted a b w k)

-- its declarations are well formed
small-next : (w : ℕ) (ds ds' : List ℕ) → between 0 65535 w ≡ true → w ∷ ds' ≡ ds → are_names ds' ≡ true → are_names ds ≡ true
small-next w ds ds' b a h = rw (← a, b) h

names-small : (n p e : ℕ) (ws o ds : List ℕ) (p' e' : ℕ) (r : List ℕ) → names n p e ws ≡ head o ds p' e' r → are_names ds ≡ true
names-small zero p e ws o ds p' e' r q = let b : [] ≡ ds = cc in rw (← b)
names-small (suc n) p e [] o ds p' e' r q = absurd (clash cc)
names-small (suc n) p e (w ∷ ws) o ds p' e' r q =
    let (b, ds', a, h) = only-name (between 0 65535 w) w (names n p e ws) o ds p' e' r q in
    small-next w ds ds' b a (names-small n p e ws o ds' p' e' r h)

set-names : (ws o ds : List ℕ) (p e : ℕ) (r : List ℕ) → read (ask 0 3 (λ k. ask 1 32 (λ n. kids n 1 1))) ws ≡ head o ds p e r → are_names ds ≡ true
unfolding read
set-names [] o ds p e r q = absurd (clash cc)
set-names (w ∷ []) o ds p e r q = let (b, o₁, x, h) = only-word (between 0 3 w) w bad o ds p e r q in absurd (clash cc)
set-names (w ∷ v ∷ ws) o ds p e r q =
    let (b, o₁, x, h) = only-word (between 0 3 w) w (only (between 1 32 v) (add_word v (names v 1 1 ws))) o ds p e r q in
    let (c, o₂, y, k) = only-word (between 1 32 v) v (names v 1 1 ws) o₁ ds p e r h in
    names-small v 1 1 ws o₂ ds p e r k

plain-good : (ds : List Decl) → any_noted ds ≡ false → are_names (map name_of ds) ≡ true → GoodDecls ds
plain-good [] e h = tt
plain-good ((n, absent) ∷ ds) e h = (and_left (between 0 65535 n) (are_names (map name_of ds)) h, tt, plain-good ds e (and_right (between 0 65535 n) (are_names (map name_of ds)) h))
plain-good ((n, some f) ∷ ds) e h = absurd (clash cc)

deep-good : (ds : List Decl) → OkDecls 62 (unlisted ds) → GoodDecls ds
deep-good [] w = tt
deep-good ((n, absent) ∷ ds) (ok-bare h w) = (h, tt, deep-good ds w)
deep-good ((n, some f) ∷ ds) (ok-typed h g w) = (h, ok-deep g 63 (omega arith), deep-good ds w)

module _ (k : ℕ) (ds : List Decl) (g v : Form) where
  noted-good : Ok 63 expr (noted 873 (k ∷ length ds ∷ []) (unlisted ds) (more g (more v none))) → GoodDecls ds
  noted-good (ok-noted a r w j) = deep-good ds w

  node-good : any_noted ds ≡ false → Ok 63 expr (node 803 (k ∷ length ds ∷ []) (map name_of ds) (more g (more v none))) → GoodDecls ds
  node-good e (ok-node {p = p} {e = e'} l r j) =
      plain-good ds e (set-names ((k ∷ length ds ∷ []) ++ (map name_of ds ++ [])) (k ∷ length ds ∷ []) (map name_of ds) p e' [] (rw tag-803 at (r [])))

  pub set-good : Ok 63 expr (set_of k ds g v) → GoodDecls ds
  set-good ok = go (any_noted ds) refl ok
    where
      go : (z : Bool) → any_noted ds ≡ z → Ok 63 expr (pick z (noted 873 (k ∷ length ds ∷ []) (unlisted ds) (more g (more v none))) (node 803 (k ∷ length ds ∷ []) (map name_of ds) (more g (more v none)))) → GoodDecls ds
      go true e ok = noted-good ok
      go false e ok = node-good e ok

  pub encode-set : encode (set_of k ds g v) ≡ set_head k ds ++ (encode g ++ encode v)
  unfolding encode
  encode-set = go (any_noted ds)
    where
      go : (z : Bool) → encode (pick z (noted 873 (k ∷ length ds ∷ []) (unlisted ds) (more g (more v none))) (node 803 (k ∷ length ds ∷ []) (map name_of ds) (more g (more v none))))
          ≡ pick z (873 ∷ k ∷ length ds ∷ encode_decls (unlisted ds)) (803 ∷ k ∷ length ds ∷ map name_of ds) ++ (encode g ++ encode v)
      go true = rw append-nil
      go false = rw append-nil

-- the head of a comprehension in a row
module _ (row : List ℕ) (at k : ℕ) (ds : List Decl) (rest : List ℕ) (words : drop at row ≡ set_head k ds ++ rest) where
  abbrev Head-is : Bool → Type 0
  Head-is z = drop at row ≡ pick z (873 ∷ k ∷ length ds ∷ encode_decls (unlisted ds)) (803 ∷ k ∷ length ds ∷ map name_of ds) ++ rest

  pub head-tag : get_or row at 0 ≡ pick (any_noted ds) 873 803
  head-tag = rw add-zero at (sym (get_or-drop at row 0 0)) ∙ go (any_noted ds) words
    where
      go : (z : Bool) → Head-is z → get_or (drop at row) 0 0 ≡ pick z 873 803
      go true e = ap (λ (l : List ℕ). get_or l 0 0) e
      go false e = ap (λ (l : List ℕ). get_or l 0 0) e

  pub head-count : get_or row (at + 2) 0 ≡ length ds
  head-count = sym (get_or-drop at row 2 0) ∙ go (any_noted ds) words
    where
      go : (z : Bool) → Head-is z → get_or (drop at row) 2 0 ≡ length ds
      go true e = ap (λ (l : List ℕ). get_or l 2 0) e
      go false e = ap (λ (l : List ℕ). get_or l 2 0) e

  pub head-long : at + 2 < length row
  head-long = go (any_noted ds) words
    where
      go : (z : Bool) → Head-is z → at + 2 < length row
      go true e = let l = length-drop at row in let m = ap length e in omega arith
      go false e = let l = length-drop at row in let m = ap length e in omega arith

  pub guard-after : GoodDecls ds → guard_at row at (length ds) ≡ at + length (set_head k ds)
  unfolding guard_at
  guard-after good = rw head-tag (go (any_noted ds) words)
    where
      go : (z : Bool) → Head-is z
          → pick (eqb (pick z 873 803) 803) (at + (3 + length ds)) (decls_end row (at + 3) (length ds)) ≡ at + length (pick z (873 ∷ k ∷ length ds ∷ encode_decls (unlisted ds)) (803 ∷ k ∷ length ds ∷ map name_of ds))
      go true e =
          let b : drop (at + 3) row ≡ encode_decls (unlisted ds) ++ rest = rw (← drop-drop 3 at row, e) in
          decls-end row ds (at + 3) rest good b ∙ omega arith
      go false e = rw (length-map ds name_of) (omega arith)
