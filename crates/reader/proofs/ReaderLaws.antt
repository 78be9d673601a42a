-- What the readers of expressions and predicates tell of a position, and the marks that they leave. Assumes nothing.
use mathlib.Core.Path.{◌≡◌, refl, ap, sym, ◌∙◌}
use mathlib.Core.Bool.{Bool, true, false, ◌&&◌}
use mathlib.Core.List.{List, [], ◌∷◌, ◌++◌}
use Prim.Native.Nat.{ℕ, zero, suc, ◌+◌, ◌-◌, ◌≤◌, ◌<◌}
use native.Mathlib.Numerals.{add-one, sub-one}
use native.Mathlib.Omega.{arith}
use borrow.Author.Tests.{le-leb, lt-leb}
use lib.Dec.{leb}
use lib.ListN.{length, get_or, drop, set, replicate, length-append}
use Rattle.tree.specs.Form.{Leaf, Form, leaf, node, Decls, names_of, any_typed, Forms, none, pick, encode, encode_decls, encode_all}
use Rattle.tree.specs.Tag.{Sort, expr, own, own_of, shape_of, expr_tags, sorts}
use Rattle.form.specs.Decode.{Head, head, flagged, bad, read, Got, got, no-form, Gots, gots, no-forms, leaf_at, is_leaf, make, add_form, close, chain, decode_all, GotDecls, declared, no-decls, decls, close_noted, with_decls, branch, decode}
use Rattle.form.specs.Internal.Heads.{head_at, starts_leaf}
use Rattle.reader.specs.Internal.Reads.{mark, mark_decls, mark_all, mark_tag, Told, ToldAll, ToldNoted, decode_in}
use Rattle.form.specs.declared.head.Head as code
use Rattle.form.specs.declared.head.Head.TheVariants.{Kids, Noted}
use Rattle.form.proofs.DecodeLaws.{clash, high-tag, read-exact, read_at, all_sound, decode-at, made, flags-at}
use Rattle.form.proofs.HeadLaws.{gone, here, head-rises, flags-rise}
use Rattle.std.specs.Prelude.{Some, None, Option}

-- what is read at a position: nothing past the end, else the node that begins there
pub no_word : (d : ℕ) (s : Sort) → decode d s [] ≡ no-form
unfolding decode
no_word zero s = refl
no_word (suc d) s = refl

pub node-here : (d : ℕ) (s : Sort) (row : List ℕ) (at : ℕ) → at < length row
    → decode (suc d) s (drop at row) ≡ branch (λ s l. decode d s l) (get_or row at 0) (read (own s (get_or row at 0)) (drop (at + 1) row))
unfolding decode
node-here d s row at h = rw (here row at h) refl

-- nothing is read of several forms where nothing is read of the first of them
no_add : (f : Form) (g : Gots) → add_form f g ≡ no-forms → g ≡ no-forms
no_add f (gots fs x) e = absurd (clash cc)
no_add f no-forms e = refl

no-chain : (z : Got) (k k' : List ℕ → Gots) → ((x : List ℕ) → k x ≡ no-forms → k' x ≡ no-forms) → chain z k ≡ no-forms → chain z k' ≡ no-forms
no-chain (got f x) k k' h e = rw (h x (no_add f (k x) e))
no-chain no-form k k' h e = refl

pub no_both : (d : ℕ) (ss ss' : List Sort) (l : List ℕ) → decode_all (λ s l. decode d s l) ss l ≡ no-forms → decode_all (λ s l. decode d s l) (ss ++ ss') l ≡ no-forms
unfolding decode_all
no_both d [] ss' l e = absurd (clash cc)
no_both d (s ∷ ss) ss' l e = no-chain (decode d s l) (λ x. decode_all (λ s l. decode d s l) ss x) (λ x. decode_all (λ s l. decode d s l) (ss ++ ss') x) (λ x k. no_both d ss ss' x k) e

-- an answer taken apart
pub told-end : (p u : ℕ) (g : Got) (a b : List ℕ) (r : Option ℕ) (q : ℕ) → Told p u g a b r → r ≡ Some q → (f : Form) × (x : List ℕ) × (g ≡ got f x) × (q ≡ p + length (encode f)) × (b ≡ mark f p u a)
unfolding Told
told-end p u (got f x) a b r q t e = (f, x, refl, cc t.0, t.1)
told-end p u no-form a b r q t e = absurd (clash cc)

pub told-bad : (p u : ℕ) (g : Got) (a b : List ℕ) (r : Option ℕ) → Told p u g a b r → r ≡ None → g ≡ no-form
unfolding Told
told-bad p u (got f x) a b r t e = let z = t.0 in absurd (clash cc)
told-bad p u no-form a b r t e = refl

told_all-bad : (p u : ℕ) (g : Gots) (a b : List ℕ) (r : Option ℕ) → ToldAll p u g a b r → r ≡ None → g ≡ no-forms
unfolding ToldAll
told_all-bad p u (gots f x) a b r t e = let z = t.0 in absurd (clash cc)
told_all-bad p u no-forms a b r t e = refl

pub rises : (p u : ℕ) (g : Got) (a b : List ℕ) (r : Option ℕ) (q : ℕ) → Told p u g a b r → r ≡ Some q → p ≤ q
rises p u g a b r q t e = let (f, x, y, z, w) = told-end p u g a b r q t e in omega arith

pub rises-all : (p u : ℕ) (g : Gots) (a b : List ℕ) (r : Option ℕ) (q : ℕ) → ToldAll p u g a b r → r ≡ Some q → p ≤ q
unfolding ToldAll
rises-all p u (gots fs x) a b r q t e = let z : Some q ≡ Some (p + length (encode_all fs)) = sym e ∙ t.0 in let y : q ≡ p + length (encode_all fs) = cc in omega arith
rises-all p u no-forms a b r q t e = absurd (clash cc)

bad-told : (p u : ℕ) (g : Got) (a b : List ℕ) → g ≡ no-form → Told p u g a b None
unfolding Told
bad-told p u g a b e = rw e refl

bad-told_all : (p u : ℕ) (g : Gots) (a b : List ℕ) → g ≡ no-forms → ToldAll p u g a b None
unfolding ToldAll
bad-told_all p u g a b e = rw e refl

-- one form more in front, and taken away again
add-told : (p q u : ℕ) (f : Form) (g : Gots) (a a' b : List ℕ) (r : Option ℕ) → q ≡ p + length (encode f) → a' ≡ mark f p u a → ToldAll q u g a' b r → ToldAll p u (add_form f g) a b r
unfolding ToldAll encode mark
add-told p q u f (gots fs x) a a' b r e m t = (t.0 ∙ ap Some (rw length-append (omega arith)), rw (← e, ← m) t.1)
add-told p q u f no-forms a a' b r e m t = t

told_add : (p u : ℕ) (f : Form) (g : Gots) (a b : List ℕ) (r : Option ℕ) → ToldAll p u (add_form f g) a b r → ToldAll (p + length (encode f)) u g (mark f p u a) b r
unfolding ToldAll encode mark
told_add p u f (gots fs x) a b r t = (t.0 ∙ ap Some (rw length-append (omega arith)), t.1)
told_add p u f no-forms a b r t = t

module _ (d : ℕ) (row : List ℕ) (u : ℕ) where
  -- the first of several
  step : (s : Sort) (ss : List Sort) (p q : ℕ) (a a' b : List ℕ) (r r' : Option ℕ) → Told p u (decode d s (drop p row)) a a' r → r ≡ Some q
      → ToldAll q u (decode_all (λ s l. decode d s l) ss (drop q row)) a' b r' → ToldAll p u (decode_all (λ s l. decode d s l) (s ∷ ss) (drop p row)) a b r'
  unfolding decode_all
  step s ss p q a a' b r r' t e h =
      let (f, x, g, l, m) = told-end p u (decode d s (drop p row)) a a' r q t e in
      let y : x ≡ drop q row = decode-at d s row p f x g ∙ ap (λ n. drop n row) (sym l) in
      rw (g, y) (add-told p q u f (decode_all (λ s l. decode d s l) ss (drop q row)) a a' b r' l m h)

  pub all_more : (s : Sort) (n p q : ℕ) (a a' : List ℕ) (r : Option ℕ) → 0 < n → Told p u (decode d s (drop p row)) a a' r → r ≡ Some q
      → (b : List ℕ) (r' : Option ℕ) → ToldAll q u (decode_all (λ s l. decode d s l) (replicate (n - 1) s) (drop q row)) a' b r' → ToldAll p u (decode_all (λ s l. decode d s l) (replicate n s) (drop p row)) a b r'
  all_more s zero p q a a' r h t e b r' k = absurd (omega arith)
  all_more s (suc n) p q a a' r h t e b r' k = step s (replicate n s) p q a a' b r r' t e (rw sub-one at k)

  pub all-stop : (s : Sort) (n p : ℕ) (a a' b : List ℕ) (r : Option ℕ) → 0 < n → Told p u (decode d s (drop p row)) a a' r → r ≡ None
      → ToldAll p u (decode_all (λ s l. decode d s l) (replicate n s) (drop p row)) a b None
  unfolding decode_all
  all-stop s zero p a a' b r h t e = absurd (omega arith)
  all-stop s (suc n) p a a' b r h t e = bad-told_all p u _ a b (rw (told-bad p u (decode d s (drop p row)) a a' r t e) refl)

  pub all_none : (s : Sort) (n p : ℕ) (a : List ℕ) → n ≤ 0 → ToldAll p u (decode_all (λ s l. decode d s l) (replicate n s) (drop p row)) a a (Some p)
  unfolding decode_all ToldAll encode mark
  all_none s zero p a h = (ap Some (omega arith), refl)
  all_none s (suc n) p a h = absurd (omega arith)

  -- some, and then others
  none_told : (p q : ℕ) (x a a' : List ℕ) (r : Option ℕ) → ToldAll p u (gots none x) a a' r → r ≡ Some q → (p ≡ q) × (a ≡ a')
  unfolding ToldAll encode mark
  none_told p q x a a' r t e =
      let z : Some q ≡ Some (p + 0) = sym e ∙ t.0 in
      let y : q ≡ p + 0 = cc in
      (omega arith, sym t.1)

  abbrev All : List Sort → ℕ → List ℕ → List ℕ → Option ℕ → Type 0
  All ss p a b r = ToldAll p u (decode_all (λ s l. decode d s l) ss (drop p row)) a b r

  both-none : (ss : List Sort) (p q : ℕ) (a a' b : List ℕ) (r : Option ℕ) → p ≡ q → a ≡ a' → All ss q a' b r → All ss p a b r
  both-none ss p q a a' b r e m h = rw (e, m) h

  both-step : (ss ss' : List Sort) (s : Sort) (p q : ℕ) (a a' b : List ℕ) (r r' : Option ℕ) (z : Got) → decode d s (drop p row) ≡ z
      → ((p' : ℕ) (a₀ : List ℕ) → All ss p' a₀ a' r → All (ss ++ ss') p' a₀ b r')
      → ToldAll p u (chain z (λ x. decode_all (λ s l. decode d s l) ss x)) a a' r → r ≡ Some q → ToldAll p u (chain z (λ x. decode_all (λ s l. decode d s l) (ss ++ ss') x)) a b r'
  unfolding ToldAll
  both-step ss ss' s p q a a' b r r' (got f x) k ih t e =
      let y : x ≡ drop (p + length (encode f)) row = decode-at d s row p f x k in
      rw y (add-told p (p + length (encode f)) u f (decode_all (λ s l. decode d s l) (ss ++ ss') (drop (p + length (encode f)) row)) a (mark f p u a) b r' refl refl
      (ih (p + length (encode f)) (mark f p u a) (rw y at (told_add p u f (decode_all (λ s l. decode d s l) ss x) a a' r t))))
  both-step ss ss' s p q a a' b r r' no-form k ih t e = absurd (clash cc)

  pub both_go : (ss ss' : List Sort) (p q : ℕ) (a a' b : List ℕ) (r r' : Option ℕ) → All ss p a a' r → r ≡ Some q → All ss' q a' b r' → All (ss ++ ss') p a b r'
  unfolding decode_all
  both_go [] ss' p q a a' b r r' t e h = let (x, y) = none_told p q (drop p row) a a' r t e in both-none ss' p q a a' b r' x y h
  both_go (s ∷ ss) ss' p q a a' b r r' t e h = both-step ss ss' s p q a a' b r r' (decode d s (drop p row)) refl (λ p' a₀ t'. both_go ss ss' p' q a₀ a' b r r' t' e h) t e

  pub both-stop : (ss ss' : List Sort) (p : ℕ) (a a' b : List ℕ) (r : Option ℕ) → All ss p a a' r → r ≡ None → All (ss ++ ss') p a b None
  both-stop ss ss' p a a' b r t e = bad-told_all p u _ a b (no_both d ss ss' (drop p row) (told_all-bad p u (decode_all (λ s l. decode d s l) ss (drop p row)) a a' r t e))

-- a form, from its own words and its children
made-mark : (t : ℕ) (o ds : List ℕ) (ks : Forms) (at u p : ℕ) (m m₂ : List ℕ) (b : Bool) (x : Leaf) → p ≡ at + 1 + (length o + length ds) → (b ≡ true → ks ≡ none)
    → m₂ ≡ mark_all ks p (u + length ds) (pick b (set m at (suc u)) m) → m₂ ≡ mark (pick b (leaf x) (node t o ds ks)) at u m
unfolding mark
made-mark t o ds ks at u p m m₂ true x e l h = rw (l refl) at h
made-mark t o ds ks at u p m m₂ false x e l h =
    let a : at + suc (length o + length ds) ≡ p = omega arith in
    let c : length ds + u ≡ u + length ds = omega arith in
    rw (a, c) h

module _ (s : Sort) (row : List ℕ) (at u : ℕ) where
  pub too-deep : (d : ℕ) (a b : List ℕ) → d ≡ 0 → Told at u (decode d s (drop at row)) a b None
  unfolding decode
  too-deep d a b e = bad-told at u _ a b (rw e refl)

  pub past_end : (d : ℕ) (a b : List ℕ) → length row ≤ at → Told at u (decode d s (drop at row)) a b None
  past_end d a b h = bad-told at u _ a b (rw (gone row at h) (no_word d s))

  module _ (d : ℕ) (t : ℕ) where
    close-told : (o ds : List ℕ) (x y p : ℕ) (m m₁ m₂ : List ℕ) (r : Option ℕ) (g : Gots) → decode_all (λ s l. decode d s l) (sorts x y) (drop p row) ≡ g
        → ((l : List ℕ) → read (own s t) (o ++ (ds ++ l)) ≡ head o ds x y l) → p ≡ at + 1 + (length o + length ds) → m₁ ≡ mark_tag t at u m
        → ToldAll p (u + length ds) g m₁ m₂ r → Told at u (close t o ds g) m m₂ r
    unfolding Told ToldAll mark_tag
    close-told o ds x y p m m₁ m₂ r (gots ks l) q h e m₁e k =
        let (v, n) = all_sound d (sorts x y) (drop p row) ks l q in
        let (w, z, i) = made d s t o ds x y ks (is_leaf t) refl h n in
        let len : length (encode (make t o ds ks)) ≡ suc (length o + (length ds + length (encode_all ks))) = rw (← w, length-append, length-append) refl in
        (k.0 ∙ ap Some (omega arith), made-mark t o ds ks at u p m m₂ (is_leaf t) (leaf_at t (get_or o 0 0)) e i (rw (← m₁e) k.1))
    close-told o ds x y p m m₁ m₂ r no-forms q h e m₁e k = k

    branch-told : (z : Head) (x y w p : ℕ) (m m₁ m₂ : List ℕ) (r : Option ℕ) → read (own s t) (drop (at + 1) row) ≡ z → head_at (at + 1) z ≡ Some (Kids p x y w) → m₁ ≡ mark_tag t at u m
        → ToldAll p (u + w) (decode_all (λ s l. decode d s l) (sorts x y) (drop p row)) m₁ m₂ r → Told at u (branch (λ s l. decode d s l) t z) m m₂ r
    unfolding head_at
    branch-told (head o ds x' y' l) x y w p m m₁ m₂ r q e m₁e k =
        let ep : p ≡ at + 1 + (length o + length ds) = cc in
        let ex : x' ≡ x = cc in
        let ey : y' ≡ y = cc in
        let ew : w ≡ length ds = cc in
        let (v, h) = read-exact (own s t) (drop (at + 1) row) o ds x' y' l q in
        let el : l ≡ drop p row = read_at (own s t) row (at + 1) o ds x' y' l q ∙ ap (λ n. drop n row) (sym ep) in
        let h' : (l : List ℕ) → read (own s t) (o ++ (ds ++ l)) ≡ head o ds x y l = λ l. h l ∙ cc in
        rw (ex, ey, el) (close-told o ds x y p m m₁ m₂ r _ refl h' ep m₁e (rw ew at k))
    branch-told (flagged o n x' y' l) x y w p m m₁ m₂ r q e m₁e k = absurd (clash cc)
    branch-told bad x y w p m m₁ m₂ r q e m₁e k = absurd (clash cc)

    -- a node whose declarations have flags
    close-noted : (o : List ℕ) (ds : Decls) (p : ℕ) (m m₂ : List ℕ) (r : Option ℕ) (g : Gots) (b : Bool) → any_typed ds ≡ b → p ≡ at + 1 + length o
        → pick b (ToldAll (p + length (encode_decls ds)) (u + length (names_of ds)) g (mark_decls ds p u m) m₂ r) (r ≡ None) → Told at u (close_noted t o ds g) m m₂ r
    unfolding Told ToldAll encode mark
    close-noted o ds p m m₂ r (gots ks l) true q e k =
        let a : at + suc (length o + length (encode_decls ds)) ≡ p + length (encode_decls ds) = omega arith in
        let b : at + suc (length o) ≡ p = omega arith in
        let c : length (names_of ds) + u ≡ u + length (names_of ds) = omega arith in
        rw q (k.0 ∙ ap Some (rw (length-append, length-append) (omega arith)), rw (a, b, c) k.1)
    close-noted o ds p m m₂ r no-forms true q e k = k
    close-noted o ds p m m₂ r (gots ks l) false q e k = rw q k
    close-noted o ds p m m₂ r no-forms false q e k = k

    decls-told : (o : List ℕ) (g : GotDecls) (x y p : ℕ) (m m₂ : List ℕ) (r : Option ℕ) → p ≡ at + 1 + length o
        → ToldNoted p u g (λ l. decode_all (λ s l. decode d s l) (sorts x y) l) m m₂ r → Told at u (with_decls (λ s l. decode d s l) t o x y g) m m₂ r
    unfolding ToldNoted
    decls-told o (declared ds l) x y p m m₂ r e k = close-noted o ds p m m₂ r (decode_all (λ s l. decode d s l) (sorts x y) l) (any_typed ds) refl e k
    decls-told o no-decls x y p m m₂ r e k = bad-is k
      where
        bad-is : r ≡ None → Told at u no-form m m₂ r
        bad-is q = rw q (bad-told at u no-form m m₂ refl)

    branch-noted : (z : Head) (x y w p : ℕ) (m m₂ : List ℕ) (r : Option ℕ) → read (own s t) (drop (at + 1) row) ≡ z → head_at (at + 1) z ≡ Some (Noted p x y w)
        → ToldNoted p u (decls (λ s l. decode d s l) w (drop p row)) (λ l. decode_all (λ s l. decode d s l) (sorts x y) l) m m₂ r → Told at u (branch (λ s l. decode d s l) t z) m m₂ r
    unfolding head_at
    branch-noted (head o ds x' y' l) x y w p m m₂ r q e k = absurd (clash cc)
    branch-noted (flagged o n x' y' l) x y w p m m₂ r q e k =
        let ep : p ≡ at + 1 + length o = cc in
        let ex : x' ≡ x = cc in
        let ey : y' ≡ y = cc in
        let ew : n ≡ w = cc in
        let el : l ≡ drop p row = flags-at (own s t) row (at + 1) o n x' y' l q ∙ ap (λ n. drop n row) (sym ep) in
        rw (ex, ey, ew, el) (decls-told o _ x y p m m₂ r ep k)
    branch-noted bad x y w p m m₂ r q e k = absurd (clash cc)

    branch-bad : (z : Head) (m m₂ : List ℕ) → head_at (at + 1) z ≡ None → Told at u (branch (λ s l. decode d s l) t z) m m₂ None
    unfolding head_at
    branch-bad (head o ds x y l) m m₂ e = absurd (clash cc)
    branch-bad (flagged o n x y l) m m₂ e = absurd (clash cc)
    branch-bad bad m m₂ e = bad-told at u no-form m m₂ refl

  module _ {h : Option code.Head} (low : at < length row) (hd : h ≡ head_at (at + 1) (read (own s (get_or row at 0)) (drop (at + 1) row))) where
    pub no_own : (d : ℕ) (a b : List ℕ) → (d ≡ 0 → ⊥) → h ≡ None → Told at u (decode d s (drop at row)) a b None
    no_own zero a b ne e = absurd (ne refl)
    no_own (suc d) a b ne e = rw (node-here d s row at low) (branch-bad d (get_or row at 0) _ a b (sym hd ∙ e))

    pub a-form : (d p x y w : ℕ) (m m₁ m₂ : List ℕ) (r : Option ℕ) → (d ≡ 0 → ⊥) → h ≡ Some (Kids p x y w) → m₁ ≡ mark_tag (get_or row at 0) at u m
        → ToldAll p (u + w) (decode_all (λ s l. decode (d - 1) s l) (sorts x y) (drop p row)) m₁ m₂ r → Told at u (decode d s (drop at row)) m m₂ r
    a-form zero p x y w m m₁ m₂ r ne e k t = absurd (ne refl)
    a-form (suc d) p x y w m m₁ m₂ r ne e k t = rw (node-here d s row at low) (branch-told d (get_or row at 0) _ x y w p m m₁ m₂ r refl (sym hd ∙ e) k (rw sub-one at t))

    pub a-noted : (d p x y w : ℕ) (m m₂ : List ℕ) (r : Option ℕ) → (d ≡ 0 → ⊥) → h ≡ Some (Noted p x y w)
        → ToldNoted p u (decls (λ s l. decode (d - 1) s l) w (drop p row)) (λ l. decode_all (λ s l. decode (d - 1) s l) (sorts x y) l) m m₂ r → Told at u (decode d s (drop at row)) m m₂ r
    a-noted zero p x y w m m₂ r ne e t = absurd (ne refl)
    a-noted (suc d) p x y w m m₂ r ne e t = rw (node-here d s row at low) (branch-noted d (get_or row at 0) _ x y w p m m₂ r refl (sym hd ∙ e) (rw sub-one at t))

    pub flags-after : (p x y w : ℕ) → h ≡ Some (Noted p x y w) → at < p
    flags-after p x y w e = go (read (own s (get_or row at 0)) (drop (at + 1) row)) (sym hd ∙ e)
      where
        go : (z : Head) → head_at (at + 1) z ≡ Some (Noted p x y w) → at < p
        go z e = let q = flags-rise (at + 1) p x y w z e in omega arith

    pub kids-after : (p x y w : ℕ) → h ≡ Some (Kids p x y w) → at < p
    kids-after p x y w e = go (read (own s (get_or row at 0)) (drop (at + 1) row)) (sym hd ∙ e)
      where
        go : (z : Head) → head_at (at + 1) z ≡ Some (Kids p x y w) → at < p
        go z e = let q = head-rises (at + 1) p x y w z e in omega arith

-- a name or an index, read without the table of tags
module _ (row : List ℕ) (at d : ℕ) where
  pub leaf-told : (u : ℕ) (a : List ℕ) → starts_leaf d (drop at row) ≡ true → Told at u (decode d expr (drop at row)) a (set a at (suc u)) (Some (at + 2))
  unfolding decode decode_all read own own_of shape_of expr_tags Told encode mark starts_leaf
  leaf-told u a e = go d (drop at row) e
    where
      word-told : (t : ℕ) (d w : ℕ) (ws : List ℕ) → is_leaf t ≡ true → leb w 65535 ≡ true → Told at u (decode (suc d) expr (t ∷ w ∷ ws)) a (set a at (suc u)) (Some (at + 2))
      word-told zero d w ws l e = absurd (clash cc)
      word-told (suc zero) d w ws l e = rw (le-leb 0 w (omega arith), e) (refl, refl)
      word-told (suc (suc zero)) d w ws l e = rw (le-leb 0 w (omega arith), e) (refl, refl)
      word-told (suc (suc (suc t))) d w ws l e = let h = high-tag t in absurd (clash cc)

      both : (t d w : ℕ) (ws : List ℕ) (b c : Bool) → is_leaf t ≡ b → leb w 65535 ≡ c → (b && c) ≡ true → Told at u (decode (suc d) expr (t ∷ w ∷ ws)) a (set a at (suc u)) (Some (at + 2))
      both t d w ws true true l e k = word-told t d w ws l e
      both t d w ws true false l e k = absurd (clash cc)
      both t d w ws false c l e k = absurd (clash cc)

      go : (d : ℕ) (l : List ℕ) → starts_leaf d l ≡ true → Told at u (decode d expr l) a (set a at (suc u)) (Some (at + 2))
      go d [] e = absurd (clash cc)
      go d (t ∷ []) e = absurd (clash cc)
      go zero (t ∷ w ∷ ws) e = absurd (clash cc)
      go (suc d) (t ∷ w ∷ ws) e = both t d w ws (is_leaf t) (leb w 65535) refl refl (rw (le-leb 1 (suc d) (omega arith)) at e)

  leaf-was : (b : Bool) (p q : ℕ) (r : Option ℕ) → r ≡ pick b (Some p) None → r ≡ Some q → (b ≡ true) × (q ≡ p)
  leaf-was true p q r e k = (refl, cc)
  leaf-was false p q r e k = absurd (clash cc)

  leaf-was-not : (b : Bool) (p : ℕ) (r : Option ℕ) → r ≡ pick b (Some p) None → r ≡ None → b ≡ false
  leaf-was-not true p r e k = absurd (clash cc)
  leaf-was-not false p r e k = refl

  pub leaf-taken : (u q : ℕ) (a m : List ℕ) (r : Option ℕ) → r ≡ pick (starts_leaf d (drop at row)) (Some (at + 2)) None → m ≡ pick (starts_leaf d (drop at row)) (set a at (u + 1)) a → r ≡ Some q
      → Told at u (decode d expr (drop at row)) a m (Some q)
  leaf-taken u q a m r e k f =
      let (b, z) = leaf-was (starts_leaf d (drop at row)) (at + 2) q r e f in
      let w : m ≡ set a at (suc u) = rw (b, add-one) at k in
      rw (w, z) (leaf-told u a b)

  pub leaf-else : (u : ℕ) (a m b : List ℕ) (r r' : Option ℕ) → r ≡ pick (starts_leaf d (drop at row)) (Some (at + 2)) None → m ≡ pick (starts_leaf d (drop at row)) (set a at (u + 1)) a → r ≡ None
      → Told at u (decode d expr (drop at row)) m b r' → Told at u (decode d expr (drop at row)) a b r'
  leaf-else u a m b r r' e k f t = let w : m ≡ a = rw (leaf-was-not (starts_leaf d (drop at row)) (at + 2) r e f) at k in rw w at t

-- within the limits of depth and open declarations the guarded reading is the reading, outside them nothing is read
module _ (s : Sort) (ws : List ℕ) where
  pub in-decode : (d u : ℕ) → d ≤ 65535 → u ≤ 65535 → decode_in d u s ws ≡ decode d s ws
  unfolding decode_in
  in-decode d u deep few = rw (le-leb d 65535 deep, le-leb u 65535 few)

  pub told-deep : (at d u : ℕ) (a b : List ℕ) → 65535 < d → Told at u (decode_in d u s ws) a b None
  unfolding decode_in Told
  told-deep at d u a b h = rw (lt-leb d 65535 h) refl

  pub told_under : (at d u : ℕ) (a b : List ℕ) → d ≤ 65535 → 65535 < u → Told at u (decode_in d u s ws) a b None
  unfolding decode_in Told
  told_under at d u a b deep h = rw (le-leb d 65535 deep, lt-leb u 65535 h) refl

  pub told_in : (at d u : ℕ) (a b : List ℕ) (r : Option ℕ) → d ≤ 65535 → u ≤ 65535 → Told at u (decode d s ws) a b r → Told at u (decode_in d u s ws) a b r
  told_in at d u a b r deep few t = rw (in-decode d u deep few) t
