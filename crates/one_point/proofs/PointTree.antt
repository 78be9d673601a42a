-- One declaration of several replaced by an expression, on the tree: the others round the body, or those in front joined with the body's own.
-- Assumes nothing.
use mathlib.Core.Path.{◌≡◌, subst as carried, refl, ap, sym, ◌∙◌}
use mathlib.Core.Bool.{Bool, true, false, ◌&&◌, ◌||◌, and-true, and_assoc}
use mathlib.Core.List.{List, [], ◌∷◌, ◌++◌, map, append-nil, reverse, reverse-cons, reverse-append}
use mathlib.Core.Option.{none as absent, some}
use Prim.Native.Nat.{ℕ, zero, suc, ◌+◌, ◌-◌, ◌≤◌, ◌<◌}
use native.Mathlib.Omega.{arith}
use borrow.Author.Tests.{le-leb, lt-leb, leb-true, leb-false, ne_eqb, eqb-true}
use lib.Dec.{eqb, leb}
use lib.ListN.{length, get_or, take, drop, set, replicate, length-drop, length-map, length-replicate}
use lib.Seq.{length-take-le}
use Rattle.tree.specs.Form.{bound, Form, leaf, node, noted, Decls, names_of, Forms, none, more, pick, encode}
use Rattle.tree.specs.Tag.{pred}
use Rattle.form.specs.Lists.{Place, kept, filled}
use Rattle.form.proofs.DecodeLaws.{clash, Ok, ok-node, ok-noted}
use Rattle.rules.specs.Walk.{Outer, named, dangling, walk, walk_decls, walk_all, lift, put, subst, collect, each}
use Rattle.rules.specs.Shift.{reaches, fall, lower}
use Rattle.rules.specs.Fill.{Decl, unnoted, listed, unlisted, quantifier, other, quantified, around, quantify, kept_count, kept_decls, fill_for, fill}
use Rattle.rules.specs.Prune.{is_not}
use Rattle.rules.specs.Partial.{on_note, no_places, set_place, put_round, instantiate_partial}
use Rattle.rules.specs.Replacement.{above}
use Rattle.rules.proofs.WalkLaws.{each_decls, binding-add, subst-subst, and_left, and_right, always, each-agree, each-always, walk-agree}
use Rattle.rules.proofs.TreeLaws.{after, lift-zero, each-walk}
use Rattle.rules.proofs.ReplicateLaws.{replicate-front}
use Rattle.rules.proofs.FrontLaws.{places-are, front-is, rest-is, kept-decls, unlike-stays}
use Rattle.rules.proofs.JoinLaws.{round-stays, round-other, unused_notes}
use Rattle.rules.proofs.JoinFill.{deeper, fits, fill-joined, fill-apart}
use Rattle.replace.proofs.FillTree.{word_for}
use Rattle.decls.specs.Internal.Used.{cleared_by}
use Rattle.one_point.specs.Internal.Reduce.{placed_form}
use Rattle.one_point.specs.Internal.Noted.{all_ones, joining_by}
use Rattle.one_point.specs.declared.joined.Joining.TheVariants.{Apart, Unused, Used}

-- the places of the declarations from the replaced one on
abbrev pub point_places : ℕ → Form → List Place
point_places i e = filled (lower (suc i) e) ∷ replicate i kept

-- the declarations that are kept
pub kept-front : (j : ℕ) (ds : List Decl) → j ≤ length ds → kept_decls (replicate j kept) (take j ds) ≡ take j ds
kept-front j ds h = kept-decls (take j ds) j (length-take-le j ds h)

kept-behind : (h : Decl → Decl) (x : Form) (ds : List Decl) (j i : ℕ) → length ds ≡ j + suc i → kept_decls (filled x ∷ replicate i kept) (map h (drop j ds)) ≡ map h (drop (suc j) ds)
kept-behind h x [] zero i e = absurd (omega arith)
kept-behind h x (d ∷ ds) zero i e = kept-decls (map h ds) i (length-map ds h ∙ omega arith)
kept-behind h x [] (suc j) i e = absurd (omega arith)
kept-behind h x (d ∷ ds) (suc j) i e = kept-behind h x ds j i (omega arith)

kept_but : (e : Form) (ds : List Decl) (j i : ℕ) → length ds ≡ j + suc i → kept_decls (replicate j kept ++ (filled e ∷ replicate i kept)) ds ≡ take j ds ++ drop (suc j) ds
kept_but e [] zero i h = absurd (omega arith)
kept_but e (d ∷ ds) zero i h = kept-decls ds i (omega arith)
kept_but e [] (suc j) i h = absurd (omega arith)
kept_but e (d ∷ ds) (suc j) i h = ap (λ z. d ∷ z) (kept_but e ds j i (omega arith))

-- their words
pub zero-words : (i : ℕ) → map word_for (replicate i kept) ≡ replicate i 0
zero-words zero = refl
zero-words (suc i) = ap (λ z. 0 ∷ z) (zero-words i)

but-words : (e : Form) (m j i : ℕ) → j + suc i ≤ m → map word_for (replicate j kept ++ (filled e ∷ replicate i kept)) ≡ take (j + suc i) (set (replicate m 0) j 1)
but-words e zero j i h = absurd (omega arith)
but-words e (suc m) zero i h =
    let k : 0 + suc i ≡ suc i = omega arith in
    rw (k, zero-words i) (ap (λ z. 1 ∷ z) (sym (replicate-front i m 0 (omega arith))))
but-words e (suc m) (suc j) i h = let k : suc j + suc i ≡ suc (j + suc i) = omega arith in rw k (ap (λ z. 0 ∷ z) (but-words e m j i (omega arith)))

module _ (ds : List Decl) (i : ℕ) (e : Form) (low : i < length ds) where
  pub point-words : length ds ≤ 32 → map word_for (set_place (length ds) i e (no_places (length ds))) ≡ take (length ds) (set (replicate 32 0) (length ds - suc i) 1)
  point-words few =
      let k : length ds - suc i + suc i ≡ length ds = omega arith in
      rw (places-are (length ds) i e low) (rw k at (but-words e 32 (length ds - suc i) i (omega arith)))

  pub point-kept : kept_decls (set_place (length ds) i e (no_places (length ds))) ds ≡ take (length ds - suc i) ds ++ drop (suc (length ds - suc i)) ds
  point-kept = rw (places-are (length ds) i e low) (kept_but e ds (length ds - suc i) i (omega arith))

-- the replaced declaration is gone
module _ (t : ℕ) (ds : List Decl) (i : ℕ) (e g : Form) (low : i < length ds) where
  abbrev spot : ℕ
  spot = length ds - suc i

  abbrev gone : Form
  gone = subst (fill_for (point_places i e)) g

  abbrev pub kept_form : Form
  kept_form = quantify t (take spot ds ++ drop (suc spot) ds) gone

  place_is : placed_form t ds i e g ≡ put_round t (take spot ds) (quantify t (map (on_note (lift spot)) (drop (suc spot) ds)) gone)
  unfolding instantiate_partial fill
  place_is =
      let l : length (drop (length ds - suc i) ds) ≡ suc i = length-drop (length ds - suc i) ds ∙ omega arith in
      rw (front-is (length ds) i e low, rest-is (length ds) i e low (length (drop (length ds - suc i) ds)), l, kept-behind (on_note (lift (length ds - suc i))) (lower (suc i) e) ds (length ds - suc i) i (omega arith))

  front_long : length (take spot ds) ≡ spot
  front_long = length-take-le spot ds (omega arith)

  -- something stays behind it
  pub kept-stays : (eqb t 851 || eqb t 852) ≡ true → 0 < i → placed_form t ds i e g ≡ kept_form
  kept-stays which h = place_is ∙ go (drop (suc spot) ds) (length-drop (suc spot) ds)
    where
      go : (ss : List Decl) → length ss ≡ length ds - suc spot → put_round t (take spot ds) (quantify t (map (on_note (lift spot)) ss) gone) ≡ quantify t (take spot ds ++ ss) gone
      go [] l = absurd (omega arith)
      go (s ∷ ss) l = carried (λ k. put_round t (take spot ds) (quantify t (map (on_note (lift k)) (s ∷ ss)) gone) ≡ quantify t (take spot ds ++ s ∷ ss) gone) front_long (round-stays t which (take spot ds) s ss gone)

  none-behind : i ≡ 0 → drop (suc spot) ds ≡ []
  none-behind h = go (drop (suc spot) ds) (length-drop (suc spot) ds)
    where
      go : (ss : List Decl) → length ss ≡ length ds - suc spot → ss ≡ []
      go [] l = refl
      go (s ∷ ss) l = absurd (omega arith)

  front-only : i ≡ 0 → placed_form t ds i e g ≡ put_round t (take spot ds) gone
  front-only h = place_is ∙ rw (none-behind h)

  -- it is alone
  pub kept-alone : length ds ≡ 1 → placed_form t ds i e g ≡ kept_form
  unfolding put_round
  kept-alone h =
      let z : length ds - suc i ≡ 0 = omega arith in
      front-only (omega arith) ∙ rw (none-behind (omega arith), z)

  -- the body is not quantified by the same operator, or its annotations mention what stands in front
  module _ (last : i ≡ 0) (several : 2 ≤ length ds) where
    kept_by : ((n : Decl) (ns : List Decl) → take spot ds ≡ n ∷ ns → put_round t (n ∷ ns) gone ≡ quantify t (n ∷ ns) gone) → placed_form t ds i e g ≡ kept_form
    kept_by h = front-only last ∙ (go (take spot ds) refl ∙ rw (none-behind last, append-nil))
      where
        go : (x : List Decl) → take spot ds ≡ x → put_round t x gone ≡ quantify t x gone
        go [] q = let l = front_long in let k = ap length q in absurd (omega arith)
        go (n ∷ ns) q = h n ns q

    pub kept-other : quantified gone ≡ other → placed_form t ds i e g ≡ kept_form
    kept-other q = kept_by (λ n ns x. round-other t n ns gone q)

    pub kept-unlike : (u : ℕ) (es : List Decl) (b : Form) → quantified gone ≡ quantifier u es b → eqb u t ≡ false → placed_form t ds i e g ≡ kept_form
    kept-unlike u es b q h = kept_by (λ n ns x. unlike-stays t u n ns es b gone q h)

-- in front of a body that is a quantifier with the same operator: the last of the declarations is replaced
module _ (t : ℕ) (which : (eqb t 851 || eqb t 852) ≡ true) (ds : List Decl) (several : 2 ≤ length ds) (e : Form) (es : List Decl) (b x : Form) where
  abbrev front : List Decl
  front = take (length ds - 1) ds

  abbrev last_places : List Place
  last_places = point_places 0 e

  abbrev unused_in : Bool
  unused_in = unused_notes (fits (length ds - 1) x last_places refl) (length last_places + (length ds - 1)) es

  abbrev in_body : Form
  in_body = walk (put (fill_for last_places)) (length es) b

  front-some : length front ≡ length ds - 1
  front-some = length-take-le (length ds - 1) ds (omega arith)

  by_front : (P : List Decl → Type 0) → ((n : Decl) (ns : List Decl) → length ds - 1 ≡ suc (length ns) → P (n ∷ ns)) → P front
  by_front P h = go front front-some
    where
      go : (l : List Decl) → length l ≡ length ds - 1 → P l
      go [] k = absurd (omega arith)
      go (n ∷ ns) k = h n ns (sym k)

  round_is : unused_in ≡ true → put_round t front (subst (fill_for last_places) (around t es b)) ≡ quantify t (front ++ map (on_note (subst (fill_for (deeper (length ds - 1) x last_places refl)))) es) in_body
  round_is h =
      by_front (λ z. put_round t z (subst (fill_for last_places) (around t es b)) ≡ quantify t (z ++ map (on_note (subst (fill_for (deeper (length ds - 1) x last_places refl)))) es) in_body)
      (λ n ns k. let c : unused_notes (fits (suc (length ns)) x last_places refl) (length last_places + suc (length ns)) es ≡ true = rw k at h in rw k (fill-joined t which n ns x last_places refl es b c))

  round-not : unused_in ≡ false → put_round t front (subst (fill_for last_places) (around t es b)) ≡ quantify t front (subst (fill_for last_places) (around t es b))
  round-not h =
      by_front (λ z. put_round t z (subst (fill_for last_places) (around t es b)) ≡ quantify t z (subst (fill_for last_places) (around t es b)))
      (λ n ns k. let c : unused_notes (fits (suc (length ns)) x last_places refl) (length last_places + suc (length ns)) es ≡ false = rw k at h in fill-apart t which n ns x last_places refl es b c)

  front-is-point : placed_form t ds 0 e (around t es b) ≡ put_round t front (subst (fill_for last_places) (around t es b))
  front-is-point = front-only t ds 0 e (around t es b) (omega arith) refl

  pub joined_is : unused_in ≡ true → placed_form t ds 0 e (around t es b) ≡ quantify t (front ++ map (on_note (subst (fill_for (deeper (length ds - 1) x last_places refl)))) es) in_body
  joined_is h = front-is-point ∙ round_is h

  pub apart-is : unused_in ≡ false → placed_form t ds 0 e (around t es b) ≡ kept_form t ds 0 e (around t es b) (omega arith)
  apart-is h = front-is-point ∙ (round-not h ∙ rw (none-behind t ds 0 e (around t es b) (omega arith) refl, append-nil))

-- lowered twice
lower-lower : (p q : ℕ) (f : Form) → lower p (lower q f) ≡ lower (q + p) f
unfolding walk
lower-lower p q f = subst-subst (fall q) (fall p) f ∙ walk-agree always (put (λ x. subst (fall p) (fall q x))) (put (fall (q + p))) (λ k x h. ap (lift k) (twice x)) 0 f (each-always 0 f)
  where
    twice : (x : Outer) → subst (fall p) (fall q x) ≡ fall (q + p) x
    twice (named m) = refl
    twice (dangling v) = ap (λ z. leaf (bound z)) (omega arith)

-- the replacement mentions none of the declarations in front, and not the replaced one
less_one : (p v : ℕ) → leb 1 v ≡ true → leb p (v - 1) ≡ leb (suc p) v
less_one p v h = let l = leb-true 1 v h in go (leb (suc p) v) refl
  where
    go : (b : Bool) → leb (suc p) v ≡ b → leb p (v - 1) ≡ b
    go true q = let m = leb-true (suc p) v q in let l = leb-true 1 v h in le-leb p (v - 1) (omega arith)
    go false q = let m = leb-false (suc p) v q in let l = leb-true 1 v h in lt-leb p (v - 1) (omega arith)

low-reach : (p k : ℕ) (x : Outer) → reaches 1 k x ≡ true → after (reaches p) (put (fall 1)) k x ≡ reaches (suc p) k x
unfolding walk collect
low-reach p k (named m) h = refl
low-reach p k (dangling v) h =
    let z : 0 + (v - 1 + k) ≡ k + (v - 1) = omega arith in
    rw (z, binding-add) (less_one p v h)

lower-reach : (p : ℕ) (f : Form) → above 0 f ≡ true → each (reaches p) 0 (lower 1 f) ≡ above p f
lower-reach p f h = each-walk (reaches p) (put (fall 1)) 0 f ∙ each-agree (reaches 1) (after (reaches p) (put (fall 1))) (reaches (suc p)) (low-reach p) 0 f h

module _ (j : ℕ) (e x : Form) where
  pub fits_last : above 0 e ≡ true → fits j x (point_places 0 e) refl 0 ≡ above j e
  fits_last h = rw (lift-zero (lower 1 e)) (lower-reach j e h)

  pub fits-front : (v : ℕ) → v < j → fits j x (point_places 0 e) refl (suc v) ≡ false
  unfolding collect
  fits-front v h = let z : 0 + v ≡ v = omega arith in rw z (lt-leb j v h)

-- by the declarations that the annotations use, the outermost first
abbrev pub front_unused : (ℕ → Bool) → ℕ → Bool
front_unused u zero = true
front_unused u (suc j) = u (suc j) && front_unused u j

pub unused-is : (p : ℕ → Bool) (es : List Decl) (j : ℕ) → ((v : ℕ) → v < j → p (suc v) ≡ false)
    → unused_notes p (suc j) es ≡ (front_unused (λ i. each_decls (is_not i) 0 (unlisted es)) j && (p 0 || each_decls (is_not 0) 0 (unlisted es)))
unused-is p es zero h = and-true (p 0 || each_decls (is_not 0) 0 (unlisted es))
unused-is p es (suc j) h =
    rw (h j (omega arith), unused-is p es j (λ v l. h v (omega arith)))
    (sym (and_assoc (each_decls (is_not (suc j)) 0 (unlisted es)) (front_unused (λ i. each_decls (is_not i) 0 (unlisted es)) j) (p 0 || each_decls (is_not 0) 0 (unlisted es))))

one-if : (b : Bool) → eqb (pick b 1 0) 1 ≡ b
one-if true = refl
one-if false = refl

ones-are : (u : ℕ → Bool) (j : ℕ) → all_ones (take j (cleared_by u (replicate (suc j) 1))) ≡ front_unused u j
unfolding all_ones cleared_by
ones-are u zero = refl
ones-are u (suc j) = rw (ones-are u j, length-replicate {A = ℕ} j 1, one-if (u (suc j)))

last-is : (u : ℕ → Bool) (j : ℕ) → eqb (get_or (cleared_by u (replicate (suc j) 1)) j 0) 1 ≡ u 0
unfolding cleared_by
last-is u zero = one-if (u 0)
last-is u (suc j) = last-is u j

module _ (u : ℕ → Bool) (j : ℕ) (high : Bool) where
  joining-is : joining_by j high (cleared_by u (replicate (suc j) 1)) ≡ pick (front_unused u j) (pick (u 0) Unused (pick high Used Apart)) Apart
  joining-is = rw (ones-are u j, last-is u j)

  pub joins-apart : joining_by j high (cleared_by u (replicate (suc j) 1)) ≡ Apart → (front_unused u j && (high || u 0)) ≡ false
  joins-apart h = go (front_unused u j) (u 0) high (sym joining-is ∙ h)
    where
      go : (a b c : Bool) → pick a (pick b Unused (pick c Used Apart)) Apart ≡ Apart → (a && (c || b)) ≡ false
      go true true c q = absurd (clash cc)
      go true false true q = absurd (clash cc)
      go true false false q = refl
      go false b c q = refl

  pub joins-unused : joining_by j high (cleared_by u (replicate (suc j) 1)) ≡ Unused → ((front_unused u j && (high || u 0)) ≡ true) × (u 0 ≡ true)
  joins-unused h = go (front_unused u j) (u 0) high (sym joining-is ∙ h)
    where
      go : (a b c : Bool) → pick a (pick b Unused (pick c Used Apart)) Apart ≡ Unused → ((a && (c || b)) ≡ true) × (b ≡ true)
      go true true true q = (refl, refl)
      go true true false q = (refl, refl)
      go true false true q = absurd (clash cc)
      go true false false q = absurd (clash cc)
      go false b c q = absurd (clash cc)

  pub joins-used : joining_by j high (cleared_by u (replicate (suc j) 1)) ≡ Used → ((front_unused u j && (high || u 0)) ≡ true) × (high ≡ true)
  joins-used h = go (front_unused u j) (u 0) high (sym joining-is ∙ h)
    where
      go : (a b c : Bool) → pick a (pick b Unused (pick c Used Apart)) Apart ≡ Used → ((a && (c || b)) ≡ true) × (c ≡ true)
      go true true c q = absurd (clash cc)
      go true false true q = (refl, refl)
      go true false false q = absurd (clash cc)
      go false b c q = absurd (clash cc)

-- the places of the lowered annotations
pub deeper-used : (j : ℕ) (e : Form) → deeper j (lower (suc j) e) (point_places 0 e) refl ≡ replicate (suc j) (filled (lower (suc j) e))
deeper-used j e =
    let k : 1 + j ≡ suc j = omega arith in
    rw (lower-lower j 1 e, k) (snoc j (filled (lower (suc j) e)))
  where
    snoc : (m : ℕ) (p : Place) → replicate m p ++ (p ∷ []) ≡ p ∷ replicate m p
    snoc zero p = refl
    snoc (suc m) p = ap (λ z. p ∷ z) (snoc m p)

-- two substitutions that differ only in index 0
pub notes-agree : (σ τ : Outer → Form) → ((x : Outer) → is_not 0 0 x ≡ true → σ x ≡ τ x) → (ds : List Decl) → each_decls (is_not 0) 0 (unlisted ds) ≡ true → map (on_note (subst σ)) ds ≡ map (on_note (subst τ)) ds
unfolding collect
notes-agree σ τ e [] h = refl
notes-agree σ τ e ((n, absent) ∷ ds) h = ap (λ z. (n, absent) ∷ z) (notes-agree σ τ e ds h)
notes-agree σ τ e ((n, some f) ∷ ds) h =
    let a = and_left (each (is_not 0) 0 f) (each_decls (is_not 0) 0 (unlisted ds)) h in
    let b = and_right (each (is_not 0) 0 f) (each_decls (is_not 0) 0 (unlisted ds)) h in
    rw (notes-agree σ τ e ds b, walk-agree (is_not 0) (put σ) (put τ) (λ k x q. ap (lift k) (e x (same k x q))) 0 f a)
  where
    same : (k : ℕ) (x : Outer) → is_not 0 k x ≡ true → is_not 0 0 x ≡ true
    same k (named m) q = refl
    same k (dangling v) q = q

-- where the replaced declaration is unused, anything may stand for it
reverse_snoc : (m : ℕ) (p q : Place) → reverse (replicate m p ++ (q ∷ [])) ≡ q ∷ replicate m p
reverse_snoc m p q = rw (reverse-append (replicate m p) (q ∷ [])) (ap (λ z. q ∷ z) (same m))
  where
    snoc : (m : ℕ) → replicate m p ++ (p ∷ []) ≡ p ∷ replicate m p
    snoc zero = refl
    snoc (suc m) = ap (λ z. p ∷ z) (snoc m)

    same : (m : ℕ) → reverse (replicate m p) ≡ replicate m p
    same zero = refl
    same (suc m) = rw (reverse-cons p (replicate m p), same m) (snoc m)

pub deeper-unused : (j : ℕ) (e y : Form) (es : List Decl) → each_decls (is_not 0) 0 (unlisted es) ≡ true
    → map (on_note (subst (fill_for (deeper j y (point_places 0 e) refl)))) es ≡ map (on_note (subst (fill_for (replicate (suc j) (filled y))))) es
deeper-unused j e y es h = notes-agree (fill_for (deeper j y (point_places 0 e) refl)) (fill_for (replicate (suc j) (filled y))) same es h
  where
    count : (m : ℕ) (qs : List Place) → kept_count (replicate m (filled y) ++ qs) ≡ kept_count qs
    count zero qs = refl
    count (suc m) qs = count m qs

    all : kept_count (replicate j (filled y)) ≡ 0
    all = ap kept_count (sym (append-nil (replicate j (filled y)))) ∙ count j []

    other_way : reverse (replicate (suc j) (filled y)) ≡ filled y ∷ replicate j (filled y)
    other_way = ap reverse (sym (snoc j)) ∙ reverse_snoc j (filled y) (filled y)
      where
        snoc : (m : ℕ) → replicate m (filled y) ++ (filled y ∷ []) ≡ filled y ∷ replicate m (filled y)
        snoc zero = refl
        snoc (suc m) = ap (λ z. filled y ∷ z) (snoc m)

    same : (x : Outer) → is_not 0 0 x ≡ true → fill_for (deeper j y (point_places 0 e) refl) x ≡ fill_for (replicate (suc j) (filled y)) x
    same (named m) q = refl
    same (dangling zero) q = absurd (clash cc)
    same (dangling (suc v)) q = rw (count j (filled (lower j (lower 1 e)) ∷ []), all, reverse_snoc j (filled y) (filled (lower j (lower 1 e))), other_way)

-- a form whose first word is no tag of the operator is not quantified by it
module _ (t : ℕ) (which : (eqb t 851 || eqb t 852) ≡ true) (C : Type 0) where
  node-apart : (u : ℕ) (o ds : List ℕ) (ks : Forms) → (u ≡ t → ⊥) → (quantified (node u o ds ks) ≡ other → C)
      → ((v : ℕ) (es : List Decl) (b : Form) → quantified (node u o ds ks) ≡ quantifier v es b → eqb v t ≡ false → C) → C
  unfolding quantified
  node-apart u o ds none n x y = x refl
  node-apart u o ds (more f none) n x y = go (eqb u 851 || eqb u 852) refl
    where
      go : (z : Bool) → (eqb u 851 || eqb u 852) ≡ z → C
      go true q = y u (map unnoted ds) f (rw q) (ne_eqb u t n)
      go false q = x (rw q)
  node-apart u o ds (more f (more g gs)) n x y = x refl

  ten-more : (u : ℕ) (a b : Bool) → eqb t 851 ≡ a → eqb t 852 ≡ b → (a || b) ≡ true → u - 10 ≡ t → u ≡ t + 10
  ten-more u true b x y z q = let w = eqb-true t 851 x in omega arith
  ten-more u false true x y z q = let w = eqb-true t 852 y in omega arith
  ten-more u false false x y z q = absurd (clash cc)

  noted-apart : (u : ℕ) (o : List ℕ) (ds : Decls) (ks : Forms) → (u ≡ t + 10 → ⊥) → (quantified (noted u o ds ks) ≡ other → C)
      → ((v : ℕ) (es : List Decl) (b : Form) → quantified (noted u o ds ks) ≡ quantifier v es b → eqb v t ≡ false → C) → C
  unfolding quantified
  noted-apart u o ds none n x y = x refl
  noted-apart u o ds (more f none) n x y = go (eqb u 861 || eqb u 862) refl
    where
      go : (z : Bool) → (eqb u 861 || eqb u 862) ≡ z → C
      go true q = y (u - 10) (listed ds) f (rw q) (ne_eqb (u - 10) t (λ e. n (ten-more u (eqb t 851) (eqb t 852) refl refl which e)))
      go false q = x (rw q)
  noted-apart u o ds (more f (more g gs)) n x y = x refl

  form-apart : (σ : Outer → Form) {d : ℕ} {g : Form} → Ok d pred g → (get_or (encode g) 0 0 ≡ t → ⊥) → (get_or (encode g) 0 0 ≡ t + 10 → ⊥) → (quantified (subst σ g) ≡ other → C)
      → ((v : ℕ) (es : List Decl) (b : Form) → quantified (subst σ g) ≡ quantifier v es b → eqb v t ≡ false → C) → C
  unfolding walk encode
  form-apart σ (ok-node {t = u} {o = o} {ds = ds} {ks = ks} l r k) m n x y = node-apart u o ds (walk_all (put σ) (length ds + 0) ks) m x y
  form-apart σ (ok-noted {t = u} {o = o} {ds = ds} {ks = ks} a r v k) m n x y = noted-apart u o (walk_decls (put σ) 0 ds) (walk_all (put σ) (length (names_of ds) + 0) ks) n x y

pub kept-first : (t : ℕ) (ds : List Decl) (i : ℕ) (e : Form) (low : i < length ds) → (eqb t 851 || eqb t 852) ≡ true → i ≡ 0 → 2 ≤ length ds → {g : Form} → Ok 63 pred g → (get_or (encode g) 0 0 ≡ t → ⊥) → (get_or (encode g) 0 0 ≡ t + 10 → ⊥)
    → placed_form t ds i e g ≡ kept_form t ds i e g low
kept-first t ds i e low which last several {g} ok m n =
    form-apart t which (placed_form t ds i e g ≡ kept_form t ds i e g low) (fill_for (point_places i e)) ok m n (kept-other t ds i e g low last several) (λ v es b q h. kept-unlike t ds i e g low last several v es b q h)
