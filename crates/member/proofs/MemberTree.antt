-- Membership on trees: the parts of a shifted element, the places that they fill, and the declarations before the outermost filled place.
-- Assumes nothing.
use mathlib.Core.Path.{◌≡◌, refl, ap, sym, ◌∙◌}
use mathlib.Core.Bool.{Bool, true, false, ◌&&◌, and-false}
use mathlib.Core.List.{List, [], ◌∷◌, ◌++◌, map, map-append, reverse, reverse-append, reverse-cons}
use mathlib.Core.Option.{Option, none as absent, some}
use Prim.Native.Nat.{ℕ, zero, suc, ◌+◌, ◌-◌, ◌≤◌, ◌<◌}
use native.Mathlib.Omega.{arith}
use borrow.Author.Tests.{ltb-true, ltb-false, le-ltb, le-leb}
use lib.Dec.{ltb, eqb}
use lib.ListN.{length, get_or, take, drop, set, replicate, get_or-map}
use Rattle.tree.specs.Form.{free, bound, Form, leaf, node, noted, Forms, none, more, pick}
use Rattle.form.specs.Lists.{Place, kept, filled}
use Rattle.rules.specs.Walk.{Outer, named, dangling, walk, walk_all, up, lift, put, subst, collect, each}
use Rattle.rules.specs.Shift.{reaches, fall, lower}
use Rattle.rules.proofs.WalkLaws.{binding-add, fuse-level, shift-shift, always, each-always, each-all, walk-agree}
use Rattle.rules.proofs.TreeLaws.{each-walk}
use Rattle.rules.specs.Fill.{kept_count, fill_index, fill_for}
use Rattle.replace.proofs.PlainLaws.{kept_names}
use Rattle.replace.proofs.FillTree.{kept-reverse}
use Rattle.rules.specs.Replacement.{Taken, taken, nothing, index_of, above, accept}
use Rattle.rules.specs.Split.{is_two, is_pair, parts, parts_all, equal}
use Rattle.rules.specs.Partial.{front, lower_place}
use Rattle.rules.specs.Member.{Offers, offers, is_free, leave, offer_next, offer_all}
use Rattle.std.specs.Prelude.{Option as Maybe, Some, None}
use Rattle.member.specs.Internal.Member.{Shares, shares, keep_part, spot_at, share_next, share, equalities, lifted}
use Rattle.places.proofs.PlacesLaws.{place-from}
use Rattle.rules.proofs.FrontLaws.{reverse-kept, kept-index, subst-kept}

-- the parts of a value and a shifted element
abbrev pub shift_right : ℕ → Form × Form → Form × Form
shift_right n p = (p.0, lift n p.1)

two-walk : (act : ℕ → Outer → Form) (k : ℕ) (js : Forms) → is_two (walk_all act k js) ≡ is_two js
unfolding walk
two-walk act k none = refl
two-walk act k (more f none) = refl
two-walk act k (more f (more g none)) = refl
two-walk act k (more f (more g (more h hs))) = refl

split-lift : (n : ℕ) (l r : Form) (a b : List (Form × Form)) (c : Bool) → a ≡ map (shift_right n) b → pick c a ((l, lift n r) ∷ []) ≡ map (shift_right n) (pick c b ((l, r) ∷ []))
split-lift n l r a b true e = e
split-lift n l r a b false e = refl

mutual
  unfolding parts walk

  pub parts-lift : (n : ℕ) (l r : Form) → parts l (lift n r) ≡ map (shift_right n) (parts l r)
  parts-lift n (leaf x) r = refl
  parts-lift n (node t o ds ks) (leaf (free m)) = refl
  parts-lift n (node t o ds ks) (leaf (bound i)) = refl
  parts-lift n (node t o ds ks) (node u p [] js) = rw (two-walk (up n) 0 js) (split-lift n (node t o ds ks) (node u p [] js) (parts_all ks (walk_all (up n) 0 js)) (parts_all ks js) (is_pair t ds ks && is_pair u [] js) (parts_all-lift n ks js))
  parts-lift n (node t o ds ks) (node u p (e ∷ es) js) = rw (and-false (eqb u 201), and-false (is_pair t ds ks))
  parts-lift n (node t o ds ks) (noted u p es js) = refl
  parts-lift n (noted t o ds ks) r = refl

  parts_all-lift : (n : ℕ) (ks js : Forms) → parts_all ks (walk_all (up n) 0 js) ≡ map (shift_right n) (parts_all ks js)
  parts_all-lift n none js = refl
  parts_all-lift n (more f fs) none = refl
  parts_all-lift n (more f fs) (more g gs) = rw (parts-lift n f g, parts_all-lift n fs gs) (sym (map-append (shift_right n) (parts f g) (parts_all fs gs)))

-- no index of a shifted form is below the shift, so that only the value's side can be a target
up-reaches : (i n : ℕ) → i < n → (k : ℕ) (x : Outer) → each (reaches (suc i)) k (up n k x) ≡ true
unfolding collect
up-reaches i n h k (named m) = refl
up-reaches i n h k (dangling j) = rw (binding-add k (j + n)) (le-leb (suc i) (j + n) (omega arith))

above-lift : (i n : ℕ) (r : Form) → i < n → above i (lift n r) ≡ true
above-lift i n r h = each-walk (reaches (suc i)) (up n) 0 r ∙ each-all always (λ k x. each (reaches (suc i)) k (up n k x)) (λ k x q. up-reaches i n h k x) 0 r (each-always 0 r)

abbrev accept_left : ℕ → Form → Option ℕ → Taken
accept_left n e (some i) = pick (ltb i n) (taken i e) nothing
accept_left n e absent = nothing

module _ (n i : ℕ) (r : Form) where
  allowed-lift : (b : Bool) → ltb i n ≡ b → pick b (pick (above i (lift n r)) (taken i (lift n r)) nothing) nothing ≡ pick b (taken i (lift n r)) nothing
  allowed-lift true h = rw (above-lift i n r (ltb-true i n h))
  allowed-lift false h = refl

high : (n j : ℕ) → ltb (0 + (j + n)) n ≡ false
high n j = le-ltb (0 + (j + n)) n (omega arith)

pub accept-lift : (n : ℕ) (l r : Form) → accept n l (lift n r) ≡ accept_left n (lift n r) (index_of l)
unfolding accept walk
accept-lift n (leaf (free m)) (leaf (free k)) = refl
accept-lift n (leaf (free m)) (leaf (bound j)) = rw (high n j)
accept-lift n (leaf (free m)) (node t o ds ks) = refl
accept-lift n (leaf (free m)) (noted t o ds ks) = refl
accept-lift n (leaf (bound i)) (leaf (free k)) = allowed-lift n i (leaf (free k)) (ltb i n) refl
accept-lift n (leaf (bound i)) (leaf (bound j)) = go (ltb i (0 + (j + n))) refl
  where
    go : (c : Bool) → ltb i (0 + (j + n)) ≡ c → accept n (leaf (bound i)) (leaf (bound (0 + (j + n)))) ≡ pick (ltb i n) (taken i (leaf (bound (0 + (j + n))))) nothing
    go true e = rw e (allowed-lift n i (leaf (bound j)) (ltb i n) refl)
    go false e =
        let a = ltb-false i (0 + (j + n)) e in
        rw (e, high n j, le-ltb i n (omega arith))
accept-lift n (leaf (bound i)) (node t o ds ks) = allowed-lift n i (node t o ds ks) (ltb i n) refl
accept-lift n (leaf (bound i)) (noted t o ds ks) = allowed-lift n i (noted t o ds ks) (ltb i n) refl
accept-lift n (node u p es js) (leaf (free k)) = refl
accept-lift n (node u p es js) (leaf (bound j)) = rw (high n j)
accept-lift n (node u p es js) (node t o ds ks) = refl
accept-lift n (node u p es js) (noted t o ds ks) = refl
accept-lift n (noted u p es js) (leaf (free k)) = refl
accept-lift n (noted u p es js) (leaf (bound j)) = rw (high n j)
accept-lift n (noted u p es js) (node t o ds ks) = refl
accept-lift n (noted u p es js) (noted t o ds ks) = refl

-- offers of the shifted parts are the shares
abbrev pub offers_of : ℕ → Shares → Offers
offers_of n (shares ps qs) = offers (map (lifted n) ps) (equalities n qs)

leave-kept : (n : ℕ) (p : Form × Form) (z : Shares) → leave (equal p.0 (lift n p.1)) (offers_of n z) ≡ offers_of n (keep_part p z)
leave-kept n p (shares ps qs) = refl

lift-set : (n : ℕ) (ps : List Place) (j : ℕ) (e : Form) → map (lifted n) (set ps j (filled e)) ≡ set (map (lifted n) ps) j (filled (lift n e))
lift-set n [] j e = refl
lift-set n (p ∷ ps) zero e = refl
lift-set n (p ∷ ps) (suc j) e = ap (λ z. lifted n p ∷ z) (lift-set n ps j e)

lift-free : (n : ℕ) (p : Place) → is_free (lifted n p) ≡ is_free p
lift-free n kept = refl
lift-free n (filled e) = refl

free-lift : (n : ℕ) (ps : List Place) (j : ℕ) → is_free (get_or (map (lifted n) ps) j kept) ≡ is_free (get_or ps j kept)
free-lift n ps j = ap is_free (get_or-map (lifted n) ps j kept) ∙ lift-free n (get_or ps j kept)

module _ (n : ℕ) (p : Form × Form) (rest : List (Form × Form)) (rec : (qs : List Place) → offer_all n (map (shift_right n) rest) (map (lifted n) qs) ≡ offers_of n (share n rest qs)) (ps : List Place) where
  abbrev Later : List Place → Offers
  Later qs = offer_all n (map (shift_right n) rest) qs

  abbrev Told : Offers → Maybe ℕ → Type 0
  Told z j = z ≡ offers_of n (share_next j p ps (λ qs. share n rest qs))

  passes : Told (leave (equal p.0 (lift n p.1)) (Later (map (lifted n) ps))) None
  passes = rw (rec ps) (leave-kept n p (share n rest ps))

  fills : (i : ℕ) → i < n → (b : Bool) → is_free (get_or ps (n - 1 - i) kept) ≡ b
      → Told (pick (is_free (get_or (map (lifted n) ps) (n - suc i) kept)) (Later (set (map (lifted n) ps) (n - suc i) (filled (lift n p.1)))) (leave (equal p.0 (lift n p.1)) (Later (map (lifted n) ps)))) (pick b (Some (n - 1 - i)) None)
  fills i h true e = rw (free-lift n ps (n - suc i), place-from n i, e, ← lift-set n ps (n - 1 - i) p.1, rec (set ps (n - 1 - i) (filled p.1)))
  fills i h false e = rw (free-lift n ps (n - suc i), place-from n i, e) passes

  one-share : (x : Option ℕ) → Told (offer_next n (equal p.0 (lift n p.1)) (map (lifted n) ps) (accept_left n (lift n p.1) x) Later) (spot_at n ps x)
  one-share absent = passes
  one-share (some i) = go (ltb i n) refl
    where
      go : (b : Bool) → ltb i n ≡ b
          → Told (offer_next n (equal p.0 (lift n p.1)) (map (lifted n) ps) (pick b (taken i (lift n p.1)) nothing) Later) (pick b (pick (is_free (get_or ps (n - 1 - i) kept)) (Some (n - 1 - i)) None) None)
      go true h = fills i (ltb-true i n h) (is_free (get_or ps (n - 1 - i) kept)) refl
      go false h = passes

pub share-offers : (n : ℕ) (rest : List (Form × Form)) (ps : List Place) → offer_all n (map (shift_right n) rest) (map (lifted n) ps) ≡ offers_of n (share n rest ps)
unfolding offer_all share
share-offers n [] ps = refl
share-offers n (p ∷ rest) ps = rw (accept-lift n p.0 p.1) (one-share n p rest (λ qs. share-offers n rest qs) ps (index_of p.0))

-- declarations before the outermost filled place
pub front-lift : (n : ℕ) (ps : List Place) → front (map (lifted n) ps) ≡ front ps
front-lift n [] = refl
front-lift n (kept ∷ ps) = ap suc (front-lift n ps)
front-lift n (filled e ∷ ps) = refl

pub front_low : (ps : List Place) → front ps ≤ length ps
front_low [] = omega arith
front_low (kept ∷ ps) = let h = front_low ps in omega arith
front_low (filled e ∷ ps) = omega arith

front-split : (ps : List Place) → ps ≡ replicate (front ps) kept ++ drop (front ps) ps
front-split [] = refl
front-split (kept ∷ ps) = ap (λ z. kept ∷ z) (front-split ps)
front-split (filled e ∷ ps) = refl

-- kept declarations all round change nothing but the lift
index-front : (j m c : ℕ) (rs : List Place) (i : ℕ) → m ≡ c + kept_count rs → fill_index (j + m) c (rs ++ replicate j kept) i ≡ fill_index m c (map (lifted j) rs) i
index-front j m c [] i e =
    let q : m ≡ c = omega arith in
    rw q (kept-index j c i)
index-front j m c (kept ∷ rs) zero e = refl
index-front j m c (kept ∷ rs) (suc i) e = index-front j m (suc c) rs i (omega arith)
index-front j m c (filled x ∷ rs) zero e = sym (shift-shift j m 0 x)
index-front j m c (filled x ∷ rs) (suc i) e = index-front j m c rs i e

kept-count-front : (j : ℕ) (qs : List Place) → kept_count (replicate j kept ++ qs) ≡ j + kept_count qs
kept-count-front zero qs = omega arith
kept-count-front (suc j) qs = let h = kept-count-front j qs in omega arith

pub kept-count-lift : (j : ℕ) (qs : List Place) → kept_count (map (lifted j) qs) ≡ kept_count qs
kept-count-lift j [] = refl
kept-count-lift j (kept ∷ qs) = ap suc (kept-count-lift j qs)
kept-count-lift j (filled e ∷ qs) = kept-count-lift j qs

pub lift-reverse : (j : ℕ) (qs : List Place) → map (lifted j) (reverse qs) ≡ reverse (map (lifted j) qs)
lift-reverse j [] = refl
lift-reverse j (p ∷ qs) = rw (reverse-cons p qs, map-append (lifted j) (reverse qs) (p ∷ []), lift-reverse j qs, reverse-cons (lifted j p) (map (lifted j) qs))

pub fill-front : (j : ℕ) (qs : List Place) (x : Outer) → fill_for (replicate j kept ++ qs) x ≡ fill_for (map (lifted j) qs) x
fill-front j qs (named m) = refl
fill-front j qs (dangling i) =
    let k = kept-reverse qs in
    rw (kept-count-front j qs, reverse-append (replicate j kept) qs, reverse-kept j, kept-count-lift j qs, ← lift-reverse j qs) (index-front j (kept_count qs) 0 (reverse qs) i (omega arith))

-- a substitution is known by what it puts
pub subst-same : (σ τ : Outer → Form) → ((x : Outer) → σ x ≡ τ x) → (k : ℕ) (f : Form) → walk (put σ) k f ≡ walk (put τ) k f
subst-same σ τ e k f = walk-agree always (put σ) (put τ) (λ k x h. ap (λ z. lift k z) (e x)) k f (each-always k f)

-- the places behind the front, lowered by the declarations of the rest
lower-up : (j r k : ℕ) (x : Outer) → walk (put (fall r)) k (up (j + r) k x) ≡ up j k x
unfolding walk
lower-up j r k (named m) = refl
lower-up j r k (dangling i) = rw (binding-add k (i + (j + r))) (ap (λ z. leaf (bound z)) (omega arith))

lower-lift : (j r : ℕ) (e : Form) → lower r (lift (j + r) e) ≡ lift j e
lower-lift j r e = fuse-level (put (fall r)) (up (j + r)) (up j) (lower-up j r) 0 e

lower-places : (j r : ℕ) (ps : List Place) → map (lower_place r) (map (lifted (j + r)) ps) ≡ map (lifted j) ps
lower-places j r [] = refl
lower-places j r (kept ∷ ps) = ap (λ z. kept ∷ z) (lower-places j r ps)
lower-places j r (filled e ∷ ps) = rw (lower-lift j r e, lower-places j r ps)

pub lift-drop : (n j : ℕ) (ps : List Place) → drop j (map (lifted n) ps) ≡ map (lifted n) (drop j ps)
lift-drop n zero ps = refl
lift-drop n (suc j) [] = refl
lift-drop n (suc j) (p ∷ ps) = lift-drop n j ps

pub behind-front : (n j r : ℕ) (ps : List Place) → n ≡ j + r → map (lower_place r) (drop j (map (lifted n) ps)) ≡ map (lifted j) (drop j ps)
behind-front n j r ps e = rw (lift-drop n j ps, e) (lower-places j r (drop j ps))

pub whole-front : (ps : List Place) (x : Outer) → fill_for ps x ≡ fill_for (map (lifted (front ps)) (drop (front ps) ps)) x
whole-front ps x = ap (λ z. fill_for z x) (front-split ps) ∙ fill-front (front ps) (drop (front ps) ps) x

-- with no place filled nothing changes
pub all-kept : (ps : List Place) → front ps ≡ length ps → ps ≡ replicate (length ps) kept
all-kept [] e = refl
all-kept (kept ∷ ps) e = ap (λ z. kept ∷ z) (all-kept ps (omega arith))
all-kept (filled x ∷ ps) e = absurd (omega arith)

pub none_filled : (ps : List Place) → front ps ≡ length ps → (g : Form) → subst (fill_for ps) g ≡ g
none_filled ps e g = ap (λ z. subst (fill_for z) g) (all-kept ps e) ∙ subst-kept (length ps) g

-- the names that are kept
pub names-lift : (j : ℕ) (ps : List Place) (ns : List ℕ) → kept_names (map (lifted j) ps) ns ≡ kept_names ps ns
names-lift j [] ns = refl
names-lift j (kept ∷ ps) [] = refl
names-lift j (filled e ∷ ps) [] = refl
names-lift j (kept ∷ ps) (n ∷ ns) = ap (λ z. n ∷ z) (names-lift j ps ns)
names-lift j (filled e ∷ ps) (n ∷ ns) = names-lift j ps ns

pub names-front : (ps : List Place) (ns : List ℕ) → length ps ≡ length ns
    → (take (front ps) (kept_names ps ns) ≡ take (front ps) ns) × (drop (front ps) (kept_names ps ns) ≡ kept_names (drop (front ps) ps) (drop (front ps) ns)) × (front ps ≤ length (kept_names ps ns))
names-front [] ns e = (refl, refl, omega arith)
names-front (p ∷ ps) [] e = absurd (omega arith)
names-front (kept ∷ ps) (n ∷ ns) e = let h = names-front ps ns (omega arith) in (ap (λ z. n ∷ z) h.0, h.1, let k = h.2 in omega arith)
names-front (filled x ∷ ps) (n ∷ ns) e = (refl, refl, omega arith)

pub names-all : (ps : List Place) (ns : List ℕ) → length ps ≡ length ns → front ps ≡ length ps → kept_names ps ns ≡ ns
names-all [] [] e h = refl
names-all [] (n ∷ ns) e h = absurd (omega arith)
names-all (p ∷ ps) [] e h = absurd (omega arith)
names-all (kept ∷ ps) (n ∷ ns) e h = ap (λ z. n ∷ z) (names-all ps ns (omega arith) (omega arith))
names-all (filled x ∷ ps) (n ∷ ns) e h = absurd (omega arith)
