-- Without annotations each rewriting of quantifiers is the one on declared names alone: forms without annotations are a
-- part of all forms, and what is answered of them is what was answered before there were annotations. Assumes nothing.
use mathlib.Core.Path.{◌≡◌, refl, ap}
use mathlib.Core.Bool.{Bool, true, false, ◌&&◌}
use mathlib.Core.List.{List, [], ◌∷◌, ◌++◌, map, map-append}
use Prim.Native.Nat.{ℕ, zero, suc}
use lib.Dec.{eqb}
use lib.ListN.{length, take, drop, length-map}
use Rattle.tree.specs.Form.{Form, free, leaf, pick}
use Rattle.form.specs.Lists.{Place, kept, filled}
use Rattle.rules.specs.Walk.{lift, subst}
use Rattle.rules.specs.Shift.{lower}
use Rattle.rules.specs.Fill.{unnoted, name_of, any_noted, Quantified, quantifier, other, quantified, fill_for, fill}
use Rattle.rules.specs.Prune.{unused, used_places, prune}
use Rattle.rules.specs.Partial.{front, lower_place, join_with, put_round, instantiate_partial}
use Rattle.rules.proofs.JoinLaws.{bare-decls}
use Rattle.replace.proofs.PlainLaws.{quantify_names, kept_names, plain-quantify, plain-fill, plain-notes, plain-clear}

-- fill, prune, and front and rest, on names
abbrev pub fill_names : ℕ → List ℕ → List Place → Form → Form
fill_names t ns ps f = quantify_names t (kept_names ps ns) (subst (fill_for ps) f)

abbrev pub unused_names : List ℕ → Form → List Place
unused_names [] f = []
unused_names (n ∷ ns) f = pick (unused (length ns) f) (filled (leaf (free 0))) kept ∷ unused_names ns f

abbrev pub join_names : ℕ → List ℕ → Form → Quantified → Form
join_names t ns g other = quantify_names t ns g
join_names t ns g (quantifier u ds f) = pick (eqb u t) (quantify_names t (ns ++ map name_of ds) f) (quantify_names t ns g)

abbrev pub round_names : ℕ → List ℕ → Form → Form
round_names t x g = elim x [ [] ↦ g | n ∷ ns ↦ join_names t (n ∷ ns) g (quantified g) ]

-- what is quantified has no annotation
abbrev pub Bare : Quantified → Type 0
Bare other = Unit {0}
Bare (quantifier u ds f) = any_noted ds ≡ false

pub fill-names : (t : ℕ) (ns : List ℕ) (ps : List Place) (f : Form) → fill t (map unnoted ns) ps f ≡ fill_names t ns ps f
fill-names = plain-fill

unused-places : (ns : List ℕ) (f : Form) → used_places (map unnoted ns) f ≡ unused_names ns f
unused-places [] f = refl
unused-places (n ∷ ns) f = rw (length-map ns unnoted, unused-places ns f)

pub prune-names : (t : ℕ) (ns : List ℕ) (f : Form) → prune t (map unnoted ns) f ≡ fill_names t ns (unused_names ns f) f
unfolding prune
prune-names t ns f = rw (unused-places ns f) (plain-fill t ns (unused_names ns f) f)

names-back : (ns : List ℕ) → map name_of (map unnoted ns) ≡ ns
names-back [] = refl
names-back (n ∷ ns) = ap (λ z. n ∷ z) (names-back ns)

-- with the declarations of the inner quantifier by their names
join-plain : (t u : ℕ) (ns ms : List ℕ) (f g : Form) → join_with t (map unnoted ns) g (quantifier u (map unnoted ms) f) ≡ join_names t ns g (quantifier u (map unnoted ms) f)
join-plain t u ns ms f g =
    rw (plain-clear (length (map unnoted ns)) ms, plain-notes (lower (length (map unnoted ns))) ms, ← map-append unnoted ns ms, names-back ms, plain-quantify t (ns ++ ms) f, plain-quantify t ns g) (go (eqb u t))
  where
    go : (b : Bool) → pick (b && true) (quantify_names t (ns ++ ms) f) (quantify_names t ns g) ≡ pick b (quantify_names t (ns ++ ms) f) (quantify_names t ns g)
    go true = refl
    go false = refl

join-names : (t : ℕ) (ns : List ℕ) (g : Form) (q : Quantified) → Bare q → join_with t (map unnoted ns) g q ≡ join_names t ns g q
join-names t ns g other b = plain-quantify t ns g
join-names t ns g (quantifier u ds f) b = rw (bare-decls ds b) at (join-plain t u ns (map name_of ds) f g)

pub round-names : (t : ℕ) (ns : List ℕ) (g : Form) → Bare (quantified g) → put_round t (map unnoted ns) g ≡ round_names t ns g
unfolding put_round
round-names t [] g b = refl
round-names t (n ∷ ns) g b = join-names t (n ∷ ns) g (quantified g) b

take-names : (j : ℕ) (ns : List ℕ) → take j (map unnoted ns) ≡ map unnoted (take j ns)
take-names zero ns = refl
take-names (suc j) [] = refl
take-names (suc j) (n ∷ ns) = ap (λ z. unnoted n ∷ z) (take-names j ns)

drop-names : (j : ℕ) (ns : List ℕ) → drop j (map unnoted ns) ≡ map unnoted (drop j ns)
drop-names zero ns = refl
drop-names (suc j) [] = refl
drop-names (suc j) (n ∷ ns) = drop-names j ns

-- one point and membership: the front put round the filled rest, whose own quantifier has no annotations
pub partial-names : (t : ℕ) (ns : List ℕ) (ps : List Place) (f : Form) → Bare (quantified (fill_names t (drop (front ps) ns) (map (lower_place (length (drop (front ps) ns))) (drop (front ps) ps)) f))
    → instantiate_partial t (map unnoted ns) ps f ≡ round_names t (take (front ps) ns) (fill_names t (drop (front ps) ns) (map (lower_place (length (drop (front ps) ns))) (drop (front ps) ps)) f)
unfolding instantiate_partial
partial-names t ns ps f b =
    rw (take-names (front ps) ns, drop-names (front ps) ns, plain-notes (lift (front ps)) (drop (front ps) ns), length-map (drop (front ps) ns) unnoted, plain-fill t (drop (front ps) ns) (map (lower_place (length (drop (front ps) ns))) (drop (front ps) ps)) f)
    (round-names t (take (front ps) ns) (fill_names t (drop (front ps) ns) (map (lower_place (length (drop (front ps) ns))) (drop (front ps) ps)) f) b)
