-- Fill: some declarations of a quantified predicate are replaced by expressions; the others are kept and renumbered from the inside.
use Rattle.std.specs.Prelude.{Bool, true, false, ◌||◌, List, [], ◌∷◌, ◌++◌, reverse, map, ℕ, zero, suc, ◌+◌, ◌-◌, eqb, leb, length, replicate}
use Rattle.std.proofs.Math.Option.{Option, none as absent, some}
use Rattle.tree.specs.Form.{free, bound, Form, leaf, node, noted, Decls, undeclared, bare, typed, none, more, pick}
use Rattle.tree.specs.Tag.{pred}
use Rattle.form.specs.Lists.{Place, kept, filled, Entry, place_of}
use Rattle.form.specs.Answer.{Outcome, stop, with_work, with_form, with_list, needs, finish}
use Rattle.form.specs.declared.answer.Kind.TheVariants.{Predicate}
use Rattle.form.specs.declared.answer.ListKind.TheVariants.{Places}
use Rattle.rules.specs.Walk.{Outer, named, dangling, lift, subst}
use Rattle.form.specs.declared.answer.Refusal.TheVariants.{NotQuantified, TooManyPlaces}
use Rattle.form.specs.declared.answer.Refusal.{Refusal}

-- a declaration: its name, and its annotation if it has one
abbrev pub Decl : Type 0
Decl = ℕ × Option Form

abbrev pub unnoted : ℕ → Decl
unnoted n = (n, absent)

abbrev pub name_of : Decl → ℕ
name_of d = d.0

abbrev pub listed : Decls → List Decl
listed undeclared = []
listed (bare n ds) = (n, absent) ∷ listed ds
listed (typed n f ds) = (n, some f) ∷ listed ds

abbrev pub declare : ℕ → Option Form → Decls → Decls
declare n x ds = elim x [ absent ↦ bare n ds | some f ↦ typed n f ds ]

abbrev pub unlisted : List Decl → Decls
unlisted [] = undeclared
unlisted (d ∷ ds) = declare d.0 d.1 (unlisted ds)

abbrev pub is_noted : Option Form → Bool
is_noted = elim [ absent ↦ false | some f ↦ true ]

abbrev pub any_noted : List Decl → Bool
any_noted [] = false
any_noted (d ∷ ds) = is_noted d.1 || any_noted ds

-- a quantified predicate: its operator, 851 or 852, its declarations, its body
pub data Quantified : Type 0 where
  quantifier : ℕ → List Decl → Form → Quantified
  other : Quantified

unfoldable pub quantified : Form → Quantified
quantified (leaf x) = other
quantified (node t o ds none) = other
quantified (node t o ds (more f none)) = pick (eqb t 851 || eqb t 852) (quantifier t (map unnoted ds) f) other
quantified (node t o ds (more f (more g gs))) = other
quantified (noted t o ds none) = other
quantified (noted t o ds (more f none)) = pick (eqb t 861 || eqb t 862) (quantifier (t - 10) (listed ds) f) other
quantified (noted t o ds (more f (more g gs))) = other

-- put round a body, the tag by whether there is an annotation; with no declaration, the body alone
abbrev pub around : ℕ → List Decl → Form → Form
around t ds f =
    pick (any_noted ds) (noted (t + 10) (length ds ∷ []) (unlisted ds) (more f none)) (node t (length ds ∷ []) (map name_of ds) (more f none))

abbrev pub quantify : ℕ → List Decl → Form → Form
quantify t x f = elim x [ [] ↦ f | d ∷ ds ↦ around t (d ∷ ds) f ]

abbrev pub kept_count : List Place → ℕ
kept_count [] = 0
kept_count (kept ∷ ps) = suc (kept_count ps)
kept_count (filled e ∷ ps) = kept_count ps

abbrev pub kept_decls : List Place → List Decl → List Decl
kept_decls [] ns = []
kept_decls (p ∷ ps) [] = []
kept_decls (kept ∷ ps) (n ∷ ns) = n ∷ kept_decls ps ns
kept_decls (filled e ∷ ps) (n ∷ ns) = kept_decls ps ns

-- index j, with the places from the innermost outwards, of which c inside them and m in all are kept
abbrev pub fill_index : ℕ → ℕ → List Place → ℕ → Form
fill_index m c [] j = leaf (bound (m + j))
fill_index m c (kept ∷ ps) zero = leaf (bound c)
fill_index m c (filled e ∷ ps) zero = lift m e
fill_index m c (kept ∷ ps) (suc j) = fill_index m (suc c) ps j
fill_index m c (filled e ∷ ps) (suc j) = fill_index m c ps j

abbrev pub fill_for : List Place → Outer → Form
fill_for ps = elim [ named n ↦ leaf (free n) | dangling j ↦ fill_index (kept_count ps) 0 (reverse ps) j ]

unfoldable pub fill : ℕ → List Decl → List Place → Form → Form
fill t ns ps f = quantify t (kept_decls ps ns) (subst (fill_for ps) f)

abbrev pub of_quantified : (ℕ → List Decl → Form → Outcome) → Refusal → Quantified → Outcome
of_quantified go r = elim [ quantifier t ns f ↦ go t ns f | other ↦ stop r ]

-- the places of n declarations: those that are missing at the end are kept
abbrev pub places_for : ℕ → List Entry → List Place
places_for n es = map place_of es ++ replicate (n - length es) kept

unfoldable pub fill_outcome : List ℕ → List ℕ → ℕ → ℕ → Outcome
fill_outcome list row work room =
    with_work work
    (with_form Predicate row
    (λ s f. with_list Places list
    (λ es. of_quantified (λ t ns b. needs TooManyPlaces (leb (length es) (length ns)) (finish pred room (fill t ns (places_for (length ns) es) b))) NotQuantified (quantified f))))
