-- Readings, and the value of a form in one: expressions have whole numbers, predicates truths (1 for true, 0 for false).
use Rattle.std.specs.Prelude.{◌≡◌, Bool, true, false, not, ◌&&◌, ◌||◌, ℕ, zero, suc, ◌-◌, eqb, leb, ℤ, pos, negsuc, get_or}
use mathlib.Core.List.{List, [], ◌∷◌, foldr, map, flat_map}
use Rattle.tree.specs.Form.{free, bound, Form, leaf, node, noted, names_of, Forms, none, more, pick, between}

-- a reading: numbers for names and dangling indices, a range for each declared name, and a fixed function for every tag without a meaning
-- of its own. A node's function sees its tag, own words, declared names and children's values; two pairs are equal only if both parts are.
pub record Reading : Type 0 where
  pub name : ℕ → ℤ
  pub index : ℕ → ℤ
  pub range : ℕ → List ℤ
  pub pair : ℤ → ℤ → ℤ
  pub pair_left : (a b c d : ℤ) → pair a b ≡ pair c d → a ≡ c
  pub pair-right : (a b c d : ℤ) → pair a b ≡ pair c d → b ≡ d
  pub comprehension : ℕ → List ℕ → List ℕ → List (Bool × ℤ) → ℤ
  pub expression : ℕ → List ℕ → List ℕ → List ℤ → ℤ
  pub predicate : ℕ → List ℕ → List ℕ → List ℤ → Bool

abbrev pub bit : Bool → ℤ
bit = elim [ true ↦ pos 1 | false ↦ pos 0 ]

abbrev pub same : ℤ → ℤ → Bool
same (pos a) (pos b) = eqb a b
same (pos a) (negsuc b) = false
same (negsuc a) (pos b) = false
same (negsuc a) (negsuc b) = eqb a b

-- every number but 0 counts as true
abbrev pub truth : ℤ → Bool
truth v = not (same v (pos 0))

abbrev pub every : List Bool → Bool
every bs = foldr ◌&&◌ true bs

abbrev pub some : List Bool → Bool
some bs = foldr ◌||◌ false bs

-- the value of a child
abbrev pub child : ℕ → List ℤ → ℤ
child i vs = get_or vs i (pos 0)

-- what a table has for a tag, or else d
abbrev pub listed : List (ℕ × ℤ) → ℤ → ℕ → ℤ
listed [] d t = d
listed (e ∷ es) d t = pick (eqb e.0 t) e.1 (listed es d t)

-- a node's value from its children's values under every choice for what it declares; where it declares nothing, vs are those under the one
-- empty choice
unfoldable pub value_of : Reading → ℕ → List ℕ → List ℕ → List (List ℤ) → ℤ
value_of R t o ds vss =
    let vs = get_or vss 0 [] in
    let a = child 0 vs in
    let b = child 1 vs in
    let bodies = map (λ us. truth (child 0 us)) vss in
    let set = R.comprehension t o ds (map (λ us. (truth (child 0 us), child 1 us)) vss) in
    listed
    ((610, bit true)
    ∷ (611, bit false)
    ∷ (8, bit (not (truth a)))
    ∷ (251, bit (not (truth a) || truth b))
    ∷ (252, bit (pick (truth a) (truth b) (not (truth b))))
    ∷ (351, bit (every (map truth vs)))
    ∷ (352, bit (some (map truth vs)))
    ∷ (851, bit (every bodies))
    ∷ (852, bit (some bodies))
    ∷ (101, bit (same a b))
    ∷ (201, R.pair a b)
    ∷ (801, set)
    ∷ (802, set)
    ∷ (803, set)
    ∷ [])
    (pick (between 7 11 t || between 101 112 t) (bit (R.predicate t o ds vs)) (R.expression t o ds vs)) t

-- the values of all indices, from 0; a value for a declaration more
abbrev pub Env : Type 0
Env = ℕ → ℤ

abbrev pub cons : ℤ → Env → Env
cons v ρ = elim [ zero ↦ v | suc i ↦ ρ i ]

-- g under every choice of a value for each declaration from its range, in order; the last declaration is index 0
abbrev pub over : {A : Type 0} → (ℕ → List ℤ) → List ℕ → Env → (Env → A) → List A
over r [] ρ g = g ρ ∷ []
over r (d ∷ ds) ρ g = flat_map (λ v. over r ds (cons v ρ) g) (r d)

-- the tag of a quantifier without its annotations
abbrev pub plain_tag : ℕ → ℕ
plain_tag t = pick (leb 871 t) (t - 70) (t - 10)

module _ (R : Reading) where
  unfoldable mutual
    pub value : Env → Form → ℤ
    value ρ (leaf x) = elim x [ free n ↦ R.name n | bound i ↦ ρ i ]
    value ρ (node t o ds ks) = value_of R t o ds (over R.range ds ρ (λ η. values η ks))
    value ρ (noted t o ds ks) = value_of R (plain_tag t) o (names_of ds) (over R.range (names_of ds) ρ (λ η. values η ks))

    pub values : Env → Forms → List ℤ
    values ρ none = []
    values ρ (more f fs) = value ρ f ∷ values ρ fs

-- a predicate is true in a reading
abbrev pub holds : Reading → Form → Bool
holds R f = truth (value R R.index f)
