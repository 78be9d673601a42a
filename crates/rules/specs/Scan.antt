-- One point's scan of the body: the first equality that the rule of Places accepts, and what is left of the body. What is passed before it
-- is rebuilt, what follows it is copied.
use Rattle.std.specs.Prelude.{Bool, true, not, ◌&&◌, ◌||◌, List, [], ◌∷◌, map, ℕ, eqb, get_or}
use Rattle.std.proofs.Math.Option
use Rattle.std.proofs.Math.Option.{Option, none as absent, some}
use Rattle.tree.specs.Form.{Form, leaf, node, noted, Forms, none, more, pick, count}
use Rattle.rules.specs.Replacement.{Taken, taken, nothing, accept}
use Rattle.rules.specs.Split.{of_two, is_two, is_nil, parts, equal}

-- the equality taken, if any, and what is left: nothing where the node vanished
pub data Scan : Type 0 where
  scanned : Taken → Option Form → Scan

pub data Scans : Type 0 where
  scans : Taken → List (Option Form) → Scans

-- negating a not takes the not away
abbrev pub negate : Form → Form
negate (leaf x) = node 8 [] [] (more (leaf x) none)
negate (node t o ds none) = node 8 [] [] (more (node t o ds none) none)
negate (node t o [] (more f fs)) = pick (eqb t 8) f (node 8 [] [] (more (node t o [] (more f fs)) none))
negate (node t o (d ∷ ds) (more f fs)) = node 8 [] [] (more (node t o (d ∷ ds) (more f fs)) none)
negate (noted t o ds ks) = node 8 [] [] (more (noted t o ds ks) none)

-- what is left of the children that are not gone
abbrev pub present : List (Option Form) → Forms
present [] = none
present (absent ∷ gs) = present gs
present (some g ∷ gs) = more g (present gs)

-- an associative node of a child and others: of one child it is that child, of none it is gone
abbrev pub join_all : ℕ → Form → Forms → Form
join_all t f = elim [ none ↦ f | more g gs ↦ node t (count (more f (more g gs)) ∷ []) [] (more f (more g gs)) ]

abbrev pub joined : ℕ → Forms → Option Form
joined t = elim [ none ↦ absent | more f fs ↦ some (join_all t f fs) ]

-- 251 without its left is its right, without its right the negated left
abbrev pub implies : Option Form → Option Form → Option Form
implies absent r = r
implies (some l) absent = some (negate l)
implies (some l) (some r) = some (node 251 [] [] (more l (more r none)))

-- what the scan does at a node: under true it enters 351 and takes 101, under false it enters 352 and 251; 8 turns it round
pub data Role : Type 0 where
  junction implication negation equality other : Role

abbrev pub role_of : ℕ → Bool → Role
role_of t b =
    pick (eqb t 8) negation
    (pick (eqb t 351 && b || eqb t 352 && not b) junction (pick (eqb t 251 && not b) implication (pick (eqb t 101 && b) equality other)))

-- 251 and 101 have two children, 8 has one
abbrev pub suits : Role → Forms → Bool
suits x ks =
    elim x [ junction ↦ true | implication ↦ is_two ks | negation ↦ eqb (count ks) 1 | equality ↦ is_two ks | other ↦ true ]

abbrev pub role : ℕ → List ℕ → Forms → Bool → Role
role t ds ks b = pick (is_nil ds && suits (role_of t b) ks) (role_of t b) other

abbrev pub first_polarity : Role → Bool → Bool
first_polarity x b = elim x [ junction ↦ b | implication ↦ not b | negation ↦ not b | equality ↦ b | other ↦ b ]

-- the parts of an equality, offered in order
abbrev pub copied : List (Form × Form) → List (Option Form)
copied ps = map (λ p. some (equal p.0 p.1)) ps

abbrev pub before : Option Form → Scans → Scans
before g (scans x gs) = scans x (g ∷ gs)

abbrev pub offer_part : Form → Form → Taken → List (Form × Form) → Scans → Scans
offer_part l r (taken i e) ps later = scans (taken i e) (absent ∷ copied ps)
offer_part l r nothing ps later = before (some (equal l r)) later

unfoldable pub offer_parts : ℕ → List (Form × Form) → Scans
offer_parts n [] = scans nothing []
offer_parts n (p ∷ ps) = offer_part p.0 p.1 (accept n p.0 p.1) ps (offer_parts n ps)

-- children in order; after the first equality taken they are copied
abbrev pub copies : Forms → List (Option Form)
copies none = []
copies (more f fs) = some f ∷ copies fs

abbrev pub follow : Scan → Forms → Scans → Scans
follow (scanned (taken i e) g) fs later = scans (taken i e) (g ∷ copies fs)
follow (scanned nothing g) fs later = before g later

abbrev pub with : (List (Option Form) → Option Form) → Scans → Scan
with f (scans x gs) = scanned x (f gs)

abbrev pub rebuild : ℕ → Role → ℕ → Form → Forms → Scans → Scan
rebuild n junction t f ks rs = with (λ gs. joined t (present gs)) rs
rebuild n implication t f ks rs = with (λ gs. implies (get_or gs 0 absent) (get_or gs 1 absent)) rs
rebuild n negation t f ks rs = with (λ gs. Option.map negate (get_or gs 0 absent)) rs
rebuild n equality t f ks rs = with (λ gs. joined 351 (present gs)) (offer_parts n (of_two [] parts ks))
rebuild n other t f ks rs = scanned nothing (some f)

unfoldable mutual
  -- for n declarations, with a polarity
  pub scan : ℕ → Bool → Form → Scan
  scan n b (leaf x) = scanned nothing (some (leaf x))
  scan n b (node t o ds ks) =
      rebuild n (role t ds ks b) t (node t o ds ks) ks (scan_all n (first_polarity (role t ds ks b) b) b ks)
  scan n b (noted t o ds ks) = scanned nothing (some (noted t o ds ks))

  -- the first child with one polarity, the others with another
  pub scan_all : ℕ → Bool → Bool → Forms → Scans
  scan_all n p q none = scans nothing []
  scan_all n p q (more f fs) = follow (scan n p f) fs (scan_all n q q fs)
