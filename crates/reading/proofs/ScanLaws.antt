-- What the scan leaves of a body: where nothing is taken it has the body's truth; else the body is the equality taken, joined to what is left,
-- by `and` where the polarity is true, by `or` with its negation where it is false. Assumes nothing.
use mathlib.Core.Path.{◌≡◌, refl, ap, ◌∙◌, sym}
use mathlib.Core.List.{List, [], ◌∷◌, map}
use mathlib.Core.Option
use mathlib.Core.Option.{Option, none as absent, some}
use mathlib.Core.Bool.{Bool, true, false, not, ◌&&◌, ◌||◌, and-true, or-false, and_assoc, or_assoc, not-not}
use Prim.Native.Nat.{ℕ}
use borrow.Author.Tests.{eqb-true}
use lib.Dec.{ltb, eqb}
use lib.IntN.{ℤ}
use lib.ListN.{get_or}
use Rattle.tree.specs.Form.{free, bound, Form, leaf, node, noted, Forms, none, more, pick, count}
use Rattle.rules.specs.Replacement.{left, right, offer, index_of, offer_of, above, Taken, taken, nothing, allowed, of_offer, accept}
use Rattle.rules.specs.Split.{parts, equal}
use Rattle.rules.specs.Scan.{Scan, scanned, Scans, scans, negate, present, joined, implies, copied, offer_part, offer_parts, copies, follow, with}
use Rattle.reading.specs.Reading.{Reading, truth, every, some as any_true, same, value_of, Env, value, values}
use Rattle.reading.proofs.Same.{truth-bit, same-comm}
use Rattle.reading.proofs.Exists.{turn}
use Rattle.reading.proofs.PartsLaws.{equal-value, all_same, parts-value}

-- joined by `and` or by `or`; b itself is the unit
abbrev pub both : Bool → Bool → Bool → Bool
both true x y = x && y
both false x y = x || y

both-unit : (b x : Bool) → both b x b ≡ x
both-unit true x = and-true x
both-unit false x = or-false x

unit-both : (b x : Bool) → both b b x ≡ x
unit-both true x = refl
unit-both false x = refl

both-assoc : (b x y z : Bool) → both b (both b x y) z ≡ both b x (both b y z)
both-assoc true x y z = and_assoc x y z
both-assoc false x y z = or_assoc x y z

both_later : (b q u w : Bool) → both b u (both b q w) ≡ both b q (both b u w)
both_later true q true w = refl
both_later true true false w = refl
both_later true false false w = refl
both_later false q false w = refl
both_later false true true w = refl
both_later false false true w = refl

-- an equation q and a rest x
abbrev pub tied : Bool → Bool → Bool → Bool
tied b q x = both b (turn b q) x

tied-not : (b q x : Bool) → not (tied (not b) q x) ≡ tied b q (not x)
tied-not true true x = refl
tied-not true false x = refl
tied-not false true x = refl
tied-not false false x = refl

-- what the rule of Places asks of a target and its replacement
abbrev pub Good : ℕ → ℕ → Form → Type 0
Good n i e = (ltb i n ≡ true) × (above i e ≡ true)

module _ (R : Reading) (θ : Env) (n : ℕ) where
  -- the truth v is that of what was taken, joined to w
  abbrev pub Ties : Bool → Bool → Taken → Bool → Type 0
  Ties b v (taken i e) w = Good n i e × (v ≡ tied b (same (θ i) (value R θ e)) w)
  Ties b v nothing w = v ≡ w

  ties-first : (b u v w : Bool) (x : Taken) → Ties b v x w → Ties b (both b v u) x (both b w u)
  ties-first b u v w (taken i e) h = (h.0, ap (λ z. both b z u) h.1 ∙ both-assoc b (turn b (same (θ i) (value R θ e))) w u)
  ties-first b u v w nothing h = ap (λ z. both b z u) h

  ties-later : (b u v w : Bool) (x : Taken) → Ties b v x w → Ties b (both b u v) x (both b u w)
  ties-later b u v w (taken i e) h = (h.0, ap (λ z. both b u z) h.1 ∙ both_later b (turn b (same (θ i) (value R θ e))) u w)
  ties-later b u v w nothing h = ap (λ z. both b u z) h

  ties-not : (b v w : Bool) (x : Taken) → Ties (not b) v x w → Ties b (not v) x (not w)
  ties-not b v w (taken i e) h = (h.0, ap not h.1 ∙ tied-not b (same (θ i) (value R θ e)) w)
  ties-not b v w nothing h = ap not h

  -- the truth of what is left: the unit where the node vanished
  abbrev pub left_truth : Bool → Option Form → Bool
  left_truth b absent = b
  left_truth b (some g) = truth (value R θ g)

  abbrev pub left_all : Bool → List (Option Form) → Bool
  left_all b [] = b
  left_all b (g ∷ gs) = both b (left_truth b g) (left_all b gs)

  abbrev pub all : Bool → List ℤ → Bool
  all b [] = b
  all b (v ∷ vs) = both b (truth v) (all b vs)

  abbrev pub Tied : Bool → Form → Scan → Type 0
  Tied b f (scanned x g) = Ties b (truth (value R θ f)) x (left_truth b g)

  abbrev pub TiedAll : Bool → Bool → Scans → Type 0
  TiedAll b v (scans x gs) = Ties b v x (left_all b gs)

  -- a 351 under true, a 352 under false
  abbrev pub junction_of : Bool → ℕ
  junction_of true = 351
  junction_of false = 352

  every-all : (vs : List ℤ) → every (map truth vs) ≡ all true vs
  every-all [] = refl
  every-all (v ∷ vs) = rw (every-all vs)

  some-all : (vs : List ℤ) → any_true (map truth vs) ≡ all false vs
  some-all [] = refl
  some-all (v ∷ vs) = rw (some-all vs)

  pub junction-value : (b : Bool) (t : ℕ) (o : List ℕ) (ks : Forms) → t ≡ junction_of b
      → truth (value R θ (node t o [] ks)) ≡ all b (values R θ ks)
  unfolding value value_of
  junction-value true t o ks q = rw q (truth-bit (every (map truth (values R θ ks))) ∙ every-all (values R θ ks))
  junction-value false t o ks q = rw q (truth-bit (any_true (map truth (values R θ ks))) ∙ some-all (values R θ ks))

  joined-value : (b : Bool) (t : ℕ) (fs : Forms) → t ≡ junction_of b → left_truth b (joined t fs) ≡ all b (values R θ fs)
  unfolding value
  joined-value b t none q = refl
  joined-value b t (more f none) q = sym (both-unit b (truth (value R θ f)))
  joined-value b t (more f (more g fs)) q = junction-value b t (count (more f (more g fs)) ∷ []) (more f (more g fs)) q

  present-value : (b : Bool) (gs : List (Option Form)) → all b (values R θ (present gs)) ≡ left_all b gs
  unfolding value
  present-value b [] = refl
  present-value b (absent ∷ gs) = present-value b gs ∙ sym (unit-both b (left_all b gs))
  present-value b (some g ∷ gs) = rw (present-value b gs)

  pub rejoin-tied : (b : Bool) (f : Form) (t : ℕ) (s : Scans) → t ≡ junction_of b → TiedAll b (truth (value R θ f)) s
      → Tied b f (with (λ gs. joined t (present gs)) s)
  rejoin-tied b f t (scans x gs) q h = rw (joined-value b t (present gs) q ∙ present-value b gs) h

  copies-value : (b : Bool) (fs : Forms) → left_all b (copies fs) ≡ all b (values R θ fs)
  unfolding value
  copies-value b none = refl
  copies-value b (more f fs) = rw (copies-value b fs)

  pub follow-tied : (b : Bool) (f : Form) (fs : Forms) (s : Scan) (later : Scans) → Tied b f s → TiedAll b (all b (values R θ fs)) later
      → TiedAll b (all b (values R θ (more f fs))) (follow s fs later)
  unfolding value
  follow-tied b f fs (scanned (taken i e) g) later h k =
      rw (copies-value b fs) (ties-first b (all b (values R θ fs)) (truth (value R θ f)) (left_truth b g) (taken i e) h)
  follow-tied b f fs (scanned nothing g) (scans x gs) h k =
      rw h (ties-later b (left_truth b g) (all b (values R θ fs)) (left_all b gs) x k)

  -- under a not
  not-value : (o : List ℕ) (f : Form) (fs : Forms) → truth (value R θ (node 8 o [] (more f fs))) ≡ not (truth (value R θ f))
  unfolding value value_of
  not-value o f fs = truth-bit (not (truth (value R θ f)))

  negate-node : (t : ℕ) (o : List ℕ) (f : Form) (fs : Forms) (z : Bool) → eqb t 8 ≡ z
      → truth (value R θ (pick z f (node 8 [] [] (more (node t o [] (more f fs)) none)))) ≡ not (truth (value R θ (node t o [] (more f fs))))
  negate-node t o f fs true q =
      let z : t ≡ 8 = eqb-true t 8 q in
      rw (z, not-value o f fs, not-not (truth (value R θ f)))
  negate-node t o f fs false q = not-value [] (node t o [] (more f fs)) none

  negate-value : (f : Form) → truth (value R θ (negate f)) ≡ not (truth (value R θ f))
  negate-value (leaf x) = not-value [] (leaf x) none
  negate-value (noted t o ds ks) = not-value [] (noted t o ds ks) none
  negate-value (node t o ds none) = not-value [] (node t o ds none) none
  negate-value (node t o [] (more f fs)) = negate-node t o f fs (eqb t 8) refl
  negate-value (node t o (d ∷ ds) (more f fs)) = not-value [] (node t o (d ∷ ds) (more f fs)) none

  negated-value : (b : Bool) (g : Option Form) → left_truth b (Option.map negate g) ≡ not (left_truth (not b) g)
  negated-value b absent = sym (not-not b)
  negated-value b (some g) = negate-value g

  pub negated-tied : (b : Bool) (t : ℕ) (o : List ℕ) (f : Form) (s : Scan) → t ≡ 8 → Tied (not b) f s
      → Tied b (node t o [] (more f none)) (with (λ gs. Option.map negate (get_or gs 0 absent)) (follow s none (scans nothing [])))
  negated-tied b t o f (scanned (taken i e) g) q h =
      rw (q, not-value o f none, negated-value b g) (ties-not b (truth (value R θ f)) (left_truth (not b) g) (taken i e) h)
  negated-tied b t o f (scanned nothing g) q h =
      rw (q, not-value o f none, negated-value b g) (ties-not b (truth (value R θ f)) (left_truth (not b) g) nothing h)

  -- an implication, under false
  implies-value : (o : List ℕ) (l r : Form)
      → truth (value R θ (node 251 o [] (more l (more r none)))) ≡ (not (truth (value R θ l)) || truth (value R θ r))
  unfolding value value_of
  implies-value o l r = truth-bit (not (truth (value R θ l)) || truth (value R θ r))

  implies-left : (x y : Option Form) → left_truth false (implies x y) ≡ (not (left_truth true x) || left_truth false y)
  implies-left absent y = refl
  implies-left (some l) absent = negate-value l ∙ sym (or-false (not (truth (value R θ l))))
  implies-left (some l) (some r) = implies-value [] l r

  pub implied-tied : (t : ℕ) (o : List ℕ) (l r : Form) (s z : Scan) → t ≡ 251 → Tied true l s → Tied false r z
      → Tied false (node t o [] (more l (more r none))) (with (λ gs. implies (get_or gs 0 absent) (get_or gs 1 absent)) (follow s (more r none) (follow z none (scans nothing []))))
  implied-tied t o l r (scanned (taken i e) g) z q h k =
      rw (q, implies-value o l r, implies-left g (some r))
      (ties-first false (truth (value R θ r)) (not (truth (value R θ l))) (not (left_truth true g)) (taken i e)
      (ties-not false (truth (value R θ l)) (left_truth true g) (taken i e) h))
  implied-tied t o l r (scanned nothing g) (scanned (taken i e) y) q h k =
      rw (q, implies-value o l r, implies-left g y, h) (ties-later false (not (left_truth true g)) (truth (value R θ r)) (left_truth false y) (taken i e) k)
  implied-tied t o l r (scanned nothing g) (scanned nothing y) q h k =
      rw (q, implies-value o l r, implies-left g y, h) (ties-later false (not (left_truth true g)) (truth (value R θ r)) (left_truth false y) nothing k)

  -- what is accepted is the equality itself
  abbrev Fair : Form → Form → Taken → Type 0
  Fair l r (taken i e) = Good n i e × (same (value R θ l) (value R θ r) ≡ same (θ i) (value R θ e))
  Fair l r nothing = Unit {0}

  allowed-fair : (l r : Form) (i : ℕ) (e : Form) → same (value R θ l) (value R θ r) ≡ same (θ i) (value R θ e) → Fair l r (allowed n i e)
  allowed-fair l r i e h = by (ltb i n) (above i e) refl refl
    where
      by : (s t : Bool) → ltb i n ≡ s → above i e ≡ t → Fair l r (pick s (pick t (taken i e) nothing) nothing)
      by true true p q = ((p, q), h)
      by true false p q = tt
      by false t p q = tt

  index-value : (f : Form) (i : ℕ) → index_of f ≡ some i → value R θ f ≡ θ i
  unfolding value
  index-value (leaf (free m)) i q = cc
  index-value (leaf (bound j)) i q =
      let z : j ≡ i = cc in
      ap θ z
  index-value (node t o ds ks) i q = cc
  index-value (noted t o ds ks) i q = cc

  right-fair : (l r : Form) (i : ℕ) → index_of l ≡ some i → Fair l r (allowed n i r)
  right-fair l r i q = allowed-fair l r i r (rw (index-value l i q))

  left-fair : (l r : Form) (j : ℕ) → index_of r ≡ some j → Fair l r (allowed n j l)
  left-fair l r j q = allowed-fair l r j l (same-comm (value R θ l) (value R θ r) ∙ rw (index-value r j q))

  offer-fair : (l r : Form) (x y : Option ℕ) → index_of l ≡ x → index_of r ≡ y → Fair l r (of_offer n l r (offer_of x y))
  offer-fair l r (some i) (some j) p q = by (ltb i j)
    where
      by : (z : Bool) → Fair l r (of_offer n l r (pick z (offer i right) (offer j left)))
      by true = right-fair l r i p
      by false = left-fair l r j q
  offer-fair l r absent (some j) p q = left-fair l r j q
  offer-fair l r (some i) absent p q = right-fair l r i p
  offer-fair l r absent absent p q = tt

  accept-fair : (l r : Form) → Fair l r (accept n l r)
  unfolding accept
  accept-fair l r = offer-fair l r (index_of l) (index_of r) refl refl

  -- the parts of an equality, under true
  part-value : (l r : Form) → truth (value R θ (equal l r)) ≡ same (value R θ l) (value R θ r)
  part-value l r = equal-value R θ 101 [] l r refl

  copied-value : (ps : List (Form × Form)) → left_all true (copied ps) ≡ all_same R θ ps
  copied-value [] = refl
  copied-value (p ∷ ps) = rw (part-value p.0 p.1, copied-value ps)

  part-tied : (l r : Form) (ps : List (Form × Form)) (x : Taken) (later : Scans) → Fair l r x → TiedAll true (all_same R θ ps) later
      → TiedAll true (same (value R θ l) (value R θ r) && all_same R θ ps) (offer_part l r x ps later)
  part-tied l r ps (taken i e) later h k = (h.0, rw (h.1, copied-value ps))
  part-tied l r ps nothing (scans x gs) h k =
      rw (part-value l r) (ties-later true (same (value R θ l) (value R θ r)) (all_same R θ ps) (left_all true gs) x k)

  parts-tied : (ps : List (Form × Form)) → TiedAll true (all_same R θ ps) (offer_parts n ps)
  unfolding offer_parts
  parts-tied [] = refl
  parts-tied (p ∷ ps) = part-tied p.0 p.1 ps (accept n p.0 p.1) (offer_parts n ps) (accept-fair p.0 p.1) (parts-tied ps)

  pub equality-tied : (t : ℕ) (o : List ℕ) (l r : Form) → t ≡ 101
      → Tied true (node t o [] (more l (more r none))) (with (λ gs. joined 351 (present gs)) (offer_parts n (parts l r)))
  equality-tied t o l r q =
      rejoin-tied true (node t o [] (more l (more r none))) 351 (offer_parts n (parts l r)) refl
      (rw (q, equal-value R θ 101 o l r refl, ← parts-value R θ l r) (parts-tied (parts l r)))
