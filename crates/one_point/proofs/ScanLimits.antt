-- What a scan leaves is well-formed and no deeper than the form was, and so is the replacement. Supposes that the form's row has at most
-- 4,294,967,295 words: an equality that is split has as many parts as its 351 then counts. Assumes nothing else.
use mathlib.Core.Path.{◌≡◌, refl, ap, ◌∙◌}
use mathlib.Core.Bool.{Bool, true, false, not, ◌&&◌, ◌||◌}
use mathlib.Core.Option.{Option, none as absent, some, map}
use mathlib.Core.List.{List, [], ◌∷◌, ◌++◌}
use Prim.Native.Nat.{ℕ, zero, suc, ◌+◌, ◌≤◌, ◌<◌}
use native.Mathlib.Omega.{arith}
use borrow.Author.Tests.{eqb-true, eqb-false, ltb-true}
use lib.Dec.{eqb, ltb}
use lib.ListN.{length, get_or, replicate, length-append}
use Rattle.tree.specs.Form.{Form, leaf, node, noted, Forms, none, more, pick, count, encode, encode_all}
use Rattle.tree.specs.Tag.{expr, pred, own, own_of, shape_of, pred_tags}
use Rattle.form.specs.Decode.{read, is_leaf}
use Rattle.tree.specs.declared.tag.Shape.TheVariants.{Preds}
use Rattle.form.proofs.DecodeLaws.{clash, Ok, ok-node, ok-noted, OkAll, ok-none, ok-more}
use Rattle.rules.proofs.WalkLaws.{and_left}
use Rattle.rules.proofs.OkLaws.{ok-deep}
use Rattle.rules.specs.Replacement.{left, right, Offer, offer, no-offer, offered, Taken, taken, nothing, above, allowed, of_offer, accept}
use Rattle.rules.specs.Split.{of_two, is_nil, is_pair, parts, parts_all}
use Rattle.rules.specs.Scan as S
use Rattle.rules.specs.Scan.{Scan, scanned, Scans, scans, negate, present, joined, implies, Role, role_of, suits, role, first_polarity, copied, offer_part, offer_parts, copies, follow, with, rebuild, scan, scan_all}
use Rattle.rules.specs.Point.{rest_of}
use Rattle.places.proofs.ViewLaws.{plain-node, two-more}
use Rattle.one_point.proofs.WriteLaws.{negate-other}
use Rattle.places.proofs.PartsLaws.{some_words}
use Rattle.one_point.proofs.RebuildLaws.{not_of, not-kids}
use Rattle.one_point.proofs.NodeLaws.{count-node}
use Rattle.places.proofs.PartsOk.{equal-ok, counted-ok, OkParts, pair_parts, parts_all-ok, kids-few, parts_all-few}

abbrev pub OkLeft : ℕ → Option Form → Type 0
OkLeft d (some f) = Ok d pred f
OkLeft d absent = Unit {0}

-- the target is one of n declarations, and every index that dangles in the replacement is above it
abbrev pub OkTaken : ℕ → ℕ → Taken → Type 0
OkTaken n d (taken i e) = Ok d expr e × (i < n) × (above i e ≡ true)
OkTaken n d nothing = Unit {0}

abbrev pub OkScan : ℕ → ℕ → Scan → Type 0
OkScan n d (scanned x g) = OkTaken n d x × OkLeft d g

abbrev OkLefts : ℕ → List (Option Form) → Type 0
OkLefts d [] = Unit {0}
OkLefts d (g ∷ gs) = OkLeft d g × OkLefts d gs

-- at most c children are left
abbrev OkScans : ℕ → ℕ → ℕ → Scans → Type 0
OkScans n d c (scans x gs) = OkTaken n d x × OkLefts d gs × (count (present gs) ≤ c)

left-deep : (d : ℕ) (g : Option Form) → OkLeft d g → OkLeft (suc d) g
left-deep d (some f) h = ok-deep h (suc d) (omega arith)
left-deep d absent h = tt

taken-deep : (n d : ℕ) (x : Taken) → OkTaken n d x → OkTaken n (suc d) x
taken-deep n d (taken i e) h = (ok-deep h.0 (suc d) (omega arith), h.1, h.2)
taken-deep n d nothing h = tt

-- a not, an implication, an equality, an associative node
not-ok : {d : ℕ} {f : Form} → Ok d pred f → Ok (suc d) pred (node 8 [] [] (more f none))
unfolding own own_of shape_of pred_tags read
not-ok h = ok-node {p = 1} {e = 0} refl (λ x. refl) (ok-more h ok-none)

implies-ok : {d : ℕ} {l r : Form} → Ok d pred l → Ok d pred r → Ok (suc d) pred (node 251 [] [] (more l (more r none)))
unfolding own own_of shape_of pred_tags read
implies-ok h k = ok-node {p = 2} {e = 0} refl (λ x. refl) (ok-more h (ok-more k ok-none))

constant-ok : (d : ℕ) (b : Bool) → Ok (suc d) pred (rest_of b absent)
unfolding own own_of shape_of pred_tags read
constant-ok d true = ok-node {p = 0} {e = 0} refl (λ x. refl) ok-none
constant-ok d false = ok-node {p = 0} {e = 0} refl (λ x. refl) ok-none

pub rest_ok : {d : ℕ} (b : Bool) (g : Option Form) → OkLeft (suc d) g → Ok (suc d) pred (rest_of b g)
rest_ok b (some f) h = h
rest_ok {d} b absent h = constant-ok d b

-- what is left of children, joined
present-ok : (d : ℕ) (gs : List (Option Form)) → OkLefts d gs → OkAll d (replicate (count (present gs)) pred) (present gs)
present-ok d [] h = ok-none
present-ok d (absent ∷ gs) h = present-ok d gs h.1
present-ok d (some g ∷ gs) h = ok-more h.0 (present-ok d gs h.1)

joined-ok : (d t : ℕ) (fs : Forms) → is_leaf t ≡ false → shape_of pred t ≡ Preds 2 → OkAll d (replicate (count fs) pred) fs → count fs ≤ 4294967295 → OkLeft (suc d) (joined t fs)
joined-ok d t none l q k h = tt
joined-ok d t (more f none) l q (ok-more a k) h = ok-deep a (suc d) (omega arith)
joined-ok d t (more f (more g fs)) l q k h = counted-ok l q k (omega arith) h

with-joined : (n d c t : ℕ) (z : Scans) → is_leaf t ≡ false → shape_of pred t ≡ Preds 2 → c ≤ 4294967295 → OkScans n d c z → OkScan n (suc d) (with (λ gs. joined t (present gs)) z)
with-joined n d c t (scans x gs) l q h k = let m = k.2 in (taken-deep n d x k.0, joined-ok d t (present gs) l q (present-ok d gs k.1) (omega arith))

-- negated, and implied
negate-not : {d : ℕ} {f g : Form} → f ≡ not_of g → Ok d pred g → Ok (suc (suc d)) pred (negate f)
negate-not {d} e h = rw e (ok-deep h (suc (suc d)) (omega arith))

negate-tag : {d t : ℕ} {o ds : List ℕ} {ks : Forms} → Ok (suc d) pred (node t o ds ks) → (b : Bool) → eqb t 8 ≡ b → Ok (suc (suc d)) pred (negate (node t o ds ks))
negate-tag {d} {t} {o} {ds} {ks} w true e =
    let q : t ≡ 8 = eqb-true t 8 e in
    let (g, m, h) = not-kids (rw q at w) in
    negate-not (ap (λ z. node z o ds ks) q ∙ m) h
negate-tag {t = t} {o = o} {ds = ds} {ks = ks} w false e = rw (negate-other t o ds ks (eqb-false t 8 e)) (not-ok w)

negate-ok : {d : ℕ} {f : Form} → Ok d pred f → Ok (suc d) pred (negate f)
negate-ok (ok-node {t = t} a b k) = negate-tag (ok-node a b k) (eqb t 8) refl
negate-ok (ok-noted a b v k) = not-ok (ok-noted a b v k)

negated-ok : (d : ℕ) (g : Option Form) → OkLeft d g → OkLeft (suc d) (map negate g)
negated-ok d absent h = tt
negated-ok d (some f) h = negate-ok h

first-ok : (d : ℕ) (gs : List (Option Form)) → OkLefts d gs → OkLeft d (get_or gs 0 absent)
first-ok d [] h = tt
first-ok d (g ∷ gs) h = h.0

both_ok : (d : ℕ) (g r : Option Form) → OkLeft d g → OkLeft d r → OkLeft (suc d) (implies g r)
both_ok d absent r h k = left-deep d r k
both_ok d (some l) absent h k = negate-ok h
both_ok d (some l) (some r) h k = implies-ok h k

implied-ok : (d : ℕ) (gs : List (Option Form)) → OkLefts d gs → OkLeft (suc d) (implies (get_or gs 0 absent) (get_or gs 1 absent))
implied-ok d [] h = tt
implied-ok d (g ∷ gs) h = both_ok d g (get_or gs 0 absent) h.0 (first-ok d gs h.1)

with-ok : (n d c : ℕ) (f : List (Option Form) → Option Form) → ((gs : List (Option Form)) → OkLefts d gs → OkLeft (suc d) (f gs)) → (z : Scans) → OkScans n d c z → OkScan n (suc d) (with f z)
with-ok n d c f h (scans x gs) k = (taken-deep n d x k.0, h gs k.1)

-- an equality that is accepted
allowed-ok : (n : ℕ) {d : ℕ} (i : ℕ) (e : Form) → Ok d expr e → OkTaken n d (allowed n i e)
allowed-ok n {d} i e h = go (ltb i n) (above i e) refl refl
  where
    go : (b c : Bool) → ltb i n ≡ b → above i e ≡ c → OkTaken n d (pick b (pick c (taken i e) nothing) nothing)
    go true true p q = (h, ltb-true i n p, q)
    go true false p q = tt
    go false c p q = tt

accept-ok : (n : ℕ) {d : ℕ} (l r : Form) → Ok d expr l → Ok d expr r → OkTaken n d (accept n l r)
unfolding accept
accept-ok n {d} l r h k = go (offered l r)
  where
    go : (o : Offer) → OkTaken n d (of_offer n l r o)
    go (offer i left) = allowed-ok n i l h
    go (offer i right) = allowed-ok n i r k
    go no-offer = tt

-- the parts offered
copied-ok : (d : ℕ) (ps : List (Form × Form)) → OkParts d ps → OkLefts (suc d) (copied ps)
copied-ok d [] h = tt
copied-ok d (p ∷ ps) h = (equal-ok h.0.0 h.0.1, copied-ok d ps h.1)

copied-count : (ps : List (Form × Form)) → count (present (copied ps)) ≡ length ps
copied-count [] = refl
copied-count (p ∷ ps) = ap suc (copied-count ps)

module _ (n d : ℕ) where
  offer-one : (l r : Form) (z : Taken) (ps : List (Form × Form)) (later : Scans) → Ok d expr l → Ok d expr r → OkTaken n d z → OkParts d ps → OkScans n (suc d) (length ps) later
      → OkScans n (suc d) (suc (length ps)) (offer_part l r z ps later)
  offer-one l r (taken i e) ps later h k x y q = let c = copied-count ps in (taken-deep n d (taken i e) x, (tt, copied-ok d ps y), omega arith)
  offer-one l r nothing ps (scans x' gs) h k x y q = let c = q.2 in (q.0, (equal-ok h k, q.1), omega arith)

  offer-ok : (ps : List (Form × Form)) → OkParts d ps → OkScans n (suc d) (length ps) (offer_parts n ps)
  unfolding offer_parts
  offer-ok [] h = (tt, tt, omega arith)
  offer-ok (p ∷ ps) h = offer-one p.0 p.1 (accept n p.0 p.1) ps (offer_parts n ps) h.0.0 h.0.1 (accept-ok n p.0 p.1 h.0.0 h.0.1) h.1 (offer-ok ps h.1)

abbrev split_of : ℕ → List (Form × Form) → Scan
split_of n ps = with (λ gs. joined 351 (present gs)) (offer_parts n ps)

one-part : (n : ℕ) {d : ℕ} (l r : Form) → Ok d expr l → Ok d expr r → OkScan n (suc d) (split_of n ((l, r) ∷ []))
unfolding offer_parts
one-part n {d} l r h k = go (accept n l r) (accept-ok n l r h k)
  where
    go : (z : Taken) → OkTaken n d z → OkScan n (suc d) (with (λ gs. joined 351 (present gs)) (offer_part l r z [] (scans nothing [])))
    go (taken i e) x = (taken-deep n d (taken i e) x, tt)
    go nothing x = (tt, equal-ok h k)

all-parts : (n d : ℕ) (ps : List (Form × Form)) → OkParts d ps → length ps ≤ 4294967295 → OkScan n (suc (suc d)) (split_of n ps)
unfolding shape_of pred_tags
all-parts n d ps h k = with-joined n (suc d) (length ps) 351 (offer_parts n ps) refl refl k (offer-ok n d ps h)

split-ok : (n : ℕ) {d : ℕ} (l r : Form) → Ok d expr l → Ok d expr r → length (encode l) ≤ 4294967295 → OkScan n (suc d) (split_of n (parts l r))
unfolding parts
split-ok n (leaf x) r h k s = one-part n (leaf x) r h k
split-ok n (node t o ds ks) (leaf y) h k s = one-part n (node t o ds ks) (leaf y) h k
split-ok n (node t o ds ks) (noted u p es js) h k s = one-part n (node t o ds ks) (noted u p es js) h k
split-ok n (noted t o ds ks) r h k s = one-part n (noted t o ds ks) r h k
split-ok n (node t o ds ks) (node u p es js) (ok-node {d = d} a b c) (ok-node a' b' c') s = go (is_pair t ds ks && is_pair u es js) refl
  where
    few : length (parts_all ks js) ≤ 4294967295
    few = let h = parts_all-few ks js in let k = kids-few t o ds ks in omega arith

    go : (b : Bool) → (is_pair t ds ks && is_pair u es js) ≡ b → OkScan n (suc (suc d)) (split_of n (pick b (parts_all ks js) ((node t o ds ks, node u p es js) ∷ [])))
    go true e = all-parts n d (parts_all ks js) (pair_parts t o ds ks u p es js (ok-node a b c) (ok-node a' b' c') (λ x y. parts_all-ok d ks js x y) e) few
    go false e = one-part n (node t o ds ks) (node u p es js) (ok-node a b c) (ok-node a' b' c')

-- what a node is that the scan enters
abbrev Tagged : ℕ → Role → Type 0
Tagged t S.junction = (is_leaf t ≡ false) × (shape_of pred t ≡ Preds 2)
Tagged t S.implication = t ≡ 251
Tagged t S.negation = t ≡ 8
Tagged t S.equality = t ≡ 101
Tagged t S.other = Unit {0}

pick-tagged : (t : ℕ) (x y z w : Bool) → (x ≡ true → t ≡ 8) → (y ≡ true → Tagged t S.junction) → (z ≡ true → t ≡ 251) → (w ≡ true → t ≡ 101)
    → Tagged t (pick x S.negation (pick y S.junction (pick z S.implication (pick w S.equality S.other))))
pick-tagged t true y z w a b c d = a refl
pick-tagged t false true z w a b c d = b refl
pick-tagged t false false true w a b c d = c refl
pick-tagged t false false false true a b c d = d refl
pick-tagged t false false false false a b c d = tt

junction-tag : (t : ℕ) (b : Bool) → (eqb t 351 && b || eqb t 352 && not b) ≡ true → Tagged t S.junction
unfolding shape_of pred_tags
junction-tag t b e = go (eqb t 351) (eqb t 352) b refl refl e
  where
    go : (x y b : Bool) → eqb t 351 ≡ x → eqb t 352 ≡ y → (x && b || y && not b) ≡ true → Tagged t S.junction
    go true y b p q e = rw (eqb-true t 351 p) (refl, refl)
    go false true b p q e = rw (eqb-true t 352 q) (refl, refl)
    go false false b p q e = absurd (clash cc)

role-tagged : (t : ℕ) (ds : List ℕ) (ks : Forms) (b : Bool) → Tagged t (role t ds ks b)
role-tagged t ds ks b = go (is_nil ds && suits (role_of t b) ks)
  where
    go : (c : Bool) → Tagged t (pick c (role_of t b) S.other)
    go true =
        pick-tagged t (eqb t 8) (eqb t 351 && b || eqb t 352 && not b) (eqb t 251 && not b) (eqb t 101 && b) (λ e. eqb-true t 8 e) (λ e. junction-tag t b e)
        (λ e. eqb-true t 251 (and_left (eqb t 251) (not b) e)) (λ e. eqb-true t 101 (and_left (eqb t 101) b e))
    go false = tt

-- children in order
present-more : (g : Option Form) (gs : List (Option Form)) → count (present (g ∷ gs)) ≤ suc (count (present gs))
present-more absent gs = omega arith
present-more (some g) gs = omega arith

copies-count : (fs : Forms) → count (present (copies fs)) ≡ count fs
copies-count none = refl
copies-count (more f fs) = ap suc (copies-count fs)

copies-ok : (d c : ℕ) (fs : Forms) → OkAll d (replicate c pred) fs → OkLefts d (copies fs)
copies-ok d c none k = tt
copies-ok d zero (more f fs) k = elim k [ ]
copies-ok d (suc c) (more f fs) (ok-more h k) = (h, copies-ok d c fs k)

follow-ok : (n d c : ℕ) (z : Scan) (fs : Forms) (later : Scans) → OkScan n d z → OkAll d (replicate c pred) fs → OkScans n d (count fs) later → OkScans n d (suc (count fs)) (follow z fs later)
follow-ok n d c (scanned (taken i e) g) fs later h k q =
    let a = present-more g (copies fs) in
    let b = copies-count fs in
    (h.0, (h.1, copies-ok d c fs k), omega arith)
follow-ok n d c (scanned nothing g) fs (scans x gs) h k q =
    let a = present-more g gs in
    let b = q.2 in
    (q.0, (h.1, q.1), omega arith)

count-words : (fs : Forms) → count fs ≤ length (encode_all fs)
unfolding encode
count-words none = omega arith
count-words (more f fs) =
    let a = count-words fs in
    let s = some_words f in
    rw length-append (omega arith)

-- a node by the scans of its children
module _ (n d t : ℕ) (o ds : List ℕ) (ks : Forms) (w : Ok (suc d) pred (node t o ds ks)) (short : length (encode (node t o ds ks)) ≤ 4294967295) (rs : Scans)
    (kids : (c : ℕ) → OkAll d (replicate c pred) ks → OkScans n d (count ks) rs) where
  few-kids : count ks ≤ 4294967295
  few-kids = let a = count-words ks in let b = kids-few t o ds ks in omega arith

  left-short : (l r : Form) → ks ≡ more l (more r none) → length (encode l) ≤ 4294967295
  unfolding encode
  left-short l r m =
      let a = kids-few t o ds ks in
      let b : length (encode_all ks) ≡ length (encode l) + length (encode r ++ []) = ap (λ z. length (encode_all z)) m ∙ length-append (encode l) (encode r ++ []) in
      omega arith

  sides-ok : (l r : Form) → ks ≡ more l (more r none) → Ok d expr l → Ok d expr r → OkScan n (suc d) (split_of n (of_two [] parts ks))
  sides-ok l r m h i = rw m (split-ok n l r h i (left-short l r m))

  equality-ok : t ≡ 101 → OkScan n (suc d) (split_of n (of_two [] parts ks))
  unfolding shape_of pred_tags
  equality-ok e =
      let (a, b, k) = plain-node (rw e at w) 0 2 refl in
      let (l, r, m, h, i) = two-more k in
      sides-ok l r m h i

  rebuild-ok : (x : Role) → Tagged t x → OkScan n (suc d) (rebuild n x t (node t o ds ks) ks rs)
  unfolding shape_of pred_tags
  rebuild-ok S.junction e = let (c, a, b, k) = count-node w e.1 in with-joined n d (count ks) t rs e.0 e.1 few-kids (kids c k)
  rebuild-ok S.implication e = let (a, b, k) = plain-node (rw e at w) 2 0 refl in with-ok n d (count ks) (λ gs. implies (get_or gs 0 absent) (get_or gs 1 absent)) (implied-ok d) rs (kids 2 k)
  rebuild-ok S.negation e = let (a, b, k) = plain-node (rw e at w) 1 0 refl in with-ok n d (count ks) (λ gs. map negate (get_or gs 0 absent)) (λ gs h. negated-ok d (get_or gs 0 absent) (first-ok d gs h)) rs (kids 1 k)
  rebuild-ok S.equality e = equality-ok e
  rebuild-ok S.other e = (tt, w)

module _ (n : ℕ) where
  mutual
    unfolding scan encode

    scan-form : (f : Form) {d : ℕ} → Ok d pred f → length (encode f) ≤ 4294967295 → (b : Bool) → OkScan n d (scan n b f)
    scan-form (leaf x) {d = d} w short b = elim w [ ]
    scan-form (noted t o ds ks) w short b = (tt, w)
    scan-form (node t o ds ks) (ok-node {d = d} x y z) short b =
        let few = kids-few t o ds ks in
        rebuild-ok n d t o ds ks (ok-node x y z) short (scan_all n (first_polarity (role t ds ks b) b) b ks) (λ c k. scan-forms ks d c k (omega arith) (first_polarity (role t ds ks b) b) b) (role t ds ks b) (role-tagged t ds ks b)

    scan-forms : (fs : Forms) (d c : ℕ) → OkAll d (replicate c pred) fs → length (encode_all fs) ≤ 4294967295 → (p q : Bool) → OkScans n d (count fs) (scan_all n p q fs)
    scan-forms none d c k short p q = (tt, tt, omega arith)
    scan-forms (more f fs) d zero k short p q = elim k [ ]
    scan-forms (more f fs) d (suc c) (ok-more h k) short p q =
        let l = length-append (encode f) (encode_all fs) in
        follow-ok n d c (scan n p f) fs (scan_all n q q fs) (scan-form f h (omega arith) p) k (scan-forms fs d c k (omega arith) q q)

pub scan-ok : {d : ℕ} {f : Form} → Ok d pred f → length (encode f) ≤ 4294967295 → (n : ℕ) (b : Bool) → OkScan n d (scan n b f)
scan-ok {f = f} h short n b = scan-form n f h short b
