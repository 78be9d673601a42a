-- An associative node, what is left of it, and what follows a child. Assumes nothing.
use mathlib.Core.Path.{◌≡◌, refl}
use mathlib.Core.Bool.{Bool, true, false, not, ◌&&◌, ◌||◌}
use mathlib.Core.Option.{some}
use mathlib.Core.List.{List, [], ◌∷◌, ◌++◌, append-nil}
use Prim.Native.Nat.{ℕ, suc, ◌+◌, ◌≤◌}
use native.Mathlib.Omega.{arith}
use borrow.Author.Tests.{eqb-true}
use lib.Dec.{eqb}
use lib.ListN.{length, get_or, drop, replicate}
use Rattle.std.specs.Prelude.{Option as Maybe, Some, None, is_some, is_none}
use Rattle.std.specs.Option.{unwrap_or}
use Rattle.tree.specs.Form.{Form, node, Forms, pick, count, between, encode, encode_all}
use Rattle.tree.specs.Tag.{pred, sorts, ask, kids as kids_own, own, own_of, shape_of, pred_tags}
use Rattle.form.specs.Decode.{head, only, read, Got, got, no-form, is_leaf, decode}
use Rattle.tree.specs.declared.tag.Shape.TheVariants.{Preds}
use Rattle.form.proofs.DecodeLaws.{clash, Ok, ok-node, ok-noted, OkAll, decode-sound}
use Rattle.rules.specs.Replacement.{Taken, taken, nothing}
use Rattle.rules.specs.Scan as S
use Rattle.rules.specs.Scan.{scanned, Scans, scans, joined, present, Role, role_of, with, scan, scan_all}
use Rattle.places.specs.Internal.Wrote.{Wrote}
use Rattle.one_point.specs.Internal.Writes.{left_words, is_gone}
use Rattle.one_point.specs.Internal.Parts.{TookIs}
use Rattle.one_point.specs.Internal.Scans.{Left, Became, Told, ScanTold, next_scan, KidsTold}
use Rattle.places.specs.declared.sides.Replacement.{Replacement}
use Rattle.one_point.specs.declared.scanned.Scanned.{Scanned}
use Rattle.reader.specs.Internal.Reads.{mark_all}
use Rattle.one_point.specs.Internal.Marks.{left_of, lefts_of, mark_left, ClearFrom, ScanMarks}
use Rattle.one_point.proofs.MarkLaws.{tell-marks}
use Rattle.places.proofs.WroteLaws.{wrote-end, wrote-in, kept, wrote_self, based}
use Rattle.places.proofs.PartsLaws.{tag_of, tag_at}
use Rattle.one_point.proofs.PartsStepLaws.{not_taken, took-not, took-none}
use Rattle.one_point.proofs.EqualityLaws.{words, joined-neat, joined_words}
use Rattle.one_point.proofs.ReadLaws.{tell}
use Rattle.one_point.proofs.RebuildLaws.{scan-and, scan-or, scan-other, positive-other, negative-other}

-- which associative node the scan enters
data Which (t : ℕ) (b : Bool) : Type 0 where
  and_is : t ≡ 351 → b ≡ true → Which t b
  or_is : t ≡ 352 → b ≡ false → Which t b

never : (p q : Bool) → pick p S.implication (pick q S.equality S.other) ≡ S.junction → ⊥
never true q e = clash cc
never false true e = clash cc
never false false e = clash cc

which-by : (t : ℕ) (x y z : Bool) (b : Bool) (rest : Role) → eqb t 351 ≡ y → eqb t 352 ≡ z → (rest ≡ S.junction → ⊥) → pick x S.negation (pick (y && b || z && not b) S.junction rest) ≡ S.junction → Which t b
which-by t true y z b rest p q n e = absurd (clash cc)
which-by t false true z true rest p q n e = and_is (eqb-true t 351 p) refl
which-by t false true true false rest p q n e = or_is (eqb-true t 352 q) refl
which-by t false true false false rest p q n e = absurd (n e)
which-by t false false true true rest p q n e = absurd (n e)
which-by t false false true false rest p q n e = or_is (eqb-true t 352 q) refl
which-by t false false false b rest p q n e = absurd (n e)

which : (t : ℕ) (b : Bool) → role_of t b ≡ S.junction → Which t b
which t b e = which-by t (eqb t 8) (eqb t 351) (eqb t 352) b (pick (eqb t 251 && not b) S.implication (pick (eqb t 101 && b) S.equality S.other)) refl refl (never (eqb t 251 && not b) (eqb t 101 && b)) e

-- its own word is the number of its children
count-own : (o ds : List ℕ) (p e : ℕ) → read (ask 2 4294967295 (λ n. kids_own 0 n 0)) (o ++ (ds ++ [])) ≡ head o ds p e [] → (c : ℕ) × (o ≡ c ∷ []) × (ds ≡ []) × (p ≡ c) × (e ≡ 0)
unfolding read
count-own [] [] p e q = absurd (clash cc)
count-own [] (w ∷ ds) p e q = absurd (go (between 2 4294967295 w) q)
  where
    go : (b : Bool) → only b (head (w ∷ []) [] w 0 (ds ++ [])) ≡ head [] (w ∷ ds) p e [] → ⊥
    go true q = clash cc
    go false q = clash cc
count-own (c ∷ o) ds p e q = go (between 2 4294967295 c) q
  where
    go : (b : Bool) → only b (head (c ∷ []) [] c 0 (o ++ (ds ++ []))) ≡ head (c ∷ o) ds p e [] → (c' : ℕ) × (c ∷ o ≡ c' ∷ []) × (ds ≡ []) × (p ≡ c') × (e ≡ 0)
    go true q = (c, cc, cc, cc, cc)
    go false q = absurd (clash cc)

pub count-node : {d t : ℕ} {o ds : List ℕ} {ks : Forms} → Ok (suc d) pred (node t o ds ks) → shape_of pred t ≡ Preds 2 → (c : ℕ) × (o ≡ c ∷ []) × (ds ≡ []) × OkAll d (replicate c pred) ks
unfolding own own_of
count-node {d} {o = o} {ds = ds} {ks = ks} (ok-node {p = p} {e = e} l h k) q =
    let (c, a, b, x, y) = count-own o ds p e (rw q at (h [])) in
    (c, a, b, only-preds c x y k)
  where
    only-preds : (c : ℕ) → p ≡ c → e ≡ 0 → OkAll d (sorts p e) ks → OkAll d (replicate c pred) ks
    only-preds c x y k = rw (x, y, append-nil) at k

-- the tag of an associative node that the scan enters
pub record JunctionTag (t : ℕ) (b : Bool) : Type 0 where
  pub node-tag : is_leaf t ≡ false
  pub shape : shape_of pred t ≡ Preds 2
  pub not_eight : t ≡ 8 → ⊥
  pub scan-is : (n : ℕ) (o : List ℕ) (ks : Forms) → scan n b (node t o [] ks) ≡ with (λ gs. joined t (present gs)) (scan_all n b b ks)

pub junction-tag : (t : ℕ) (b : Bool) → role_of t b ≡ S.junction → JunctionTag t b
unfolding shape_of pred_tags
junction-tag t b r = go (which t b r)
  where
    go : Which t b → JunctionTag t b
    go (and_is e q) = rw (e, q) (record { node-tag = refl; shape = refl; not_eight = λ z. clash (omega arith); scan-is = scan-and })
    go (or_is e q) = rw (e, q) (record { node-tag = refl; shape = refl; not_eight = λ z. clash (omega arith); scan-is = scan-or })

-- what is left of it
module _ (row : List ℕ) (at pos e m t : ℕ) (f : Form) (kids : Forms) (long : length (encode f) ≡ suc (suc (length (encode_all kids)))) (ne : t ≡ 8 → ⊥) (out out₂ out₃ : List ℕ) (low : pos + 2 ≤ length out) (found : Maybe Replacement)
    (next : ℕ) (end : Maybe ℕ) (to : next ≡ at + length (encode f))
    (fin : (fs : Forms) → m ≡ count fs → Wrote (pos + 2) out₂ (encode_all fs) e out₂ → (is_none end ≡ is_gone (joined t fs)) × Wrote pos out₂ (left_words (joined t fs)) (unwrap_or end pos) out₃) where
  junction-done : (z : Scans) → KidsTold row kids (pos + 2) out 0 z found e m out₂ → Became row at f pos out (with (λ gs. joined t (present gs)) z) (record { next = next; found = found; end = end }) out₃
  unfolding KidsTold Left words
  junction-done (scans x gs) h =
      let u = fin (present gs) (omega (arith, h.2)) (wrote_self (pos + 2) e out (encode_all (present gs)) out₂ low h.1) in
      let v : Wrote pos out (left_words (joined t (present gs))) (unwrap_or end pos) out₃ = based pos (unwrap_or end pos) out out₂ (left_words (joined t (present gs))) out₃ (kept (pos + 2) e out (encode_all (present gs)) out₂ low h.1 pos (omega arith)) u.1 in
      let a = wrote-end pos (unwrap_or end pos) out (left_words (joined t (present gs))) out₃ v in
      let b = joined_words t (present gs) in
      let c = wrote-end (pos + 2) e out (encode_all (present gs)) out₂ h.1 in
      let d = h.4 in
      record { next = to; left = (h.0, u.0, v, joined-neat ne h.3); short = omega arith }

node-words : (t c : ℕ) (ks : Forms) → length (encode (node t (c ∷ []) [] ks)) ≡ suc (suc (length (encode_all ks)))
unfolding encode
node-words t c ks = refl

pub junction-told : (row : List ℕ) (d at n pos : ℕ) (b : Bool) (t c : ℕ) (ks : Forms) (x : List ℕ) → decode d pred (drop at row) ≡ got (node t (c ∷ []) [] ks) x → JunctionTag t b → (e m : ℕ) (out out₂ out₃ : List ℕ) → pos + 2 ≤ length out
    → (found : Maybe Replacement) (next : ℕ) (end : Maybe ℕ) → next ≡ at + 2 + length (encode_all ks)
    → ((fs : Forms) → m ≡ count fs → Wrote (pos + 2) out₂ (encode_all fs) e out₂ → (is_none end ≡ is_gone (joined t fs)) × Wrote pos out₂ (left_words (joined t fs)) (unwrap_or end pos) out₃) → KidsTold row ks (pos + 2) out 0 (scan_all n b b ks) found e m out₂
    → ScanTold (scan n b) row d at pos out (Some (record { next = next; found = found; end = end })) out₃
junction-told row d at n pos b t c ks x is y e m out out₂ out₃ low found next end to fin told =
    let l = node-words t c ks in
    tell (scan n b) row d at pos out _ out₃ (node t (c ∷ []) [] ks) x is
    (rw (y.scan-is n (c ∷ []) ks) (junction-done row at pos e m t (node t (c ∷ []) [] ks) ks l y.not_eight out out₂ out₃ low found next end (omega arith) fin (scan_all n b b ks) told))

-- its marks, from those of what is left of its children
pub junction-marks : (row : List ℕ) (d at n pos : ℕ) (b : Bool) (t c : ℕ) (ks : Forms) (x : List ℕ) → decode d pred (drop at row) ≡ got (node t (c ∷ []) [] ks) x → JunctionTag t b → (e m : ℕ) (out out₂ : List ℕ) (found : Maybe Replacement) (ms ms₂ ms₃ : List ℕ)
    → KidsTold row ks (pos + 2) out 0 (scan_all n b b ks) found e m out₂ → ms₂ ≡ mark_all (lefts_of (scan_all n b b ks)) (pos + 2) 0 ms
    → ((t : ℕ) (fs : Forms) (l : List ℕ) → ClearFrom pos l → m ≡ count fs → e ≡ pos + 2 + length (encode_all fs) → ms₂ ≡ mark_all fs (pos + 2) 0 l → ms₃ ≡ mark_left (joined t fs) pos l) → ClearFrom pos ms
    → ScanMarks (scan n b) row d at pos ms ms₃
unfolding KidsTold
junction-marks row d at n pos b t c ks x is y e m out out₂ found ms ms₂ ms₃ told marks fin clear =
    tell-marks (scan n b) pos ms ms₃ (decode d pred (drop at row)) (node t (c ∷ []) [] ks) x is (rw (y.scan-is n (c ∷ []) ks) (go (scan_all n b b ks) told marks))
  where
    go : (z : Scans) → KidsTold row ks (pos + 2) out 0 z found e m out₂ → ms₂ ≡ mark_all (lefts_of z) (pos + 2) 0 ms → ms₃ ≡ mark_left (left_of (with (λ gs. joined t (present gs)) z)) pos ms
    go (scans x gs) k q = fin t (present gs) ms clear (omega (arith, k.2)) (wrote-end (pos + 2) e out (encode_all (present gs)) out₂ k.1) q

pub kids-end : (row : List ℕ) (kids : Forms) (w k e m : ℕ) (out out' : List ℕ) (found : Maybe Replacement) (z : Scans) → w ≤ length out → KidsTold row kids w out k z found e m out' → (w ≤ e) × (e ≤ length out')
unfolding KidsTold
kids-end row kids w k e m out out' found (scans x gs) h t =
    let a = wrote-end w e out (encode_all (present gs)) out' t.1 in
    (omega arith, wrote-in w e out (encode_all (present gs)) out' h t.1)

-- what follows a child
module _ (row : List ℕ) (at pos : ℕ) (found : Maybe Replacement) (out out' : List ℕ) where
  pub next-copied : is_some found ≡ true → (c : Scanned) (g : Got) → Told (λ f. scanned nothing (some f)) row at pos out g (Some c) out' → (n : ℕ) (x : Taken) → TookIs row x found
      → Told (λ f. next_scan x (scan n false f) f) row at pos out g (Some (record { next = c.next; found = found; end = c.end })) out'
  unfolding Told next_scan TookIs Left
  next-copied p c (got f y) h n (taken i e') t =
      record { next = h.next; left = (t, h.left.1, h.left.2, h.left.3); short = h.short }
  next-copied p c (got f y) h n nothing t = absurd (took-none row found t p)
  next-copied p c no-form h n x t = absurd (clash cc)

  pub next-lost : (g : Got) → Told (λ f. scanned nothing (some f)) row at pos out g None out' → (n : ℕ) (x : Taken) → Told (λ f. next_scan x (scan n false f) f) row at pos out g None out'
  unfolding Told
  next-lost (got f y) h n x = absurd h
  next-lost no-form h n x = refl

  pub next-scanned : is_some found ≡ false → (r : Maybe Scanned) (n : ℕ) (g : Got) → Told (scan n false) row at pos out g r out' → (x : Taken) → TookIs row x found → Told (λ f. next_scan x (scan n false f) f) row at pos out g r out'
  unfolding next_scan
  next-scanned p r n g h x t = rw (took-not row x (rw (not_taken found p) at t)) h

-- a predicate that is not entered is copied
pub other-scan : (row : List ℕ) (d at n : ℕ) (b : Bool) → role_of (get_or row at 0) b ≡ S.other → (f : Form) (x : List ℕ) → decode d pred (drop at row) ≡ got f x → scan n b f ≡ scanned nothing (some f)
unfolding scan
other-scan row d at n b o f x e =
    let (w, k) = decode-sound d pred (drop at row) f x e in
    copied k (rw (tag_at row at f x w) at o)
  where
    copied : {d : ℕ} {f : Form} → Ok d pred f → role_of (tag_of f) b ≡ S.other → scan n b f ≡ scanned nothing (some f)
    copied (ok-node {t = t} {o = o} {ds = ds} {ks = ks} l h k) r = scan-other n b t o ds ks r
    copied (ok-noted a h v k) r = refl

pub other-told : (row : List ℕ) (d at n pos : ℕ) (b : Bool) (out : List ℕ) (r : Maybe Scanned) (out' : List ℕ) → role_of (get_or row at 0) b ≡ S.other → ScanTold (λ f. scanned nothing (some f)) row d at pos out r out' → ScanTold (scan n b) row d at pos out r out'
unfolding Told
other-told row d at n pos b out r out' o t = go (decode d pred (drop at row)) refl t
  where
    go : (g : Got) → decode d pred (drop at row) ≡ g → Told (λ f. scanned nothing (some f)) row at pos out g r out' → Told (scan n b) row at pos out g r out'
    go (got f x) e t = rw (other-scan row d at n b o f x e) t
    go no-form e t = t

pub no-entry : (t : ℕ) (b : Bool) → b ≡ true → (t ≡ 8 → ⊥) → (t ≡ 351 → ⊥) → (t ≡ 101 → ⊥) → role_of t b ≡ S.other
no-entry t b q x y z = rw q (positive-other t x y z)

pub no-entry-below : (t : ℕ) (b : Bool) → b ≡ false → (t ≡ 8 → ⊥) → (t ≡ 352 → ⊥) → (t ≡ 251 → ⊥) → role_of t b ≡ S.other
no-entry-below t b q x y z = rw q (negative-other t x y z)
