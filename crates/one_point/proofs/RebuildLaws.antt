-- The scan of a node by the scans of its children. Assumes nothing.
use mathlib.Core.Path.{◌≡◌, refl, ap}
use mathlib.Core.Bool.{Bool, true, false, not, ◌&&◌, ◌||◌}
use mathlib.Core.Option.{Option, none as absent, some, map}
use mathlib.Core.List.{List, [], append-nil}
use Prim.Native.Nat.{ℕ, suc, ◌+◌}
use borrow.Author.Tests.{ne_eqb}
use lib.Dec.{eqb}
use lib.ListN.{length, get_or, length-append}
use Rattle.tree.specs.Form.{Form, node, Forms, none, more, pick, encode}
use Rattle.tree.specs.Tag.{pred, shape_of, pred_tags}
use Rattle.form.proofs.DecodeLaws.{Ok}
use Rattle.rules.specs.Replacement.{Taken, taken, nothing}
use Rattle.rules.specs.Split.{is_nil}
use Rattle.rules.specs.Scan as S
use Rattle.rules.specs.Scan.{scanned, scans, implies, negate, joined, present, role_of, role, with, scan, scan_all}
use Rattle.places.proofs.ViewLaws.{plain-node}
use Rattle.one_point.proofs.ScanLaws.{one_more}

abbrev pub not_of : Form → Form
not_of f = node 8 [] [] (more f none)

abbrev pub implies_of : Form → Form → Form
implies_of l r = node 251 [] [] (more l (more r none))

-- by the scans of the children
pub scan-not : (n : ℕ) (b : Bool) (f : Form) (x : Taken) (g : Option Form) → scan n (not b) f ≡ scanned x g → scan n b (not_of f) ≡ scanned x (map negate g)
unfolding scan
scan-not n b f x g e = rw e (go x)
  where
    go : (x : Taken) → with (λ gs. map negate (get_or gs 0 absent)) (S.follow (scanned x g) none (scans nothing [])) ≡ scanned x (map negate g)
    go (taken i r) = refl
    go nothing = refl

pub scan-left : (n : ℕ) (l r : Form) (i : ℕ) (e : Form) (g : Option Form) → scan n true l ≡ scanned (taken i e) g → scan n false (implies_of l r) ≡ scanned (taken i e) (implies g (some r))
unfolding scan
scan-left n l r i e g h = rw h

pub scan-both : (n : ℕ) (l r : Form) (x : Taken) (g h : Option Form) → scan n true l ≡ scanned nothing g → scan n false r ≡ scanned x h → scan n false (implies_of l r) ≡ scanned x (implies g h)
unfolding scan
scan-both n l r x g h e k = rw (e, k) (go x)
  where
    go : (x : Taken) → with (λ gs. implies (get_or gs 0 absent) (get_or gs 1 absent)) (S.before g (S.follow (scanned x h) none (scans nothing []))) ≡ scanned x (implies g h)
    go (taken i e) = refl
    go nothing = refl

pub scan-and : (n : ℕ) (o : List ℕ) (ks : Forms) → scan n true (node 351 o [] ks) ≡ with (λ gs. joined 351 (present gs)) (scan_all n true true ks)
unfolding scan
scan-and n o ks = refl

pub scan-or : (n : ℕ) (o : List ℕ) (ks : Forms) → scan n false (node 352 o [] ks) ≡ with (λ gs. joined 352 (present gs)) (scan_all n false false ks)
unfolding scan
scan-or n o ks = refl

-- a node that is not entered
other-role : (t : ℕ) (ds : List ℕ) (ks : Forms) (b : Bool) → role_of t b ≡ S.other → role t ds ks b ≡ S.other
other-role t ds ks b e = rw e (go (is_nil ds && true))
  where
    go : (c : Bool) → pick c S.other S.other ≡ S.other
    go true = refl
    go false = refl

pub scan-other : (n : ℕ) (b : Bool) (t : ℕ) (o ds : List ℕ) (ks : Forms) → role_of t b ≡ S.other → scan n b (node t o ds ks) ≡ scanned nothing (some (node t o ds ks))
unfolding scan
scan-other n b t o ds ks e = rw (other-role t ds ks b e)

pub positive-other : (t : ℕ) → (t ≡ 8 → ⊥) → (t ≡ 351 → ⊥) → (t ≡ 101 → ⊥) → role_of t true ≡ S.other
positive-other t a b c = rw (ne_eqb t 8 a, ne_eqb t 351 b, ne_eqb t 101 c) (go (eqb t 352) (eqb t 251))
  where
    go : (x y : Bool) → pick (x && false) S.junction (pick (y && false) S.implication S.other) ≡ S.other
    go true true = refl
    go true false = refl
    go false true = refl
    go false false = refl

pub negative-other : (t : ℕ) → (t ≡ 8 → ⊥) → (t ≡ 352 → ⊥) → (t ≡ 251 → ⊥) → role_of t false ≡ S.other
negative-other t a b c = rw (ne_eqb t 8 a, ne_eqb t 352 b, ne_eqb t 251 c) (go (eqb t 351) (eqb t 101))
  where
    go : (x y : Bool) → pick (x && false || false) S.junction (pick (y && false) S.equality S.other) ≡ S.other
    go true true = refl
    go true false = refl
    go false true = refl
    go false false = refl

-- a not, and the words of a not and of an implication
not_is : {o ds : List ℕ} {ks : Forms} (g : Form) → o ≡ [] → ds ≡ [] → ks ≡ more g none → node 8 o ds ks ≡ not_of g
not_is g a b e = rw (a, b, e)

pub not-kids : {d : ℕ} {o ds : List ℕ} {ks : Forms} → Ok (suc d) pred (node 8 o ds ks) → (g : Form) × (node 8 o ds ks ≡ not_of g) × Ok d pred g
unfolding shape_of pred_tags
not-kids w =
    let (a, b, k) = plain-node w 1 0 refl in
    let (g, e, h) = one_more k in
    (g, not_is g a b e, h)

pub not-words : (g : Form) → length (encode (not_of g)) ≡ suc (length (encode g))
unfolding encode
not-words g = ap (λ l. suc (length l)) (append-nil (encode g))

pub implies-words : (l r : Form) → length (encode (implies_of l r)) ≡ suc (length (encode l) + length (encode r))
unfolding encode
implies-words l r = rw append-nil (ap suc (length-append (encode l) (encode r)))
