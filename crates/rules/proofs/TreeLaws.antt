-- First laws of the rewritings, on trees: the walk that changes nothing; shifts of what has nothing dangling; shifts of one sign add up.
-- Assumes nothing.
use mathlib.Core.Path.{◌≡◌, refl, ap, sym, ◌∙◌}
use mathlib.Core.Bool.{Bool, true, false}
use mathlib.Core.List.{List, ◌∷◌}
use mathlib.Core.Option.{none as absent, some}
use Prim.Native.Nat.{ℕ, suc, ◌+◌, ◌-◌, ◌≤◌}
use native.Mathlib.Nat.{add-zero}
use native.Mathlib.Omega.{arith}
use borrow.Author.Tests.{le-leb, leb-true, leb-false, eq-eqb}
use lib.Dec.{leb}
use lib.IntN.{ℤ, pos, negsuc}
use lib.ListN.{length}
use Rattle.tree.specs.Form.{free, bound, Form, leaf, node, noted, Decls, undeclared, bare, typed, names_of, Forms, none, more, pick}
use Rattle.tree.specs.Tag.{Sort}
use Rattle.form.specs.Decode.{found, form_of}
use Rattle.form.specs.Lists.{Place, Entry, entry}
use Rattle.form.specs.Answer.{answer, finish}
use Rattle.form.specs.declared.answer.Kind.TheVariants.{Either}
use Rattle.form.proofs.DecodeLaws.{clash}
use Rattle.form.proofs.RowLaws.{row-encode, found-row}
use Rattle.rules.specs.Walk.{Binding, inside, outside, binding, Outer, named, dangling, walk_index, walk, walk_decls, walk_all, up, lift, put, collect_index, collect, each}
use Rattle.rules.specs.Dangling.{is_named, closed}
use Rattle.rules.specs.Shift.{reaches, fall, lower, shift, shift_outcome}
use Rattle.rules.specs.Free.{or_name, seek}
use Rattle.rules.proofs.WalkLaws.{each_all, each_decls, walk-names, binding-add, binding-back, fuse-level, shift-shift, self, each-agree, each-all, always, each-always, walk-agree}

-- the walk that puts each identifier for itself
self-index : (k i : ℕ) (z : Binding) → binding k i ≡ z → walk_index self k i z ≡ leaf (bound i)
self-index k i inside q = refl
self-index k i (outside j) q = ap (λ n. leaf (bound n)) (binding-back k i j q)

mutual
  unfolding walk

  pub walk-self : (k : ℕ) (f : Form) → walk self k f ≡ f
  walk-self k (leaf (free n)) = refl
  walk-self k (leaf (bound i)) = self-index k i (binding k i) refl
  walk-self k (node t o ds ks) = ap (λ z. node t o ds z) (walk-self_all (length ds + k) ks)
  walk-self k (noted t o ds ks) = rw (walk-self_decls k ds, walk-self_all (length (names_of ds) + k) ks)

  walk-self_decls : (k : ℕ) (ds : Decls) → walk_decls self k ds ≡ ds
  walk-self_decls k undeclared = refl
  walk-self_decls k (bare n ds) = ap (λ z. bare n z) (walk-self_decls k ds)
  walk-self_decls k (typed n f ds) = rw (walk-self k f, walk-self_decls k ds)

  walk-self_all : (k : ℕ) (fs : Forms) → walk_all self k fs ≡ fs
  walk-self_all k none = refl
  walk-self_all k (more f fs) = rw (walk-self k f, walk-self_all k fs)

-- a lift by 0
zero-up : (k : ℕ) (x : Outer) → up 0 k x ≡ self k x
zero-up k (named m) = refl
zero-up k (dangling i) = rw add-zero

pub lift-zero : (f : Form) → lift 0 f ≡ f
lift-zero f = walk-agree always (up 0) self (λ k x h. zero-up k x) 0 f (each-always 0 f) ∙ walk-self 0 f

leb-same : (a b c d : ℕ) → b + c ≡ a + d → leb a b ≡ leb c d
leb-same a b c d e = go (leb a b) (leb c d) refl refl
  where
    go : (x y : Bool) → leb a b ≡ x → leb c d ≡ y → x ≡ y
    go true true p q = refl
    go false false p q = refl
    go true false p q = let l = leb-true a b p in let m = leb-false c d q in absurd (omega arith)
    go false true p q = let l = leb-false a b p in let m = leb-true c d q in absurd (omega arith)

-- an action that puts each name for itself changes nothing where nothing dangles
closed-walk : (act : ℕ → Outer → Form) → ((k m : ℕ) → act k (named m) ≡ leaf (free m)) → (f : Form) → closed f ≡ true → walk act 0 f ≡ f
unfolding closed
closed-walk act e f h = walk-agree is_named act self same 0 f h ∙ walk-self 0 f
  where
    same : (k : ℕ) (x : Outer) → is_named k x ≡ true → act k x ≡ self k x
    same k (named m) q = e k m
    same k (dangling j) q = absurd (clash cc)

closed-reaches : (n : ℕ) (f : Form) → closed f ≡ true → each (reaches n) 0 f ≡ true
unfolding closed
closed-reaches n f h = each-all is_named (reaches n) ok 0 f h
  where
    ok : (k : ℕ) (x : Outer) → is_named k x ≡ true → reaches n k x ≡ true
    ok k (named m) q = refl
    ok k (dangling j) q = absurd (clash cc)

-- a form with nothing dangling is unchanged by every shift
pub shift-closed : (z : ℤ) (f : Form) → closed f ≡ true → shift z f ≡ some f
unfolding shift walk
shift-closed (pos n) f h = ap some (closed-walk (up n) (λ k m. refl) f h)
shift-closed (negsuc n) f h = rw (closed-reaches (suc n) f h) (ap some (closed-walk (put (fall (suc n))) (λ k m. refl) f h))

-- and so is its row
pub shift-closed-row : (row : List ℕ) (z : ℤ) (room : ℕ) (s : Sort) (f : Form) → form_of Either row ≡ found s f → closed f ≡ true → length row ≤ room
    → shift_outcome row z room ≡ answer row
unfolding shift_outcome finish
shift-closed-row row z room s f e h l =
    let (a, w, o) = found-row row s f Either e in
    rw (le-leb (length row) 8192 a, e, shift-closed z f h, row-encode o (rw w at a), ← w, le-leb (length row) room l)

-- a test of what a walk gives is a test of what it puts
module _ (p : ℕ → Outer → Bool) (act : ℕ → Outer → Form) where
  abbrev pub after : ℕ → Outer → Bool
  after k x = each p k (act k x)

  after-index : (k i : ℕ) (z : Binding) → binding k i ≡ z → each p k (walk_index act k i z) ≡ collect_index true after k z
  unfolding collect
  after-index k i inside q = rw q
  after-index k i (outside j) q = refl

  mutual
    unfolding walk collect

    pub each-walk : (k : ℕ) (f : Form) → each p k (walk act k f) ≡ each after k f
    each-walk k (leaf (free n)) = refl
    each-walk k (leaf (bound i)) = after-index k i (binding k i) refl
    each-walk k (node t o ds ks) = each-walk_all (length ds + k) ks
    each-walk k (noted t o ds ks) = rw (walk-names act k ds, each-walk_decls k ds, each-walk_all (length (names_of ds) + k) ks)

    each-walk_decls : (k : ℕ) (ds : Decls) → each_decls p k (walk_decls act k ds) ≡ each_decls after k ds
    each-walk_decls k undeclared = refl
    each-walk_decls k (bare n ds) = each-walk_decls k ds
    each-walk_decls k (typed n f ds) = rw (each-walk k f, each-walk_decls k ds)

    each-walk_all : (k : ℕ) (fs : Forms) → each_all p k (walk_all act k fs) ≡ each_all after k fs
    each-walk_all k none = refl
    each-walk_all k (more f fs) = rw (each-walk k f, each-walk_all k fs)

-- shifts of one sign add up
pub up_up : (a b : ℕ) (f : Form) → lift b (lift a f) ≡ lift (a + b) f
up_up a b f = shift-shift a b 0 f

fall-fall : (a b k : ℕ) (x : Outer) → walk (put (fall b)) k (put (fall a) k x) ≡ put (fall (a + b)) k x
unfolding walk
fall-fall a b k (named m) = refl
fall-fall a b k (dangling j) =
    let e : 0 + (j - a + k) ≡ k + (j - a) = omega arith in
    rw (e, binding-add) (ap (λ n. leaf (bound n)) (omega arith))

pub down-down : (a b : ℕ) (f : Form) → lower b (lower a f) ≡ lower (a + b) f
down-down a b f = fuse-level (put (fall b)) (put (fall a)) (put (fall (a + b))) (fall-fall a b) 0 f

-- where both are answered, so is their sum
reach-after : (a b k : ℕ) (x : Outer) → reaches a k x ≡ true → each (reaches b) k (put (fall a) k x) ≡ reaches (a + b) k x
unfolding walk collect
reach-after a b k (named m) q = refl
reach-after a b k (dangling j) q =
    let e : 0 + (j - a + k) ≡ k + (j - a) = omega arith in
    let l : a ≤ j = leb-true a j q in
    rw (e, binding-add) (leb-same b (j - a) (a + b) j (omega arith))

pub reaches-both : (a b : ℕ) (f : Form) → each (reaches a) 0 f ≡ true → each (reaches b) 0 (lower a f) ≡ each (reaches (a + b)) 0 f
reaches-both a b f h =
    each-walk (reaches b) (put (fall a)) 0 f ∙ each-agree (reaches a) (after (reaches b) (put (fall a))) (reaches (a + b)) (reach-after a b) 0 f h

shifted-is : (b : Bool) (f g : Form) → pick b (some f) absent ≡ some g → (b ≡ true) × (f ≡ g)
shifted-is true f g e = (refl, cc)
shifted-is false f g e = absurd (clash cc)

shift-sum : (a b : ℕ) (f g : Form) → each (reaches a) 0 f ≡ true → lower a f ≡ g → each (reaches b) 0 g ≡ true
    → pick (each (reaches (a + b)) 0 f) (some (lower (a + b) f)) absent ≡ some (lower b g)
shift-sum a b f g p q r =
    let e : each (reaches (a + b)) 0 f ≡ true = sym (reaches-both a b f p) ∙ (rw q r) in
    rw (e, ← q) (ap some (sym (down-down a b f)))

-- two shifts downward are one by their sum: -(a + 1) - (b + 1) is -(a + b + 2)
pub shift-down-down : (a b : ℕ) (f g h : Form) → shift (negsuc a) f ≡ some g → shift (negsuc b) g ≡ some h → shift (negsuc (suc (a + b))) f ≡ some h
unfolding shift
shift-down-down a b f g h p q =
    let (c, d) = shifted-is (each (reaches (suc a)) 0 f) (lower (suc a) f) g p in
    let (x, y) = shifted-is (each (reaches (suc b)) 0 g) (lower (suc b) g) h q in
    let n : suc (suc (a + b)) ≡ suc a + suc b = omega arith in
    rw n (shift-sum (suc a) (suc b) f g c d x ∙ ap some y)

-- the list of a free substitution is searched from its front
pub seek-front : (n : ℕ) (p : Place) (es : List Entry) → seek (entry n p ∷ es) n ≡ or_name n p
seek-front n p es = rw (eq-eqb n n refl)
