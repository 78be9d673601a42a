-- A table of ranges gives one shape on any interval that no range of it cuts. Assumes nothing.
use mathlib.Core.Bool.{Bool, true, false, ◌&&◌, ◌||◌}
use mathlib.Core.List.{[], ◌∷◌}
use mathlib.Core.Logic.{◌⊎◌, inl, inr, ⊎_elim}
use mathlib.Core.Path.{◌≡◌, refl, sym, ◌∙◌}
use Prim.Native.Nat.{ℕ, ◌≤◌, ◌<◌}
use native.Mathlib.Omega.{arith}
use lib.Dec.{T, leb, ltb, leb→le, ltb→lt}
use borrow.Author.Tests.{lt-leb, le-leb, ltb-true, ltb-false, leb-true}
use Rattle.tree.specs.Form.{pick}
use Rattle.tree.specs.declared.tag.Shape.{Shape}
use Rattle.tree.specs.declared.tag.Shape.TheVariants.{Unknown, Plain, Name, Value, Exprs, Preds, Apply, Compr, Quant, NotedCompr, NotedQuant}
use Rattle.tree.specs.Tag.{expr, pred, Tags, find, expr_tags, pred_tags, shape_of}

-- the interval from lo to hi lies below a range, above it or in it
abbrev pub apart : ℕ → ℕ → ℕ → ℕ → Bool
apart a b lo hi = ltb hi a || (ltb b lo || (leb a lo && leb hi b))

abbrev pub uncut : Tags → ℕ → ℕ → Bool
uncut [] lo hi = true
uncut (e ∷ es) lo hi = apart e.0 e.1 lo hi && uncut es lo hi

and_left : (p q : Bool) → T (p && q) → T p
and_left true q h = tt
and_left false q h = h

and_right : (p q : Bool) → T (p && q) → T q
and_right true q h = h
and_right false q h = absurd h

or_cases : (p q : Bool) → T (p || q) → T p ⊎ T q
or_cases true q h = inl tt
or_cases false q h = inr h

pick_same : (b : Bool) (x : Shape) → pick b x x ≡ x
pick_same true x = refl
pick_same false x = refl

module _ (a b lo hi t : ℕ) (s x y : Shape) (low : lo ≤ t) (high : t ≤ hi) (same : x ≡ y) where
  below : hi < a → pick (leb a t) (pick (leb t b) s x) x ≡ pick (leb a lo) (pick (leb lo b) s y) y
  below h = rw (lt-leb a t (omega arith), lt-leb a lo (omega arith)) same

  above : b < lo → pick (leb a t) (pick (leb t b) s x) x ≡ pick (leb a lo) (pick (leb lo b) s y) y
  above h =
      rw (lt-leb t b (omega arith), lt-leb lo b (omega arith))
      (pick_same (leb a t) x ∙ same ∙ sym (pick_same (leb a lo) y))

  inside : a ≤ lo → hi ≤ b → pick (leb a t) (pick (leb t b) s x) x ≡ pick (leb a lo) (pick (leb lo b) s y) y
  inside h k =
      rw (le-leb a t (omega arith), le-leb t b (omega arith), le-leb a lo (omega arith), le-leb lo b (omega arith)) refl

  entry : T (apart a b lo hi) → pick (leb a t) (pick (leb t b) s x) x ≡ pick (leb a lo) (pick (leb lo b) s y) y
  entry h =
      ⊎_elim (λ p. below (ltb→lt hi a p))
      (λ q. ⊎_elim (λ p. above (ltb→lt b lo p))
      (λ p. inside (leb→le a lo (and_left (leb a lo) (leb hi b) p)) (leb→le hi b (and_right (leb a lo) (leb hi b) p)))
      (or_cases (ltb b lo) (leb a lo && leb hi b) q))
      (or_cases (ltb hi a) (ltb b lo || (leb a lo && leb hi b)) h)

-- the shape at t is that at lo
pub constant : (es : Tags) (lo hi : ℕ) → T (uncut es lo hi) → (t : ℕ) → lo ≤ t → t ≤ hi → find es t ≡ find es lo
constant [] lo hi u t low high = refl
constant (e ∷ es) lo hi u t low high =
    entry e.0 e.1 lo hi t e.2 (find es t) (find es lo) low high
    (constant es lo hi (and_right (apart e.0 e.1 lo hi) (uncut es lo hi) u) t low high)
    (and_left (apart e.0 e.1 lo hi) (uncut es lo hi) u)

pub expr-on : (lo hi : ℕ) {t : ℕ} → T (uncut expr_tags lo hi) → lo ≤ t → t ≤ hi → find expr_tags lo ≡ shape_of expr t
unfolding shape_of
expr-on lo hi {t} u low high = sym (constant expr_tags lo hi u t low high)

pub pred-on : (lo hi : ℕ) {t : ℕ} → T (uncut pred_tags lo hi) → lo ≤ t → t ≤ hi → find pred_tags lo ≡ shape_of pred t
unfolding shape_of
pred-on lo hi {t} u low high = sym (constant pred_tags lo hi u t low high)

-- below k, or not
pub split : (k t : ℕ) → (t < k) ⊎ (k ≤ t)
split k t = go (ltb t k) refl
  where
    go : (b : Bool) → ltb t k ≡ b → (t < k) ⊎ (k ≤ t)
    go true e = inl (ltb-true t k e)
    go false e = inr (ltb-false t k e)

-- the two tables have no tag in common: on each range of the one, the other has none
abbrev is_unknown : Shape → Bool
is_unknown Unknown = true
is_unknown (Plain p e) = false
is_unknown Name = false
is_unknown Value = false
is_unknown (Exprs m) = false
is_unknown (Preds m) = false
is_unknown Apply = false
is_unknown Compr = false
is_unknown Quant = false
is_unknown NotedCompr = false
is_unknown NotedQuant = false

is-unknown : (x : Shape) → T (is_unknown x) → x ≡ Unknown
is-unknown Unknown h = refl
is-unknown (Plain p e) h = absurd h
is-unknown Name h = absurd h
is-unknown Value h = absurd h
is-unknown (Exprs m) h = absurd h
is-unknown (Preds m) h = absurd h
is-unknown Apply h = absurd h
is-unknown Compr h = absurd h
is-unknown Quant h = absurd h
is-unknown NotedCompr h = absurd h
is-unknown NotedQuant h = absurd h

abbrev foreign : Tags → Tags → Bool
foreign [] fs = true
foreign (e ∷ es) fs = (uncut fs e.0 e.1 && is_unknown (find fs e.0)) && foreign es fs

module _ (e : ℕ × ℕ × Shape) (es fs : Tags) (t : ℕ) where
  foreign-step : T (uncut fs e.0 e.1 && is_unknown (find fs e.0)) → ((find es t ≡ Unknown → ⊥) → find fs t ≡ Unknown) → (a b : Bool) → leb e.0 t ≡ a → leb t e.1 ≡ b
      → (pick a (pick b e.2 (find es t)) (find es t) ≡ Unknown → ⊥) → find fs t ≡ Unknown
  foreign-step h later true true p q n =
      constant fs e.0 e.1 (and_left (uncut fs e.0 e.1) (is_unknown (find fs e.0)) h) t (leb-true e.0 t p) (leb-true t e.1 q)
      ∙ is-unknown (find fs e.0) (and_right (uncut fs e.0 e.1) (is_unknown (find fs e.0)) h)
  foreign-step h later true false p q n = later n
  foreign-step h later false b p q n = later n

foreign-none : (es fs : Tags) (t : ℕ) → T (foreign es fs) → (find es t ≡ Unknown → ⊥) → find fs t ≡ Unknown
foreign-none [] fs t h n = absurd (n refl)
foreign-none (e ∷ es) fs t h n =
    foreign-step e es fs t (and_left (uncut fs e.0 e.1 && is_unknown (find fs e.0)) (foreign es fs) h)
    (foreign-none es fs t (and_right (uncut fs e.0 e.1 && is_unknown (find fs e.0)) (foreign es fs) h)) (leb e.0 t) (leb t e.1) refl refl n

pub one_table : (t : ℕ) → (shape_of expr t ≡ Unknown → ⊥) → shape_of pred t ≡ Unknown
unfolding shape_of expr_tags pred_tags
one_table t n = foreign-none expr_tags pred_tags t tt n

-- so every tag is unknown to one of them
pub one-sort : (t : ℕ) → (shape_of expr t ≡ Unknown) ⊎ (shape_of pred t ≡ Unknown)
one-sort t = by (is_unknown (shape_of expr t)) refl
  where
    no : (x : Shape) → is_unknown x ≡ false → x ≡ Unknown → ⊥
    no x e q = let z : ◌≡◌ {A = ℕ} 0 1 = cc in omega arith

    by : (b : Bool) → is_unknown (shape_of expr t) ≡ b → (shape_of expr t ≡ Unknown) ⊎ (shape_of pred t ≡ Unknown)
    by true e = inl (is-unknown (shape_of expr t) (rw e tt))
    by false e = inr (one_table t (no (shape_of expr t) e))
