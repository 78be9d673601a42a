-- Forms in which no index stands: by their tags and children. Assumes nothing.
use mathlib.Core.Path.{◌≡◌, refl}
use mathlib.Core.Bool.{Bool, true, false, ◌&&◌}
use mathlib.Core.List.{List}
use Prim.Native.Nat.{ℕ, zero, suc}
use native.Mathlib.Omega.{arith}
use borrow.Author.Tests.{ne_eqb}
use lib.Dec.{eqb}
use Rattle.tree.specs.Form.{Forms, none, pick}
use Rattle.form.specs.Decode.{is_leaf, make, index_free, index_free_all}
use Rattle.form.proofs.DecodeLaws.{clash, high-tag}

-- in a named row the test holds; in another nothing is said
abbrev pub InNamed : Bool → Bool → Type 0
InNamed named b = pick named b true ≡ true

pub in-true : (named : Bool) → InNamed named true
in-true true = refl
in-true false = refl

pub both-in : (named a b : Bool) → InNamed named a → InNamed named b → InNamed named (a && b)
both-in false a b h k = refl
both-in true true b h k = k
both-in true false b h k = absurd (clash cc)

pub each_in : (named a b : Bool) → InNamed named (a && b) → InNamed named a × InNamed named b
each_in false a b h = (refl, refl)
each_in true true b h = (refl, h)
each_in true false b h = absurd (clash cc)

-- the tag of a form without indices is none of an index
pub no_index : (named : Bool) (t : ℕ) → is_leaf t ≡ false → (named && eqb t 2) ≡ false
no_index false t e = refl
no_index true zero e = refl
no_index true (suc zero) e = absurd (clash cc)
no_index true (suc (suc zero)) e = absurd (clash cc)
no_index true (suc (suc (suc t))) e = ne_eqb (suc (suc (suc t))) 2 (λ h. omega arith)

pub make-free : (named : Bool) (t : ℕ) (o ds : List ℕ) (ks : Forms) → (named && eqb t 2) ≡ false → InNamed named (index_free_all ks) → InNamed named (index_free (make t o ds ks))
unfolding index_free
make-free false t o ds ks e h = refl
make-free true zero o ds ks e h = h
make-free true (suc zero) o ds ks e h = refl
make-free true (suc (suc zero)) o ds ks e h = absurd (clash cc)
make-free true (suc (suc (suc t))) o ds ks e h = rw (high-tag t) h

pub free-make : (named : Bool) (t : ℕ) (o ds : List ℕ) (ks : Forms) → (is_leaf t ≡ true → ks ≡ none) → InNamed named (index_free (make t o ds ks)) → ((named && eqb t 2) ≡ false) × InNamed named (index_free_all ks)
unfolding index_free
free-make false t o ds ks n h = (refl, refl)
free-make true zero o ds ks n h = (refl, h)
free-make true (suc zero) o ds ks n h = (refl, rw (n refl))
free-make true (suc (suc zero)) o ds ks n h = absurd (clash cc)
free-make true (suc (suc (suc t))) o ds ks n h = (ne_eqb (suc (suc (suc t))) 2 (λ e. omega arith), rw (high-tag t) at h)
