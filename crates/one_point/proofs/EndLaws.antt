-- Whether anything is left of a node, and where it ends. Assumes nothing.
use mathlib.Core.Path.{◌≡◌, refl}
use mathlib.Core.Bool.{true, false}
use Prim.Native.Nat.{ℕ, ◌≤◌}
use native.Mathlib.Omega.{arith}
use Rattle.std.specs.Result.{result_ok}
use Rattle.std.specs.Prelude.{Result, Ok, Err, Option, Some, None, is_some, is_none}
use Rattle.std.specs.Option.{unwrap_or}
use Rattle.form.proofs.DecodeLaws.{clash}

pub none_is : {A : Type 0} (o : Option A) → is_none o ≡ true → o ≡ None
none_is (Some x) e = absurd (clash cc)
none_is None e = refl

pub some_is : {A : Type 0} (o : Option A) → is_none o ≡ false → (x : A) × (o ≡ Some x)
some_is (Some x) e = (x, refl)
some_is None e = absurd (clash cc)

pub not_some : {A : Type 0} (o : Option A) → is_some o ≡ false → o ≡ None
not_some (Some x) e = absurd (clash cc)
not_some None e = refl

pub is_one : {A : Type 0} (o : Option A) → is_some o ≡ true → (x : A) × (o ≡ Some x)
is_one (Some x) e = (x, refl)
is_one None e = absurd (clash cc)

pub none-some : {A : Type 0} (o : Option A) → is_none o ≡ true → (x : A) → o ≡ Some x → ⊥
none-some (Some y) e x q = clash cc
none-some None e x q = clash cc

pub some-none : {A : Type 0} (o : Option A) → is_none o ≡ false → o ≡ None → ⊥
some-none (Some y) e q = clash cc
some-none None e q = clash cc

-- what `ok` keeps of an answer
pub ok-some : {T E : Type 0} (r : Result T E) (o : Option T) (x : T) → o ≡ result_ok r → o ≡ Some x → r ≡ Ok x
ok-some (Ok y) o x h q = let z : y ≡ x = cc in rw z refl
ok-some (Err e) o x h q = absurd (clash cc)

pub ok-none : {T E : Type 0} (r : Result T E) (o : Option T) → o ≡ result_ok r → o ≡ None → (e : E) × (r ≡ Err e)
ok-none (Ok y) o h q = absurd (clash cc)
ok-none (Err e) o h q = (e, refl)

-- where what follows is written
pub start-low : (o : Option ℕ) (r p q m : ℕ) → r ≡ unwrap_or o p → p ≤ q → unwrap_or o q ≤ m → r ≤ m
start-low (Some e) r p q m h x y = omega arith
start-low None r p q m h x y = omega arith

pub start-pos : (o : Option ℕ) (r p : ℕ) → r ≡ unwrap_or o p → o ≡ None → r ≡ p
start-pos o r p h e = rw e at h

pub start-end : (o : Option ℕ) (r p e : ℕ) → r ≡ unwrap_or o p → o ≡ Some e → r ≡ e
start-end o r p e h q = rw q at h
