-- What a call answers and writes, as its code. Assumes nothing.
use mathlib.Core.Path.{◌≡◌, refl, sym, ◌∙◌}
use mathlib.Core.List.{List}
use Prim.Native.Nat.{ℕ}
use lib.IntN.{ℤ}
use Rattle.form.specs.Answer.{Outcome, told, written}
use Rattle.rules.specs.Command.{outcome_of, numbered, number_outcome}
use Rattle.rules.specs.declared.command.Command.{Command}
use Rattle.std.specs.Prelude.{Option, Some, None}
use Rattle.sogbayile.specs.Code.{packed, code_of}

-- r is the code of the outcome, which finds a and leaves b in the output row
abbrev pub Coded : ℕ → Outcome → List ℕ → List ℕ → Type 0
Coded r o a b = (r ≡ code_of (told o)) × (b ≡ written o a)

pub run-coded : (c d : Command) → c ≡ d → (z : ℤ) (list row : List ℕ) (work room r : ℕ) (a b : List ℕ) → Coded r (outcome_of d z list row work room) a b → Coded r (outcome_of c z list row work room) a b
run-coded c d e z list row work room r a b s = rw e s

module _ (n : ℕ) {t : Option Command} (e : t ≡ numbered n) (z : ℤ) (list row : List ℕ) (work room r : ℕ) (a : List ℕ) where
  pub none-coded : t ≡ None → r ≡ packed 8 0 → Coded r (number_outcome n z list row work room) a a
  unfolding number_outcome
  none-coded q k = rw (sym e ∙ q) (k, refl)

  pub number-coded : (c : Command) → t ≡ Some c → (b : List ℕ) → Coded r (outcome_of c z list row work room) a b → Coded r (number_outcome n z list row work room) a b
  unfolding number_outcome
  number-coded c q b s = rw (sym e ∙ q) s
