-- What a call answers and writes. Assumes nothing.
use mathlib.Core.Path.{◌≡◌, refl, sym, ◌∙◌}
use mathlib.Core.List.{List}
use Prim.Native.Nat.{ℕ}
use lib.IntN.{ℤ}
use Rattle.form.specs.Answer.{Outcome, stop, told, written}
use Rattle.form.specs.Answer.{Answer}
use Rattle.std.specs.Prelude.{Option, Some, None, Result, Ok, Err, ok_or}
use Rattle.form.proofs.DecodeLaws.{clash}
use Rattle.rules.specs.Command.{outcome_of, numbered, number_outcome}
use Rattle.rules.specs.declared.command.Command.{Command}
use Rattle.form.specs.declared.answer.Refusal.{Refusal}
use Rattle.form.specs.declared.answer.Refusal.TheVariants.{NotACommand}

-- r is the answer of the outcome, which finds a and leaves b in the output row
abbrev pub Said : Answer → Outcome → List ℕ → List ℕ → Type 0
Said r o a b = (r ≡ told o) × (b ≡ written o a)

pub said-no : (o : Outcome) (n : Refusal) (a : List ℕ) → o ≡ stop n → Said (Err n) o a a
said-no o n a e = rw e (refl, refl)

pub said_same : (o p : Outcome) (r : Answer) (a b : List ℕ) → o ≡ p → Said r o a b → Said r p a b
said_same o p r a b e h = rw e at h

pub run-said : (c d : Command) → c ≡ d → (z : ℤ) (list row : List ℕ) (work room : ℕ) (r : Answer) (a b : List ℕ) → Said r (outcome_of d z list row work room) a b → Said r (outcome_of c z list row work room) a b
run-said c d e z list row work room r a b s = rw e s

-- a number of no command is refused as such
pub no-command : (t : Option Command) (r : Result Command Refusal) (k : Refusal) → r ≡ ok_or t NotACommand → r ≡ Err k → k ≡ NotACommand
no-command None r k e q = cc
no-command (Some c) r k e q = let h : Ok c ≡ Err k = sym e ∙ q in absurd (clash cc)

module _ (n : ℕ) {t : Option Command} (e : t ≡ numbered n) (z : ℤ) (list row : List ℕ) (work room : ℕ) where
  pub number-none : t ≡ None → (a : List ℕ) → Said (Err NotACommand) (number_outcome n z list row work room) a a
  unfolding number_outcome
  number-none q a = said-no (number_outcome n z list row work room) NotACommand a (rw (sym e ∙ q))

  pub number-said : (c : Command) → t ≡ Some c → (r : Answer) (a b : List ℕ) → Said r (outcome_of c z list row work room) a b → Said r (number_outcome n z list row work room) a b
  unfolding number_outcome
  number-said c q r a b s = rw (sym e ∙ q) s
