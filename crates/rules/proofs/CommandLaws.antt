-- The commands by number. Assumes nothing.
use mathlib.Core.Path.{◌≡◌, refl}
use mathlib.Core.List.{List, [], ◌∷◌}
use Prim.Native.Nat.{ℕ, zero, suc, ◌-◌, ◌≤◌, ◌<◌}
use native.Mathlib.Omega.{arith}
use lib.ListN.{length, get_or, drop}
use Rattle.form.proofs.DecodeLaws.{clash}
use Rattle.rules.specs.Command.{commands, nth, numbered}
use Rattle.rules.specs.declared.command.Command.{Command}
use Rattle.std.specs.Prelude.{Option, Some, None}

pub number-none : (n : ℕ) → n ≡ 0 → None ≡ numbered n
number-none n e = rw e

nth_past : (cs : List Command) (n : ℕ) → length cs ≤ n → None ≡ nth cs n
nth_past [] n h = refl
nth_past (c ∷ cs) zero h = absurd (omega arith)
nth_past (c ∷ cs) (suc n) h = nth_past cs n (omega arith)

pub number-over : (n : ℕ) → length commands < n → None ≡ numbered n
number-over zero h = refl
number-over (suc n) h = nth_past commands n (omega arith)

nth-at : (cs : List Command) (n : ℕ) (d : Command) → n < length cs → Some (get_or cs n d) ≡ nth cs n
nth-at [] n d h = absurd (omega arith)
nth-at (c ∷ cs) zero d h = refl
nth-at (c ∷ cs) (suc n) d h = nth-at cs n d (omega arith)

pub number_at : (n : ℕ) (d : Command) → (n ≡ 0 → ⊥) → n ≤ length commands → Some (get_or commands (n - 1) d) ≡ numbered n
number_at zero d z h = absurd (z refl)
number_at (suc n) d z h = let e : suc n - 1 ≡ n = omega arith in rw e (nth-at commands n d (omega arith))

-- the commands from a number on
pub number-here : (k : ℕ) (c : Command) → numbered (suc k) ≡ Some c → (k < length commands) × (drop k commands ≡ c ∷ drop (suc k) commands)
number-here k c e = go commands k e
  where
    go : (cs : List Command) (k : ℕ) → nth cs k ≡ Some c → (k < length cs) × (drop k cs ≡ c ∷ drop (suc k) cs)
    go [] k e = absurd (clash cc)
    go (d ∷ ds) zero e = let z : d ≡ c = cc in (omega arith, rw z)
    go (d ∷ ds) (suc k) e = let (l, z) = go ds k e in (omega arith, z)

pub number_past : (k : ℕ) → numbered (suc k) ≡ None → drop k commands ≡ []
number_past k e = go commands k e
  where
    go : (cs : List Command) (k : ℕ) → nth cs k ≡ None → drop k cs ≡ []
    go [] zero e = refl
    go [] (suc k) e = refl
    go (d ∷ ds) zero e = absurd (clash cc)
    go (d ∷ ds) (suc k) e = go ds k e
