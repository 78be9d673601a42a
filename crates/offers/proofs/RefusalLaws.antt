-- A refused offer leaves the set as it was. Assumes nothing.
use mathlib.Core.List.{List}
use mathlib.Core.Path.{◌≡◌, refl}
use Prim.Native.Nat.{ℕ}
use Rattle.std.specs.Prelude.{Result, Ok, Err}
use Rattle.form.specs.declared.answer.Refusal.{Refusal}
use Rattle.places.specs.Places.{after, offer_result, offer_answer}
use Rattle.places.specs.declared.replacements.Replacements.{Replacements}

pub refusal-leaves : (p : Replacements) (row : List ℕ) → ((offer_answer p row).number ≡ 0 → ⊥) → (offer_answer p row).places ≡ p
refusal-leaves p row = go (offer_result p row)
  where
    go : (r : Result Replacements Refusal) → ((after p r).number ≡ 0 → ⊥) → (after p r).places ≡ p
    go (Ok q) h = absurd (h refl)
    go (Err r) h = refl
