-- Words that are written into a row from a position on.
use Rattle.std.specs.Prelude.{◌≡◌, List, ◌++◌, ℕ, ◌+◌, length, take}

-- the words ws follow what stood before pos, and end at `end`; past the end the row may hold anything
unfoldable pub Wrote : ℕ → List ℕ → List ℕ → ℕ → List ℕ → Type 0
Wrote pos out ws end out' = (end ≡ pos + length ws) × (take end out' ≡ take pos out ++ ws)
