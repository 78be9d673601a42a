-- A signed offset keeps its value in a word. Assumes nothing.
use Rattle.std.proofs.Common.{◌≡◌, ℤ, w32, SFits, to_z, of_z}
use mir.ValLaws.{to_z-of_z}

pub back : (z : ℤ) → SFits w32 z → to_z w32 (of_z w32 z) ≡ z
back z f = to_z-of_z w32 z f
