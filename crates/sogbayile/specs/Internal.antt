-- Lift's code, part by part.
use Rattle.std.specs.Prelude.{Option, Some, None, ℕ, ◌≤◌}
use Rattle.subst.specs.declared.lift.Made.{Made}
use Rattle.subst.specs.declared.lift.Made.TheVariants.{Base, Copy}
use Rattle.sogbayile.specs.Code.{packed}

-- neither row is over the limit of words
abbrev pub part_length : ℕ → Option Made → ℕ
part_length n (Some Base) = n
part_length n (Some (Copy m)) = m
part_length n None = 0

abbrev pub ShortPart : ℕ → Option Made → Type 0
ShortPart n made = part_length n made ≤ 8192

abbrev pub made_code : ℕ → Option Made → ℕ
made_code n (Some Base) = packed 1 n
made_code n (Some (Copy m)) = packed 2 m
made_code n None = packed 0 0
