-- The one number that a call of the static library answers.
use Rattle.std.specs.Prelude.{List, ℕ, ◌+◌, ◌*◌, ◌^◌, length}
use Rattle.form.specs.Answer.{number, length_of, position}
use Rattle.form.specs.Answer.{Answer}
use Rattle.rules.specs.Lift.{Part, base, copy, empty}
use Rattle.places.specs.declared.replacements.Replacements.{Replacements}

-- a first number, counted in steps of 2 ^ 32, and a second one
abbrev pub packed : ℕ → ℕ → ℕ
packed k n = k * 2 ^ 32 + n

-- the number of a refusal (0 for an answer), and the length of the answer or the position of the refusal; one of these is 0
abbrev pub code_of : Answer → ℕ
code_of a = packed (number a) (length_of a + position a)

-- lift: 1 and the length of the base, 2 and the length of the copy, or 0
abbrev pub part_code : List ℕ → Part → ℕ
part_code row base = packed 1 (length row)
part_code row (copy ws) = packed 2 (length ws)
part_code row empty = packed 0 0

-- the set of places that lies in two arrays and a number
abbrev pub places_of : List ℕ → List ℕ → ℕ → Replacements
places_of starts ends n = record { starts = starts; ends = ends; n = n }
