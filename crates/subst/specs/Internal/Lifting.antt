-- Lift, part by part: which part the code made.
use Rattle.std.specs.Prelude.{Option, Some, None, List, [], ℕ, leb, length, take}
use Rattle.tree.specs.Form.{pick}
use Rattle.rules.specs.Lift.{Part, base, copy, empty}
use Rattle.subst.specs.declared.lift.Made.{Made}
use Rattle.subst.specs.declared.lift.Made.TheVariants.{Base, Copy}

abbrev pub made_of : Part → Option Made
made_of base = Some Base
made_of (copy ws) = Some (Copy (length ws))
made_of empty = None

abbrev pub chosen : List ℕ → List ℕ → Option Made → List ℕ
chosen row work (Some Base) = row
chosen row work (Some (Copy n)) = pick (leb n (length work)) (take n work) []
chosen row work None = []

abbrev pub chosen_at : ℕ × ℕ → ℕ × ℕ → Option Made → ℕ × ℕ
chosen_at row work (Some Base) = row
chosen_at row work (Some (Copy n)) = work
chosen_at row work None = row
