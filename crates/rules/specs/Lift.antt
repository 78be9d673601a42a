-- Lift: a part of the base row or of the work row.
use Rattle.std.specs.Prelude.{◌||◌, List, [], ◌++◌, ℕ, leb, eqb, length, drop}
use Rattle.tree.specs.Form.{pick}
use Rattle.form.specs.Decode.{Found, found, missing, form_of}
use Rattle.form.specs.Answer.{Outcome, answer, stop, finish}
use Rattle.form.specs.declared.answer.Kind.TheVariants.{Either}
use Rattle.rules.specs.Walk.{lift}
use Rattle.rules.specs.Dangling.{closed}

-- all of the base; a copy, at the start of the work row; nothing
pub data Part : Type 0 where
  base : Part
  copy : List ℕ → Part
  empty : Part

abbrev pub of_copy : Outcome → Part
of_copy = elim [ answer ws ↦ copy ws | stop r ↦ empty ]

abbrev pub lift_found : ℕ → ℕ → Found → Part
lift_found depth room (found s f) = pick (eqb depth 0 || closed f) base (of_copy (finish s room (lift depth f)))
lift_found depth room missing = empty

-- the base's row, the depth, the length of the work row
unfoldable pub lift_part : List ℕ → ℕ → ℕ → Part
lift_part row depth work = pick (leb (length row) 8192) (lift_found depth work (form_of Either row)) empty

abbrev pub part_words : List ℕ → Part → List ℕ
part_words row = elim [ base ↦ row | copy ws ↦ ws | empty ↦ [] ]

-- where the part starts, given where the base and the work row do
abbrev pub part_at : ℕ × ℕ → ℕ × ℕ → Part → ℕ × ℕ
part_at row work = elim [ base ↦ row | copy ws ↦ work | empty ↦ row ]

-- the work row afterwards, where it is told: a copy stands at its start
abbrev pub work_after : Part → List ℕ → List ℕ
work_after x work = elim x [ base ↦ work | copy ws ↦ ws ++ drop (length ws) work | empty ↦ work ]
