-- The row that one point answers keeps the truth of what the call was given. Assumes only the premise: the replacement's
-- value lies in the range of the declaration that it replaces.
use mathlib.Core.Path.{◌≡◌}
use mathlib.Core.Bool.{true}
use mathlib.Core.Option.{some}
use mathlib.Core.List.{List}
use Prim.Native.Nat.{ℕ}
use lib.ListN.{length, take}
use Rattle.tree.specs.Form.{Form}
use Rattle.tree.specs.Tag.{pred}
use Rattle.form.specs.Decode.{found, form_of}
use Rattle.form.specs.Answer.{answer, told, written}
use Rattle.form.specs.declared.answer.Kind.TheVariants.{Predicate}
use Rattle.std.specs.Prelude.{Ok}
use Rattle.rules.specs.Point.{one_point, point_outcome}
use Rattle.one_point.proofs.OutputLaws.{pointed, told-words}
use Rattle.reading.specs.Reading.{Reading, holds}
use Rattle.reading.specs.Premise.{premise}
use Rattle.reading.proofs.PointTruth.{point-keeps-truth}

-- the row holds a form, the words are the row of the reduced form, and that form is true exactly when the first is, in every reading that meets
-- the premise
pub record Output (row ws : List ℕ) : Type 0 where
  pub form : Form
  pub result : Form
  pub is_read : form_of Predicate row ≡ found pred form
  pub is_said : form_of Predicate ws ≡ found pred result
  pub reduced : one_point form ≡ some result
  pub keeps : (R : Reading) → premise R form ≡ true → holds R form ≡ holds R result

pub output-keeps-truth : (row : List ℕ) (work room : ℕ) (ws : List ℕ) → point_outcome row work room ≡ answer ws → Output row ws
output-keeps-truth row work room ws e =
    let p = pointed row ws room work e in
    record {
      form = p.form;
      result = p.result;
      is_read = p.is_read;
      is_said = p.is_said;
      reduced = p.reduced;
      keeps = λ R h. point-keeps-truth R p.form p.result p.reduced h;
    }

-- the same by the two clauses of the contract of `one_point_inference`: a call that answers n leaves such words in the first n of its output row
pub call-keeps-truth : (row : List ℕ) (work : ℕ) (out out' : List ℕ) (n : ℕ) → Ok n ≡ told (point_outcome row work (length out)) → out' ≡ written (point_outcome row work (length out)) out → Output row (take n out')
call-keeps-truth row work out out' n r w = output-keeps-truth row work (length out) (take n out') (told-words (point_outcome row work (length out)) out out' n r w)
