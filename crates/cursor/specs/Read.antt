-- What a reading place finds in its row.
use Rattle.std.specs.Prelude.{List, map, ℕ, ◌+◌, ltb, length, get_or, slice_get}
use Rattle.tree.specs.Form.{pick}
use Rattle.form.specs.Answer.{Outcome, answer, with_form}
use Rattle.form.specs.declared.answer.Kind.TheVariants.{Predicate}
use Rattle.rules.specs.Fill.{name_of, of_quantified, quantified}
use Rattle.cursor.specs.declared.Opening.{Opening}
use Rattle.form.specs.declared.answer.Refusal.TheVariants.{NotQuantified}

-- the position after one word; the end stays where it is
unfoldable pub next_at : List ℕ → ℕ → ℕ
next_at row at = pick (ltb at (length row)) (at + 1) at

unfoldable pub opening_of : List ℕ → Opening
opening_of row = record { tag = get_or row 0 0; count = slice_get row 1 }

-- the names that a quantified predicate declares: its answer's length is their number
unfoldable pub declared_outcome : List ℕ → Outcome
declared_outcome row = with_form Predicate row (λ s f. of_quantified (λ t ds b. answer (map name_of ds)) NotQuantified (quantified f))
