-- How a row is read that a list's expressions are put into, and what the places of a list make of it. Nothing here is needed to read a public
-- contract.
use Rattle.std.specs.Prelude.{Bool, true, false, List, ℕ, ◌+◌, ◌-◌, ltb, get_or, take, drop, Option, Some, None}
use Rattle.tree.specs.Form.{pick}
use Rattle.tree.specs.Tag.{expr, pred}
use Rattle.form.specs.Decode.{decode, whole, Found, found, missing, as_sort}
use Rattle.form.specs.Answer.{Outcome}
use Rattle.form.specs.declared.answer.Kind.{Kind}
use Rattle.form.specs.declared.answer.Kind.TheVariants.{Expression, Predicate}
use Rattle.reader.specs.Internal.Reads.{as_expr, of_kind}
use Rattle.reader.specs.declared.lists.Table.{Table}
use Rattle.replace.specs.Internal.Pieces.{Ready, replaced, fill_plan, kept_words, head_words}
use Rattle.replace.specs.declared.pieces.Source.{Source}
use Rattle.decls.specs.Internal.Noted.{body_start, noted_head}

-- a row as a form at most d deep, and how it was read: whether so, or only as any form
unfoldable pub shallow_form : ℕ → Kind → List ℕ → Found
shallow_form d kind row = let s = pick (as_expr kind row) expr pred in pick (of_kind kind row) (as_sort s (whole (decode d s row))) missing

abbrev pub reading_of : Found → Found → Option Bool
reading_of (found s f) o = Some true
reading_of missing (found s f) = Some false
reading_of missing missing = None

-- the kind as which a row of either kind was read
abbrev pub kind_for : Bool → Kind
kind_for true = Expression
kind_for false = Predicate

-- a quantified row without annotations, filled by the places of a table
unfoldable pub plain_row : Bool → List ℕ → List ℕ → List ℕ → List ℕ → Table → ℕ → Outcome
plain_row sure list lm row marks t room =
    replaced sure Predicate (head_words (get_or row 0 0) (kept_words (take t.n t.words) (drop 2 row))) (fill_plan t) list lm (drop (2 + t.n) row) (drop (2 + t.n) marks) room

-- one with annotations; and either
unfoldable pub noted_row : Bool → List ℕ → List ℕ → List ℕ → List ℕ → Table → ℕ → Outcome
noted_row sure list lm row marks t room =
    let from = body_start row t.n in
    replaced sure Predicate (noted_head (get_or row 0 0 - 10) (take t.n t.words) row 8192) (fill_plan t) list lm (drop from row) (drop from marks) room

unfoldable pub filled_row : Bool → List ℕ → List ℕ → List ℕ → List ℕ → Table → ℕ → Outcome
filled_row sure list lm row marks t room = pick (ltb (get_or row 0 0) 860) (plain_row sure list lm row marks t room) (noted_row sure list lm row marks t room)

-- the same of a source; and whether its table's parts stand in the list, which is marked
abbrev pub Placed : Source → Type 0
Placed s = Ready (fill_plan s.table.now) s.list.now s.list_marks.now

abbrev pub plain_source : Bool → Source → ℕ → Outcome
plain_source sure s room = plain_row sure s.list.now s.list_marks.now s.row.now s.marks.now s.table.now room

abbrev pub noted_source : Bool → Source → ℕ → Outcome
noted_source sure s room = noted_row sure s.list.now s.list_marks.now s.row.now s.marks.now s.table.now room

abbrev pub filled_by : Bool → Source → ℕ → Outcome
filled_by sure s room = filled_row sure s.list.now s.list_marks.now s.row.now s.marks.now s.table.now room
