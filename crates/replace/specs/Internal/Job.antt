-- What a job puts for the items of a row. Nothing here is needed to read a public contract.
use Rattle.std.specs.Prelude.{Bool, List, ℕ, ◌+◌, ◌-◌, ◌*◌, length, drop}
use Rattle.form.specs.Answer.{Outcome}
use Rattle.form.specs.declared.answer.Kind.{Kind}
use Rattle.shift.specs.Internal.Items.{items, rewritten}
use Rattle.shift.specs.declared.items.Item.{Item}
use Rattle.replace.specs.Internal.Pieces.{planned, sizes, longest, half, plan_for, Ready, replaced_words, replaced, placed_row, freed_row}
use Rattle.replace.specs.Internal.Partial.{partial_row}
use Rattle.replace.specs.declared.pieces.Plan.{Plan}
use Rattle.replace.specs.declared.pieces.Job.{Job}
use Rattle.replace.specs.declared.pieces.Source.{Source}

abbrev pub job_plan : Job → Plan
job_plan j = plan_for j.rule j.source.table.now

abbrev pub job_items : Job → List Item
job_items j = items (drop j.from j.source.row.now) (drop j.from j.source.marks.now)

abbrev pub Readied : Job → Type 0
Readied j = Ready (job_plan j) j.source.list.now j.source.list_marks.now

abbrev pub job_size : Job → ℕ
job_size j = sizes (job_plan j) (job_items j)

abbrev pub job_words : Job → List ℕ
job_words j = rewritten (planned (job_plan j) j.source.list.now j.source.list_marks.now) (job_items j)

-- at least as many words as that and a head of so many: for each word of the row half of the longest part
abbrev pub most_words : ℕ → Job → ℕ
most_words head j = head + (length j.source.row.now - j.from) * half (longest j.source.table.now.starts j.source.table.now.ends j.source.table.now.n)

-- the same behind a head, and as a form of the kind
abbrev pub headed_words : List ℕ → Job → List ℕ
headed_words head j = replaced_words head (job_plan j) j.source.list.now j.source.list_marks.now (drop j.from j.source.row.now) (drop j.from j.source.marks.now)

abbrev pub headed_row : Bool → Kind → List ℕ → Job → ℕ → Outcome
headed_row sure kind head j room = replaced sure kind head (job_plan j) j.source.list.now j.source.list_marks.now (drop j.from j.source.row.now) (drop j.from j.source.marks.now) room

-- what the functions make of a source
abbrev pub filled_source : Bool → List ℕ → Source → ℕ → ℕ → ℕ → Outcome
filled_source sure head s from down room = placed_row sure head s.table.now down s.list.now s.list_marks.now (drop from s.row.now) (drop from s.marks.now) room

abbrev pub freed_source : Bool → Kind → Source → ℕ → Outcome
freed_source sure kind s room = freed_row sure kind s.table.now s.list.now s.list_marks.now s.row.now s.marks.now room

abbrev pub partial_source : Bool → ℕ → List ℕ → List ℕ → Source → ℕ → ℕ → Outcome
partial_source sure tag front stay s down room = partial_row sure tag front stay s.table.now down s.list.now s.list_marks.now s.row.now s.marks.now room
