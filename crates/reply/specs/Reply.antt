-- What a line is answered: that it is no command where it is misspelled, or where the brackets of a row that is not refused do not hold its
-- nodes; each row's refusal; then the command's own answer, printed.
use Rattle.std.specs.Prelude.{Bool, ◌&&◌, Some, None, List, ℕ, ◌-◌, leb, ℤ, take, drop}
use Rattle.form.specs.Answer.{Outcome, answer, stop, within, with_form, with_list, needs}
use Rattle.form.specs.Refusal.{number_of, position_of}
use Rattle.form.specs.declared.answer.Kind.{Kind}
use Rattle.form.specs.declared.answer.ListKind.{ListKind}
use Rattle.form.specs.declared.answer.ListKind.TheVariants as list_of
use Rattle.rules.specs.Command.{args_of, kind_of, outcome_of}
use Rattle.rules.specs.declared.command.Command.{Command}
use Rattle.rules.specs.declared.command.Args.{Args}
use Rattle.rules.specs.declared.command.Args.TheVariants.{Nothing, Offset, Names, Pairs, Places}
use Rattle.spell.specs.Spell.{fits_form, fits_list, fits_names, print_outcome, print_no}
use Rattle.line.specs.Line.{Formed, formed, read_line, list_row}
use Rattle.line.specs.declared.line.Part.{Part}
use Rattle.form.specs.declared.answer.Refusal.TheVariants.{NotACommand, WorkTooShort}

-- the bytes of a group
abbrev pub text_of : List ℕ → Part → List ℕ
text_of line p = take (p.end - p.start) (drop p.start line)

-- a row's own refusals, then that of its brackets; a list of names breaks nowhere
unfoldable pub spelled_form : Kind → List ℕ → List ℕ → Outcome → Outcome
spelled_form kind text row o = with_form kind row (λ s f. needs NotACommand (fits_form text row) o)

unfoldable pub spelled_list : ListKind → List ℕ → List ℕ → Outcome → Outcome
spelled_list kind text row o = with_list kind row (λ es. needs NotACommand (fits_list kind text row) o)

unfoldable pub spelled_names : List ℕ → List ℕ → Outcome → Outcome
spelled_names text row o = within row (needs NotACommand (fits_names text row) o)

-- the list by the shape of the arguments
abbrev pub spelled_args : Args → List ℕ → List ℕ → Outcome → Outcome
spelled_args Nothing text list o = o
spelled_args Offset text list o = o
spelled_args Names text list o = spelled_names text list o
spelled_args Pairs text list o = spelled_list list_of.Pairs text list o
spelled_args Places text list o = spelled_list list_of.Places text list o

-- the list's text and row, the form's text and row, and the room in the work row and in the output
abbrev pub command_outcome : Command → ℤ → List ℕ → List ℕ → List ℕ → List ℕ → ℕ → ℕ → Outcome
command_outcome c z list_text list text row work room =
    spelled_form (kind_of c) text row (spelled_args (args_of c) list_text list (outcome_of c z list row work room))

abbrev pub of_line : List ℕ → ℕ → ℕ → Formed → Outcome
of_line line work room (formed (Some p) ws) =
    command_outcome p.command p.offset (text_of line p.list) (list_row line) (text_of line p.form) ws work room
of_line line work room (formed None ws) = stop NotACommand

-- the rows for the list and for the form have at least 8,192 words, the work row at least 16,384
abbrev pub enough_rows : ℕ → ℕ → ℕ → Bool
enough_rows list form work = leb 8192 list && (leb 8192 form && leb 16384 work)

unfoldable pub line_outcome : List ℕ → ℕ → ℕ → ℕ → ℕ → Outcome
line_outcome line list form work room = needs WorkTooShort (enough_rows list form work) (of_line line work room (read_line line))

-- the bytes of the answer, in a buffer of so many
abbrev pub printed : ℕ → Outcome → Outcome
printed bytes (answer ws) = print_outcome ws bytes
printed bytes (stop r) = print_no (number_of r) (position_of r) bytes

unfoldable pub reply_outcome : List ℕ → ℕ → ℕ → ℕ → ℕ → ℕ → Outcome
reply_outcome line list form work room bytes = printed bytes (line_outcome line list form work room)
