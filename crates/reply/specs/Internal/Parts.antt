-- A command's parts, as the code finds them in the line and in the rows.
use Rattle.std.specs.Prelude.{◌≡◌, List, [], ℕ, ◌≤◌, length, take}
use Rattle.form.specs.Answer.{Outcome}
use Rattle.rules.specs.Command.{args_of, kind_of}
use Rattle.rules.specs.declared.command.Args.{Args}
use Rattle.rules.specs.declared.command.Args.TheVariants.{Nothing, Offset, Names, Pairs, Places}
use Rattle.line.specs.Line.{read_line, list_row, form_row}
use Rattle.line.specs.declared.line.Part.{Part}
use Rattle.line.specs.declared.line.Parts.{Parts}
use Rattle.reply.specs.Reply.{text_of, spelled_form, spelled_args}

-- the group of the words ws lies in the line; if they are few enough, they stand at the front of the row
pub record Held (line row ws : List ℕ) (p : Part) : Type 0 where
  pub ordered : p.start ≤ p.end
  pub inside : p.end ≤ length line
  pub counted : p.count ≡ length ws
  pub room : 8192 ≤ length row
  pub front : length ws ≤ 8192 → take (length ws) row ≡ ws

-- the words of the form of a line
abbrev pub form_words : List ℕ → List ℕ
form_words line = form_row (read_line line)

-- no words where no list is taken
abbrev pub Bare : Args → List ℕ → Type 0
Bare Nothing list = list ≡ []
Bare Offset list = list ≡ []
Bare Names list = Unit {0}
Bare Pairs list = Unit {0}
Bare Places list = Unit {0}

pub record HeldBoth (line list row : List ℕ) (p : Parts) : Type 0 where
  pub listed : Held line list (list_row line) p.list
  pub formed : Held line row (form_words line) p.form
  pub bare : Bare (args_of p.command) (list_row line)

-- a command's checks, whatever comes after them: of the form, and of the list where there is one
abbrev pub parts_test : List ℕ → Parts → Outcome → Outcome
parts_test line p o = spelled_form (kind_of p.command) (text_of line p.form) (form_words line) (spelled_args (args_of p.command) (text_of line p.list) (list_row line) o)
