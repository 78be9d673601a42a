-- A line of commands: '[', a head and a space, its arguments, ']' and nothing more; at most 65,535 bytes. Any other line is misspelled.
use Rattle.std.specs.Prelude.{Bool, true, false, Option, Some, None, List, [], ◌∷◌, ℕ, ◌+◌, leb, eqb, ℤ, pos, length, drop}
use Rattle.tree.specs.Form.{pick}
use Rattle.line.specs.Scan.{Scan, ended, broken, scan_words, group, Signed, signed, unsigned, offset}
use Rattle.rules.specs.Command.{commands, head_of, args_of}
use Rattle.rules.specs.declared.command.Command.{Command}
use Rattle.rules.specs.declared.command.Args.{Args}
use Rattle.rules.specs.declared.command.Args.TheVariants.{Nothing, Offset, Names, Pairs, Places}
use Rattle.line.specs.declared.head.Start.{Start}
use Rattle.line.specs.declared.line.Part.{Part}
use Rattle.line.specs.declared.line.Parts.{Parts}

unfoldable pub prefix : List ℕ → List ℕ → Bool
prefix [] bs = true
prefix (w ∷ ws) [] = false
prefix (w ∷ ws) (b ∷ bs) = pick (eqb b w) (prefix ws bs) false

-- a command whose head is the word, and where its arguments begin
abbrev pub start_at : List ℕ → Command → List ℕ → Option Start
start_at word c line = pick (prefix word line) (Some (record { command = c; at = length word })) None

abbrev pub or_later : Option Start → Option Start → Option Start
or_later (Some s) later = Some s
or_later None later = later

-- the first of the commands whose head the line begins with
unfoldable pub start_of : List Command → List ℕ → Option Start
start_of [] line = None
start_of (c ∷ cs) line = or_later (start_at (head_of c) c line) (start_of cs line)

-- the last argument: a group, then ']' and the end of the line
abbrev pub closing : List ℕ → Bool
closing [] = false
closing (b ∷ []) = eqb b 93
closing (b ∷ c ∷ bs) = false

abbrev pub closed : List ℕ → Scan → Scan
closed bs (ended ws k) = pick (closing (drop k bs)) (ended ws k) (broken ws)
closed bs (broken ws) = broken ws

unfoldable pub last_group : List ℕ → Scan
last_group bs = closed bs (group false bs)

-- what a line says, and the words of its form as far as they were read
pub data Formed : Type 0 where
  formed : Option Parts → List ℕ → Formed

abbrev pub form_part : Command → ℤ → Part → ℕ → Scan → Formed
form_part c z list at (ended ws k) =
    formed (Some (record { command = c; offset = z; list = list; form = record { start = at; end = at + k; count = length ws } })) ws
form_part c z list at (broken ws) = formed None ws

unfoldable pub form_arg : Command → ℤ → Part → ℕ → List ℕ → Formed
form_arg c z list at line = form_part c z list at (last_group (drop at line))

abbrev pub space : List ℕ → Bool
space [] = false
space (b ∷ bs) = eqb b 32

unfoldable pub next_arg : Command → ℤ → Part → ℕ → List ℕ → Formed
next_arg c z list at line = pick (space (drop at line)) (form_arg c z list (at + 1) line) (formed None [])

-- where there is no list
abbrev pub no_list : Part
no_list = record { start = 0; end = 0; count = 0 }

abbrev pub of_offset : Command → ℕ → List ℕ → Signed → Formed
of_offset c at line (signed z k) = next_arg c z no_list (at + k) line
of_offset c at line unsigned = formed None []

unfoldable pub offset_args : Command → ℕ → List ℕ → Formed
offset_args c at line = of_offset c at line (offset (drop at line))

abbrev pub of_list : Command → ℕ → List ℕ → Scan → Formed
of_list c at line (ended ws k) = next_arg c (pos 0) (record { start = at; end = at + k; count = length ws }) (at + k) line
of_list c at line (broken ws) = formed None []

unfoldable pub list_args : Command → Bool → ℕ → List ℕ → Formed
list_args c places at line = of_list c at line (group places (drop at line))

-- the arguments by their shape, and the words of the list
unfoldable pub args : Args → Command → ℕ → List ℕ → Formed
args Nothing c at line = form_arg c (pos 0) no_list at line
args Offset c at line = offset_args c at line
args Names c at line = list_args c false at line
args Pairs c at line = list_args c false at line
args Places c at line = list_args c true at line

unfoldable pub list_words : Args → ℕ → List ℕ → List ℕ
list_words Nothing at line = []
list_words Offset at line = []
list_words Names at line = scan_words (group false (drop at line))
list_words Pairs at line = scan_words (group false (drop at line))
list_words Places at line = scan_words (group true (drop at line))

abbrev pub of_start : List ℕ → Option Start → Formed
of_start line (Some s) = args (args_of s.command) s.command s.at line
of_start line None = formed None []

abbrev pub list_start : List ℕ → Option Start → List ℕ
list_start line (Some s) = list_words (args_of s.command) s.at line
list_start line None = []

-- the whole line, the words of its form, and the words of its list
unfoldable pub read_line : List ℕ → Formed
read_line line = pick (leb (length line) 65535) (of_start line (start_of commands line)) (formed None [])

unfoldable pub list_row : List ℕ → List ℕ
list_row line = pick (leb (length line) 65535) (list_start line (start_of commands line)) []

unfoldable pub line_of : Formed → Option Parts
line_of (formed r ws) = r

unfoldable pub form_row : Formed → List ℕ
form_row (formed r ws) = ws
