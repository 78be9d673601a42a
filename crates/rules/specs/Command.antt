-- The commands over rows: what each is called, what it takes and what it answers.
use Rattle.std.specs.Prelude.{List, [], ◌∷◌, ℕ, zero, suc, ℤ, Option, Some, None}
use Rattle.form.specs.Answer.{Outcome, stop}
use Rattle.form.specs.declared.answer.Kind.{Kind}
use Rattle.form.specs.declared.answer.Kind.TheVariants.{Predicate, Either, Named as NamedRow}
use Rattle.rules.specs.Shift.{shift_outcome}
use Rattle.rules.specs.Free.{free_outcome}
use Rattle.rules.specs.Bind.{bind_outcome}
use Rattle.rules.specs.Fill.{fill_outcome}
use Rattle.rules.specs.Prune.{prune_outcome}
use Rattle.rules.specs.Point.{point_outcome}
use Rattle.rules.specs.Member.{member_outcome}
use Rattle.rules.specs.Named.{named_outcome}
use Rattle.rules.specs.declared.command.Command.{Command}
use Rattle.rules.specs.declared.command.Command.TheVariants.{Shift, Free, Bind, Fill, Prune, Point, Member, Named}
use Rattle.rules.specs.declared.command.Args.{Args}
use Rattle.rules.specs.declared.command.Args.TheVariants.{Nothing, Offset, Names, Pairs, Places}
use Rattle.form.specs.declared.answer.Refusal.TheVariants.{NotACommand}

-- in the order of their numbers, the first of which is 1
abbrev pub commands : List Command
commands = Shift ∷ Free ∷ Bind ∷ Fill ∷ Prune ∷ Point ∷ Member ∷ Named ∷ []

-- the head of a line in bytes, with its bracket and its space; what stands between it and the form; which kind of form is taken
abbrev pub entry_of : Command → List ℕ × Args × Kind
entry_of Shift = (91 ∷ 115 ∷ 104 ∷ 105 ∷ 102 ∷ 116 ∷ 32 ∷ [], Offset, Either)
entry_of Free = (91 ∷ 102 ∷ 114 ∷ 101 ∷ 101 ∷ 32 ∷ [], Pairs, Either)
entry_of Bind = (91 ∷ 98 ∷ 105 ∷ 110 ∷ 100 ∷ 32 ∷ [], Names, Either)
entry_of Fill = (91 ∷ 102 ∷ 105 ∷ 108 ∷ 108 ∷ 32 ∷ [], Places, Predicate)
entry_of Prune = (91 ∷ 112 ∷ 114 ∷ 117 ∷ 110 ∷ 101 ∷ 32 ∷ [], Nothing, Predicate)
entry_of Point = (91 ∷ 112 ∷ 111 ∷ 105 ∷ 110 ∷ 116 ∷ 32 ∷ [], Nothing, Predicate)
entry_of Member = (91 ∷ 109 ∷ 101 ∷ 109 ∷ 98 ∷ 101 ∷ 114 ∷ 32 ∷ [], Nothing, Predicate)
entry_of Named = (91 ∷ 110 ∷ 97 ∷ 109 ∷ 101 ∷ 100 ∷ 32 ∷ [], Nothing, NamedRow)

abbrev pub head_of : Command → List ℕ
head_of c = (entry_of c).0

abbrev pub args_of : Command → Args
args_of c = (entry_of c).1

abbrev pub kind_of : Command → Kind
kind_of c = (entry_of c).2

-- the answer by the offset, the list and the form in their rows, and the room in the work row and in the output; a command that takes
-- no offset or no list does not look at it
abbrev pub outcome_of : Command → ℤ → List ℕ → List ℕ → ℕ → ℕ → Outcome
outcome_of Shift z list row work room = shift_outcome row z room
outcome_of Free z list row work room = free_outcome list row work room
outcome_of Bind z list row work room = bind_outcome list row room
outcome_of Fill z list row work room = fill_outcome list row work room
outcome_of Prune z list row work room = prune_outcome row room
outcome_of Point z list row work room = point_outcome row work room
outcome_of Member z list row work room = member_outcome row work room
outcome_of Named z list row work room = named_outcome row room

-- the command of a number, and its answer; a number of none is refused
abbrev pub nth : List Command → ℕ → Option Command
nth [] n = None
nth (c ∷ cs) zero = Some c
nth (c ∷ cs) (suc n) = nth cs n

abbrev pub numbered : ℕ → Option Command
numbered zero = None
numbered (suc n) = nth commands n

abbrev pub of_numbered : Option Command → ℤ → List ℕ → List ℕ → ℕ → ℕ → Outcome
of_numbered (Some c) z list row work room = outcome_of c z list row work room
of_numbered None z list row work room = stop NotACommand

unfoldable pub number_outcome : ℕ → ℤ → List ℕ → List ℕ → ℕ → ℕ → Outcome
number_outcome n z list row work room = of_numbered (numbered n) z list row work room
