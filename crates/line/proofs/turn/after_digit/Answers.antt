use mathlib.Core.Logic.{inl, inr}
use Rattle.line.specs.Scan.{on_digit}
use Rattle.line.proofs.turn.after_digit.Goals as goal

pub returns-in-Opened : goal.returns-in-Opened
unfolding on_digit
returns-in-Opened c = elim c.in-Opened.is [ inl e ↦ rw e | inr e ↦ rw e ]

pub returns-in-Closed : goal.returns-in-Closed
unfolding on_digit
returns-in-Closed c = rw c.in-Closed.is

pub returns-in-Digits : goal.returns-in-Digits
unfolding on_digit
returns-in-Digits c = rw c.in-Digits.is c.longer.ensures
