use mathlib.Core.Logic.{inl, inr}
use Rattle.line.specs.Scan.{note}
use Rattle.line.proofs.turn.noted.Goals as goal

pub returns-in-Opened : goal.returns-in-Opened
unfolding note
returns-in-Opened c = rw c.in-Opened.is c.place_mark.ensures

pub returns-in-Spaced : goal.returns-in-Spaced
unfolding note
returns-in-Spaced c = elim c.in-Spaced.is [ inl e ↦ rw e | inr e ↦ rw e ]

pub returns-in-Digits : goal.returns-in-Digits
unfolding note
returns-in-Digits c = rw c.in-Digits.is c.word_mark.ensures
