use mathlib.Core.Logic.{inl, inr}
use Rattle.line.specs.Scan.{finished}
use Rattle.line.specs.Internal.Places.{number_at}
use Rattle.line.proofs.ScanLaws.{number-end}
use Rattle.line.proofs.number.ended.Goals as goal

pub returns-in-Opened : goal.returns-in-Opened
unfolding finished number_at
returns-in-Opened c = elim c.in-Opened.is [ inl e ↦ rw e | inr d ↦ elim d [ inl e ↦ rw e | inr e ↦ rw e ] ]

pub returns-in-Digits : goal.returns-in-Digits
unfolding finished number_at
returns-in-Digits c = rw c.in-Digits.is (number-end _ _)
