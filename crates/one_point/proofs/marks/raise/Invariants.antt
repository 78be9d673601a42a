use mathlib.Core.Path.{◌≡◌}
use Rattle.one_point.proofs.RaiseLaws.{raised_to}
use Rattle.one_point.proofs.marks.raise.Given as goal

abbrev pub invariant-loop-m : goal.invariant-loop-m
invariant-loop-m l = l.marks ≡ raised_to l.k l.m-index l.initial.marks
