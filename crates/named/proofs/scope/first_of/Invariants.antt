use Rattle.named.proofs.LevelLaws.{Seeking}
use Rattle.named.proofs.scope.first_of.Given as goal

abbrev pub invariant-loop-l : goal.invariant-loop-l
invariant-loop-l l = Seeking l.scope l.m l.under l.l

abbrev pub decreases-loop-l : goal.decreases-loop-l
decreases-loop-l l = l.l
