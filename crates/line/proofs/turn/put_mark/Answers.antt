use Rattle.line.specs.Scan.{mark_words}
use Rattle.spell.proofs.WriteLaws.{wrote_none, wrote-byte, wrote-out}
use Rattle.line.proofs.turn.put_mark.Goals as goal

pub returns-in_default : goal.returns-in_default
unfolding mark_words
returns-in_default c = rw c.in_default.is (wrote_none _ _)

pub returns-then-row-n : goal.returns-then-row-n
unfolding mark_words
returns-then-row-n c = rw c.in-Some.is (wrote-out _ _ _ c.if-row-n.true)

pub returns : goal.returns
unfolding mark_words
returns c = rw c.in-Some.is (wrote-byte _ _ _)
