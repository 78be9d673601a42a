use Rattle.shift.proofs.ShiftLaws.{at_none, at-below, at_above}
use Rattle.shift.proofs.shift.moved_at.Goals as goal

pub returns-then-k-eq0 : goal.returns-then-k-eq0
returns-then-k-eq0 c = at_none _ _ _ _ _ _ c.index_mark-k.ensures c.if-k-eq0.true

pub returns-then-v-k : goal.returns-then-v-k
returns-then-v-k c = at-below _ _ _ _ _ _ c.index_mark-k.ensures c.if-k-eq0.false c.if-v-k.true

pub returns : goal.returns
returns c = at_above _ _ _ _ _ _ c.index_mark-k.ensures c.if-k-eq0.false c.if-v-k.false _ c.move_word-moved.ensures
