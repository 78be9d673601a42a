use Rattle.line.proofs.OffsetLaws.{below_none, below-far, below-fits, below-is}
use Rattle.line.proofs.number.below_zero.Goals as goal

pub returns-then-v-eq0 : goal.returns-then-v-eq0
returns-then-v-eq0 c = below_none _ _ c.if-v-eq0.true

pub returns-then-v-gt2147483648 : goal.returns-then-v-gt2147483648
returns-then-v-gt2147483648 c = below-far _ _ c.if-v-gt2147483648.true

pub overflow_sub-result : goal.overflow_sub-result
overflow_sub-result c = below-fits _ c.if-v-eq0.false c.if-v-gt2147483648.false

pub returns : goal.returns
returns c = below-is _ _ c.if-v-eq0.false c.if-v-gt2147483648.false
