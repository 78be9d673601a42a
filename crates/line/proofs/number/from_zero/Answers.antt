use Rattle.line.proofs.OffsetLaws.{from-far, from_is}
use Rattle.line.proofs.number.from_zero.Goals as goal

pub returns-then-v-gt2147483647 : goal.returns-then-v-gt2147483647
returns-then-v-gt2147483647 c = from-far _ _ c.if-v-gt2147483647.true

pub returns : goal.returns
returns c = from_is _ _ c.if-v-gt2147483647.false
