use Rattle.one_point.proofs.HeadedLaws.{operator-noted, operator-plain}
use Rattle.one_point.proofs.heads.operator_of.Goals as goal

pub returns-then-head-gt860 : goal.returns-then-head-gt860
returns-then-head-gt860 c = operator-noted c.args.head.now (c.requires) c.if-head-gt860.true

pub returns : goal.returns
returns c = operator-plain c.args.head.now (c.requires) c.if-head-gt860.false
