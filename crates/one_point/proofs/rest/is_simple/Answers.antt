use Rattle.one_point.proofs.HeadedLaws.{simple-not, simple-by}
use Rattle.one_point.proofs.rest.is_simple.Goals as goal

pub returns-then-head-gt860 : goal.returns-then-head-gt860
returns-then-head-gt860 c = simple-not c.args.head.now c.args.body.now c.if-head-gt860.true

pub returns : goal.returns
returns c = simple-by c.args.head.now c.args.body.now c.if-head-gt860.false
