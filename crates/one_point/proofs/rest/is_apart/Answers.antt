use Rattle.one_point.proofs.RestLaws.{apart-plain, apart-first, apart-behind, apart-same, apart_by}
use Rattle.one_point.proofs.rest.is_apart.Goals as goal

pub returns-then-head-le860 : goal.returns-then-head-le860
returns-then-head-le860 c = apart-plain c.args.head.now c.args.p c.args.body.now c.if-head-le860.true

pub returns-then-p-eq0 : goal.returns-then-p-eq0
returns-then-p-eq0 c = apart-first c.args.head.now c.args.p c.args.body.now c.if-head-le860.false c.if-p-eq0.true

pub returns-then-p-head : goal.returns-then-p-head
returns-then-p-head c = apart-behind c.args.head.now c.args.p c.args.body.now c.if-head-le860.false c.if-p-eq0.false c.if-p-head.true

pub returns-then-body-head : goal.returns-then-body-head
returns-then-body-head c = apart-same c.args.head.now c.args.p c.args.body.now c.if-head-le860.false c.if-p-eq0.false c.if-p-head.false c.if-body-head.true

pub returns : goal.returns
returns c = apart_by c.args.head.now c.args.p c.args.body.now c.if-head-le860.false c.if-p-eq0.false c.if-p-head.false c.if-body-head.false
