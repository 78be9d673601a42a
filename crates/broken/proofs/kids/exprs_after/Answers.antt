use Rattle.broken.proofs.KidsLaws.{after-expr, after-pred}
use Rattle.broken.proofs.kids.exprs_after.Goals as goal

pub returns-then-preds-eq0 : goal.returns-then-preds-eq0
returns-then-preds-eq0 c = after-expr _ _ _ c.if-preds-eq0.true c.saturating_sub.ensures

pub returns : goal.returns
returns c = after-pred _ _ c.if-preds-eq0.false
