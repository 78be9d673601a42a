use Rattle.broken.proofs.KidsLaws.{preds-left, exprs-left}
use Rattle.broken.proofs.kids.no_kids.Goals as goal

pub returns-then-preds-gt0 : goal.returns-then-preds-gt0
returns-then-preds-gt0 c = preds-left _ _ c.if-preds-gt0.true

pub returns : goal.returns
returns c = exprs-left _ _ c.if-preds-gt0.false
