use Rattle.reader.proofs.ReaderLaws.{told-deep, told_under, told_in}
use Rattle.reader.proofs.reader.pred_at.Goals as goal

pub returns-then-depth-gt-NAME : goal.returns-then-depth-gt-NAME
returns-then-depth-gt-NAME c = told-deep _ _ _ _ _ _ _ c.if-depth-gt-NAME.true

pub returns-then-under-gt-NAME : goal.returns-then-under-gt-NAME
returns-then-under-gt-NAME c = told_under _ _ _ _ _ _ _ c.if-depth-gt-NAME.false c.if-under-gt-NAME.true

pub returns : goal.returns
returns c = told_in _ _ _ _ _ _ _ _ c.if-depth-gt-NAME.false c.if-under-gt-NAME.false c.mark_pred.ensures
