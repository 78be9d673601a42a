use Rattle.reader.proofs.DeclReads.{decls-deep, decls-under, decls-many, decls-read}
use Rattle.reader.proofs.reader.decls_at.Goals as goal

pub returns-then-depth-gt-NAME : goal.returns-then-depth-gt-NAME
returns-then-depth-gt-NAME c = decls-deep _ _ _ _ _ _ _ c.if-depth-gt-NAME.true

pub returns-then-under-gt-NAME : goal.returns-then-under-gt-NAME
returns-then-under-gt-NAME c = decls-under _ _ _ _ _ _ _ c.if-depth-gt-NAME.false c.if-under-gt-NAME.true

pub returns-then-n-gt-NAME : goal.returns-then-n-gt-NAME
returns-then-n-gt-NAME c = decls-many _ _ _ _ _ _ _ c.if-depth-gt-NAME.false c.if-under-gt-NAME.false c.if-n-gt-NAME.true

pub returns : goal.returns
returns c = decls-read _ _ _ _ _ _ _ c.if-depth-gt-NAME.false c.if-under-gt-NAME.false c.if-n-gt-NAME.false _ c.mark_noted.ensures
