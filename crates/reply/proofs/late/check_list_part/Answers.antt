use Rattle.reply.proofs.LateLaws.{told-long, list-tests, held-long, held-row}
use Rattle.reply.proofs.late.check_list_part.Goals as goal

pub returns-then-part-gt-WORDS : goal.returns-then-part-gt-WORDS
returns-then-part-gt-WORDS c = told-long _ _ (list-tests _ _ _) (held-long _ _ _ _ c.requires c.if-part-gt-WORDS.true) _

pub returns : goal.returns
returns c = rw (held-row _ _ _ _ c.requires c.if-part-gt-WORDS.false) at c.check_list_text.ensures
