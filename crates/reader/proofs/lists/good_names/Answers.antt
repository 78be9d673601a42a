use mathlib.Core.Path.{sym, ◌∙◌}
use borrow.Author.Tests.{lt-leb}
use Rattle.reader.proofs.TableLaws.{many-names, few-good}
use Rattle.reader.proofs.lists.good_names.Goals as goal

pub returns-then-names-le-LIMIT : goal.returns-then-names-le-LIMIT
returns-then-names-le-LIMIT c = c.are_distinct.ensures ∙ sym (few-good _ c.if-names-le-LIMIT.true)

pub returns-else-names-le-LIMIT : goal.returns-else-names-le-LIMIT
returns-else-names-le-LIMIT c = lt-leb _ _ c.if-names-le-LIMIT.false ∙ sym (many-names _ c.if-names-le-LIMIT.false)
