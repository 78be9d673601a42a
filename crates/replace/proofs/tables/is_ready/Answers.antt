use mathlib.Core.Path.{◌∙◌}
use Rattle.replace.proofs.ReadyLaws.{test-many, test_short, test_parts}
use Rattle.replace.proofs.tables.is_ready.Goals.{then-table-gt-LIMIT-via-then-table-gt-LIMIT, then-table-gt-LIMIT-via-else-table-gt-LIMIT+then-list_marks-list}
use Rattle.replace.proofs.tables.is_ready.Goals as goal

pub returns-then-table-gt-LIMIT-clause-value : goal.returns-then-table-gt-LIMIT-clause-value
returns-then-table-gt-LIMIT-clause-value c = elim c.then-table-gt-LIMIT.branch [ then-table-gt-LIMIT-via-then-table-gt-LIMIT w ↦ test-many _ _ _ w.if-table-gt-LIMIT.true | then-table-gt-LIMIT-via-else-table-gt-LIMIT+then-list_marks-list w ↦ test_short _ _ _ w.if-table-gt-LIMIT.false w.if-list_marks-list.true ]

pub returns-clause-value : goal.returns-clause-value
returns-clause-value c = c.are_inside.ensures ∙ test_parts _ _ _ c.if-table-gt-LIMIT.false c.if-list_marks-list.false
