use mathlib.Core.Path.{sym, ◌∙◌}
use Rattle.reader.proofs.CheckLaws.{by-none, by-tag}
use Rattle.reader.proofs.check.begins_expr.Goals as goal

pub returns-then-row-eq0 : goal.returns-then-row-eq0
returns-then-row-eq0 c = sym (by-none c.args.row.now c.if-row-eq0.true)

pub returns : goal.returns
returns c = c.is_known.ensures ∙ sym (by-tag c.args.row.now _ c.if-row-eq0.false c.expr_shape.ensures)
