use mathlib.Core.Path.{sym, ◌∙◌}
use Rattle.line.proofs.OffsetLaws.{offset-past, minus_is, minus-bad, plain-is, plain-bad}
use Rattle.line.proofs.number.read_offset.Goals as goal

pub returns-then-line-at : goal.returns-then-line-at
returns-then-line-at c = offset-past _ _ c.if-line-at.true

pub returns-in_err-v : goal.returns-in_err-v
returns-in_err-v c = rw c.from_residual.ensures (sym (minus-bad _ _ c.if-line-at.false c.if-line-at-eq45.true c.read_number.ensures c.in_err-v.was))

pub returns-then-line-at-eq45 : goal.returns-then-line-at-eq45
returns-then-line-at-eq45 c = c.below_zero.ensures ∙ sym (minus_is _ _ c.if-line-at.false c.if-line-at-eq45.true c.read_number.ensures _ _ c.in_ok-v.was)

pub returns-in_err-v-2 : goal.returns-in_err-v-2
returns-in_err-v-2 c = rw c.from_residual-in_err-v-2.ensures (sym (plain-bad _ _ c.if-line-at.false c.if-line-at-eq45.false c.read_number-2.ensures c.in_err-v-2.was))

pub returns : goal.returns
returns c = c.from_zero.ensures ∙ sym (plain-is _ _ c.if-line-at.false c.if-line-at-eq45.false c.read_number-2.ensures _ _ c.in_ok-v-2.was)
