use Rattle.shift.proofs.ItemLaws.{item-gone, item-none, item-zero, item-last, item-ident}
use Rattle.shift.proofs.items.item_at.Goals as goal

pub returns-then-row-i : goal.returns-then-row-i
returns-then-row-i c = item-gone c.args.row.now _ _ c.if-row-i.true

pub returns-then-marks-i : goal.returns-then-marks-i
returns-then-marks-i c = item-none _ _ _ c.if-row-i.false c.if-marks-i.true

pub returns-then-m-eq0 : goal.returns-then-m-eq0
returns-then-m-eq0 c = item-zero _ _ _ c.if-row-i.false c.if-marks-i.false c.if-m-eq0.true

pub returns-then-row-i-2 : goal.returns-then-row-i-2
returns-then-row-i-2 c = item-last _ _ _ c.if-row-i.false c.if-marks-i.false c.if-m-eq0.false c.if-row-i-2.true

pub returns : goal.returns
returns c = item-ident _ _ _ c.if-row-i.false c.if-marks-i.false c.if-m-eq0.false c.if-row-i-2.false
