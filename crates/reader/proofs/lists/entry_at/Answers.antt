use Rattle.reader.proofs.TableLaws.{entry_gone, pair-told, place-told}
use Rattle.reader.proofs.lists.entry_at.Goals as goal

pub returns-then-row-p : goal.returns-then-row-p
returns-then-row-p c = entry_gone _ _ _ _ _ c.if-row-p.true

pub returns-in-Pairs : goal.returns-in-Pairs
returns-in-Pairs c = rw c.in-Pairs.is (pair-told _ _ _ _ _ c.if-row-p.false c.mark_child.ensures)

pub returns-in-Places : goal.returns-in-Places
returns-in-Places c = rw c.in-Places.is (place-told _ _ _ _ _ c.if-row-p.false c.place_at.ensures)
