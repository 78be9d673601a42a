use Rattle.broken.proofs.EntryLaws.{quick-wide, quick-one, quick-full, quick-pair, quick-zero}
use Rattle.broken.proofs.position.quick_entry.Goals as goal

pub returns-then-row-at-gt1 : goal.returns-then-row-at-gt1
returns-then-row-at-gt1 c = rw c.in-Places.is (quick-wide _ _ c.requires.0 c.if-row-at-gt1.true)

pub returns-then-row-at-eq1 : goal.returns-then-row-at-eq1
returns-then-row-at-eq1 c = rw c.in-Places.is (quick-one _ _ c.requires.0 c.if-row-at-eq1.true _ c.leaf_entry-then-row-at-eq1.ensures)

pub returns-then-at-ge-WORDS : goal.returns-then-at-ge-WORDS
returns-then-at-ge-WORDS c = rw c.in-Places.is (quick-full _ _ c.requires.0 c.if-row-at-gt1.false c.if-row-at-eq1.false c.if-at-ge-WORDS.true)

pub returns-in-Pairs : goal.returns-in-Pairs
returns-in-Pairs c = rw c.in-Pairs.is (quick-pair _ _ c.requires.0 _ c.leaf_entry.ensures)

pub returns-else-at-ge-WORDS : goal.returns-else-at-ge-WORDS
returns-else-at-ge-WORDS c = rw c.in-Places.is (quick-zero _ _ c.requires.0 c.if-row-at-gt1.false c.if-row-at-eq1.false c.if-at-ge-WORDS.false)
