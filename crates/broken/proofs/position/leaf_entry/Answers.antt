use Rattle.broken.proofs.EntryLaws.{no-leaf-room, leaf-there, leaf-absent}
use Rattle.broken.proofs.position.leaf_entry.Goals as goal

pub returns-then-at-gt-WORDS : goal.returns-then-at-gt-WORDS
returns-then-at-gt-WORDS c = no-leaf-room _ _ c.if-at-gt-WORDS.true

pub returns-then-is_leaf : goal.returns-then-is_leaf
returns-then-is_leaf c = leaf-there _ _ c.if-at-gt-WORDS.false _ c.is_leaf.ensures c.if-is_leaf.true

pub returns : goal.returns
returns c = leaf-absent c.args.at _ _ c.is_leaf.ensures c.if-is_leaf.false
