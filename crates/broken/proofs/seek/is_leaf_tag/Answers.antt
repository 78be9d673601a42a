use Rattle.broken.proofs.LeafLaws.{named-tag, no-tag, low-tag}
use Rattle.broken.proofs.seek.is_leaf_tag.Goals as goal

pub returns-then-named : goal.returns-then-named
returns-then-named c = named-tag c.args.named c.args.tag c.if-named.true

pub returns-then-tag-eq0 : goal.returns-then-tag-eq0
returns-then-tag-eq0 c = no-tag c.args.named c.args.tag c.if-named.false c.if-tag-eq0.true

pub returns : goal.returns
returns c = low-tag c.args.named c.args.tag c.if-named.false c.if-tag-eq0.false
