use Rattle.broken.proofs.LeafLaws.{index_in}
use Rattle.broken.proofs.seek.is_index.Goals as goal

pub returns-then-named : goal.returns-then-named
returns-then-named c = index_in c.args.named c.args.tag c.if-named.true
