use Prim.Native.Nat.{◌+◌, ◌-◌, ◌*◌}
use lib.ListN.{length}
use Rattle.form.specs.Break.{parts}
use Rattle.broken.specs.Internal.Seeks.{next_due, Reaches}
use Rattle.broken.proofs.seek.+seekers.Given as goal

abbrev pub decreases-seek : goal.decreases-seek
decreases-seek l = 3 * l.depth + 1

abbrev pub decreases-seek_child : goal.decreases-seek_child
decreases-seek_child l = 3 * l.depth + 2

abbrev pub decreases-seek_kids : goal.decreases-seek_kids
decreases-seek_kids l = 3 * l.depth

abbrev pub invariant-seek-loop-end : goal.invariant-seek-loop-end
invariant-seek-loop-end l = Reaches l.named l.row l.at l.depth (next_due l.initial.rest) l.need l.p (next_due l.rest)

abbrev pub decreases-seek-loop-end : goal.decreases-seek-loop-end
decreases-seek-loop-end l = length l.row - l.p

abbrev pub invariant-seek_kids-loop-at : goal.invariant-seek_kids-loop-at
invariant-seek_kids-loop-at l = Reaches l.named l.row l.at l.depth (parts 0 l.initial.more_preds l.initial.more_exprs) l.need l.p (parts 0 l.more_preds l.more_exprs)

abbrev pub decreases-seek_kids-loop-at : goal.decreases-seek_kids-loop-at
decreases-seek_kids-loop-at l = length l.row - l.p
