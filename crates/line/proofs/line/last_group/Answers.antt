use Rattle.line.proofs.LineLaws.{last-broken, last-stop, last-go, closing-past, closing-other, closing-long, closing-is}
use Rattle.line.proofs.line.last_group.Goals as goal
use Rattle.line.proofs.line.last_group.Goals.{then-line-part-ne93-via-then-line-part-ne93, then-line-part-ne93-via-else-line-part-ne93+then-line-part-2}

pub returns-in_err-part : goal.returns-in_err-part
returns-in_err-part c = rw c.from_residual.ensures (last-broken _ _ _ _ _ c.read_group.ensures c.in_err-part.was)

pub returns-then-line-part : goal.returns-then-line-part
returns-then-line-part c = last-stop _ _ _ _ _ c.read_group.ensures _ c.in_ok-part.was (closing-past _ _ c.if-line-part.true)

pub returns-then-line-part-ne93 : goal.returns-then-line-part-ne93
returns-then-line-part-ne93 c =
    elim c.then-line-part-ne93.branch [
      | then-line-part-ne93-via-then-line-part-ne93 w ↦ last-stop _ _ _ _ _ c.read_group.ensures _ c.in_ok-part.was (closing-other _ _ c.if-line-part.false w.if-line-part-ne93.true)
      | then-line-part-ne93-via-else-line-part-ne93+then-line-part-2 w ↦ last-stop _ _ _ _ _ c.read_group.ensures _ c.in_ok-part.was (closing-long _ _ c.if-line-part.false w.if-line-part-2.true)
    ]

pub returns : goal.returns
returns c = last-go _ _ _ _ _ c.read_group.ensures _ c.in_ok-part.was (closing-is _ _ c.if-line-part.false c.if-line-part-ne93.false c.if-line-part-2.false)
