use Rattle.line.proofs.LineLaws.{signed-bad, signed-go}
use Rattle.line.proofs.OffsetLaws.{offset-back}
use Rattle.line.proofs.line.read_signed.Goals as goal

pub returns-in_err-offset : goal.returns-in_err-offset
returns-in_err-offset c = rw c.from_residual.ensures (signed-bad _ _ _ _ c.read_offset.ensures c.in_err-offset.was)

pub returns : goal.returns
returns c = signed-go _ _ _ _ c.read_offset.ensures _ _ c.in_ok-offset.was _ _ (rw (offset-back _ _ c.read_offset.ensures _ _ c.in_ok-offset.was) at c.read_next.ensures)
