use native.Mathlib.Omega.{arith}
use Rattle.replace.proofs.StoreLaws.{put-stored}
use Rattle.replace.proofs.emit.copy.Goals as goal

pub returns : goal.returns
returns c = rw c.copy_from_slice.ensures.after (put-stored _ _ _ _ (omega arith) c.requires)
