use mathlib.Core.Path.{sym}
use lib.Seq.{set_out}
use Rattle.reader.proofs.reader.put_mark.Goals as goal

pub returns-else-at-marks : goal.returns-else-at-marks
returns-else-at-marks c = sym (set_out _ _ _ c.if-at-marks.false)
