use Rattle.one_point.proofs.WriteMarks.{join-marks-one, join-marks}
use Rattle.one_point.proofs.writes.finish_marks.Goals as goal

pub returns-then-k-eq1 : goal.returns-then-k-eq1
returns-then-k-eq1 c = λ t fs ms cl e l q. join-marks-one _ _ _ _ c.if-k-eq1.true _ c.move_marks_down.ensures t fs ms cl e l q

pub returns-else-k-eq1 : goal.returns-else-k-eq1
returns-else-k-eq1 c = λ t fs ms cl e l q. join-marks _ _ _ _ c.if-k-eq1.false t fs ms cl e l q
