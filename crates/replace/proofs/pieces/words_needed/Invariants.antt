use mathlib.Core.Path.{◌≡◌}
use Prim.Native.Nat.{◌+◌, ◌-◌, ◌≤◌}
use lib.ListN.{length, drop}
use Rattle.shift.specs.Internal.Items.{items}
use Rattle.replace.specs.Internal.Pieces.{sizes, capped}
use Rattle.replace.specs.Internal.Job.{job_plan}
use Rattle.replace.proofs.pieces.words_needed.Given as goal

abbrev pub invariant-loop-i : goal.invariant-loop-i
invariant-loop-i l = (capped (sizes (job_plan l.job) (items (drop l.job.from l.job.source.row.now) (drop l.job.from l.job.source.marks.now))) ≡ capped (l.n + sizes (job_plan l.job) (items (drop l.i l.job.source.row.now) (drop l.i l.job.source.marks.now)))) × (l.n ≤ 8192)

abbrev pub decreases-loop-i : goal.decreases-loop-i
decreases-loop-i l = length l.job.source.row.now - l.i
