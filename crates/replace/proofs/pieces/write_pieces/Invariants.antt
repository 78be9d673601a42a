use mathlib.Core.Path.{◌≡◌}
use Prim.Native.Nat.{◌+◌, ◌-◌, ◌≤◌}
use lib.ListN.{length, drop}
use Rattle.shift.specs.Internal.Items.{items, rewritten, store}
use Rattle.replace.specs.Internal.Pieces.{planned, sizes}
use Rattle.replace.specs.Internal.Job.{job_plan}
use Rattle.replace.proofs.pieces.write_pieces.Given as goal

abbrev pub invariant-loop-i : goal.invariant-loop-i
invariant-loop-i l = (store l.initial.out l.at (rewritten (planned (job_plan l.job) l.job.source.list.now l.job.source.list_marks.now) (items (drop l.job.from l.job.source.row.now) (drop l.job.from l.job.source.marks.now))) ≡ store l.out l.p (rewritten (planned (job_plan l.job) l.job.source.list.now l.job.source.list_marks.now) (items (drop l.i l.job.source.row.now) (drop l.i l.job.source.marks.now)))) × (l.p + sizes (job_plan l.job) (items (drop l.i l.job.source.row.now) (drop l.i l.job.source.marks.now)) ≤ length l.out) × (length l.out ≡ length l.initial.out) × (l.at + sizes (job_plan l.job) (items (drop l.job.from l.job.source.row.now) (drop l.job.from l.job.source.marks.now)) ≡ l.p + sizes (job_plan l.job) (items (drop l.i l.job.source.row.now) (drop l.i l.job.source.marks.now)))

abbrev pub decreases-loop-i : goal.decreases-loop-i
decreases-loop-i l = length l.job.source.row.now - l.i
