use Prim.Native.Nat.{◌-◌}
use lib.ListN.{length, get_or}
use Rattle.replace.specs.Internal.Job.{job_plan}
use Rattle.replace.proofs.SpliceLaws.{Storing}
use Rattle.replace.proofs.splice.write_freed.Given as goal

abbrev pub invariant-loop-i : goal.invariant-loop-i
invariant-loop-i l = Storing (job_plan l.job) l.job.source.list.now l.job.source.list_marks.now l.job.source.row.now l.job.source.marks.now l.job.from l.at l.initial.out l.out l.i l.p (get_or l.job.source.row.now l.i 0)

abbrev pub decreases-loop-i : goal.decreases-loop-i
decreases-loop-i l = length l.job.source.row.now - l.i
