use Rattle.tree.proofs.Residual.{exit-with}
use lib.ListN.{drop}
use Rattle.shift.proofs.CheckedLaws.{refused-up}
use Rattle.replace.specs.Internal.Job.{job_plan}
use Rattle.replace.proofs.LengthLaws.{length-fits}
use Rattle.replace.proofs.BuildLaws.{sure-not, sure-done}
use Rattle.tree.proofs.Pairs.{both}
use Rattle.replace.proofs.build.replace_counted.Goals as goal

pub check_length-requires : goal.check_length-requires
check_length-requires c = c.requires.tabled

pub returns-in_err-check_length : goal.returns-in_err-check_length
returns-in_err-check_length c = both (λ v w. record { value = v; out_after = w }) (refused-up _ _ _ _ (exit-with c.from_residual.ensures.1) (sure-not c.args.head.now (job_plan c.args.job) c.args.job.source.list.now c.args.job.source.list_marks.now (drop c.args.job.from c.args.job.source.row.now) (drop c.args.job.from c.args.job.source.marks.now) c.requires.in_row _ c.check_length.ensures c.in_err-check_length.was))

pub write_words-requires : goal.write_words-requires
write_words-requires c = record { ready = c.requires; marks_in_bounds = (length-fits _ _ c.check_length.ensures c.in_ok-check_length.was).1 }

pub returns : goal.returns
returns c = both (λ v w. record { value = v; out_after = w }) (sure-done c.args.head.now (job_plan c.args.job) c.args.job.source.list.now c.args.job.source.list_marks.now (drop c.args.job.from c.args.job.source.row.now) (drop c.args.job.from c.args.job.source.marks.now) c.requires.in_row _ _ c.check_length.ensures c.in_ok-check_length.was _ c.write_words.ensures.value c.write_words.ensures.out_after)
