use Rattle.tree.proofs.Residual.{exit-with}
use mathlib.Core.Path.{refl, sym}
use lib.ListN.{drop}
use lib.Seq.{length-take-le}
use Rattle.shift.proofs.CheckedLaws.{refused-up, passed}
use Rattle.replace.specs.Internal.Job.{job_plan}
use Rattle.replace.proofs.LengthLaws.{length-fits}
use Rattle.replace.proofs.BuildLaws.{built-fits, long-row, built-row}
use Rattle.tree.proofs.Pairs.{both}
use Rattle.replace.proofs.build.replace_checked.Goals as goal

pub check_length-requires : goal.check_length-requires
check_length-requires c = c.requires.tabled

pub returns-in_err-check_length : goal.returns-in_err-check_length
returns-in_err-check_length c = both (λ v w. record { value = v; out_after = w }) (refused-up _ _ _ _ (exit-with c.from_residual.ensures.1) (long-row c.args.head.now (job_plan c.args.job) c.args.job.source.list.now c.args.job.source.list_marks.now (drop c.args.job.from c.args.job.source.row.now) (drop c.args.job.from c.args.job.source.marks.now) c.requires.in_row _ _ c.check_length.ensures c.in_err-check_length.was))

pub write_words-n-requires : goal.write_words-n-requires
write_words-n-requires c = record { ready = c.requires; marks_in_bounds = (length-fits _ _ c.check_length.ensures c.in_ok-check_length.was).0 }

pub slice_bounds-work-end : goal.slice_bounds-work-end
slice_bounds-work-end c = built-fits c.write_words-n.auto.out refl (rw c.write_words-n.ensures.value (length-fits _ _ c.check_length.ensures c.in_ok-check_length.was).0)

pub slice_bounds-emit-end : goal.slice_bounds-emit-end
slice_bounds-emit-end c = sym (length-take-le _ _ (built-fits c.write_words-n.auto.out refl (rw c.write_words-n.ensures.value (length-fits _ _ c.check_length.ensures c.in_ok-check_length.was).0)))

pub returns : goal.returns
returns c = both (λ v w. record { value = v; out_after = w }) (passed _ _ _ _ _ (built-row c.args.head.now (job_plan c.args.job) c.args.job.source.list.now c.args.job.source.list_marks.now (drop c.args.job.from c.args.job.source.row.now) (drop c.args.job.from c.args.job.source.marks.now) c.requires.in_row _ _ _ _ _ c.write_words-n.ensures.out_after c.write_words-n.ensures.value (rw c.write_words-n.ensures.value (length-fits _ _ c.check_length.ensures c.in_ok-check_length.was).0)) (c.emit.ensures.value, c.emit.ensures.out_after))
