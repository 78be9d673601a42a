use mathlib.Core.Path.{refl, sym}
use lib.ListN.{drop}
use lib.Seq.{length-take-le}
use Rattle.shift.proofs.CheckedLaws.{passed}
use Rattle.replace.specs.Internal.Job.{job_plan}
use Rattle.replace.proofs.BuildLaws.{built-fits, short-built}
use Rattle.tree.proofs.Pairs.{both}
use Rattle.replace.proofs.build.replace_built.Goals as goal

pub slice_bounds-work-end : goal.slice_bounds-work-end
slice_bounds-work-end c = built-fits c.write_words-n.auto.out refl (rw c.write_words-n.ensures.value c.requires.marks_len_bound)

pub slice_bounds-emit_short-end : goal.slice_bounds-emit_short-end
slice_bounds-emit_short-end c = sym (length-take-le _ _ (built-fits c.write_words-n.auto.out refl (rw c.write_words-n.ensures.value c.requires.marks_len_bound)))

pub returns : goal.returns
returns c = both (λ v w. record { value = v; out_after = w }) (passed _ _ _ _ _ (short-built c.args.head.now (job_plan c.args.job) c.args.job.source.list.now c.args.job.source.list_marks.now (drop c.args.job.from c.args.job.source.row.now) (drop c.args.job.from c.args.job.source.marks.now) c.requires.ready.in_row _ _ _ _ c.write_words-n.ensures.out_after c.write_words-n.ensures.value (rw c.write_words-n.ensures.value c.requires.marks_len_bound)) (c.emit_short.ensures.value, c.emit_short.ensures.out_after))
