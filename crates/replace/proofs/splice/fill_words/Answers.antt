use mathlib.Core.Path.{refl, sym}
use Rattle.replace.specs.Internal.Job.{job_plan}
use Rattle.shift.proofs.ItemLaws.{not-no}
use Rattle.replace.proofs.PieceLaws.{used-first}
use Rattle.replace.proofs.SpliceLaws.{splicing}
use Rattle.replace.proofs.splice.fill_words.Goals as goal

pub write_pieces-requires : goal.write_pieces-requires
write_pieces-requires c = record { ready = c.requires.ready.0; marks_in_bounds = c.requires.marks_in_bounds }

pub returns-then-not-are_apart : goal.returns-then-not-are_apart
returns-then-not-are_apart c = record { value = c.write_pieces.ensures.value; out_after = c.write_pieces.ensures.out_after }

pub slice_bounds-set_slots-end : goal.slice_bounds-set_slots-end
slice_bounds-set_slots-end c = sym (used-first (job_plan c.args.job) c.requires.ready.0.tabled)

pub set_slots-requires : goal.set_slots-requires
set_slots-requires c = (rw (used-first (job_plan c.args.job) c.requires.ready.0.tabled) c.requires.ready.0.tabled.few, refl, refl)

pub slice_bounds-write_filled-end : goal.slice_bounds-write_filled-end
slice_bounds-write_filled-end c = sym c.set_slots.auto.cuts

pub slice_bounds-write_filled-end-2 : goal.slice_bounds-write_filled-end-2
slice_bounds-write_filled-end-2 c = sym c.set_slots.auto.falls

pub write_filled-requires : goal.write_filled-requires
write_filled-requires c = record {
  splices = splicing c.args.job.source.table.now.n _ _ _ _ _ _ _ _ c.requires.ready.0 c.requires.marks_in_bounds _ c.are_apart.ensures (not-no _ c.if-not-are_apart.false-raw);
  is-fill = c.requires.ready.1;
  slots = c.set_slots.ensures;
  cuts-long = c.set_slots.auto.cuts;
  falls-long = c.set_slots.auto.falls;
}

pub returns : goal.returns
returns c = record { value = c.write_filled.ensures.value; out_after = c.write_filled.ensures.out_after }
