use mathlib.Core.Path.{refl, sym}
use Rattle.replace.specs.Internal.Job.{job_plan}
use Rattle.shift.proofs.ItemLaws.{not-no}
use Rattle.replace.proofs.PieceLaws.{used-first}
use Rattle.replace.proofs.SpliceLaws.{splicing}
use Rattle.replace.proofs.splice.free_words.Goals as goal

pub write_pieces-requires : goal.write_pieces-requires
write_pieces-requires c = record { ready = c.requires.ready.0; marks_in_bounds = c.requires.marks_in_bounds }

pub returns-then-not-are_apart : goal.returns-then-not-are_apart
returns-then-not-are_apart c = record { value = c.write_pieces.ensures.value; out_after = c.write_pieces.ensures.out_after }

pub slice_bounds-set_keys-end : goal.slice_bounds-set_keys-end
slice_bounds-set_keys-end c = sym (used-first (job_plan c.args.job) c.requires.ready.0.tabled)

pub set_keys-requires : goal.set_keys-requires
set_keys-requires c = refl

pub slice_bounds-write_freed-end : goal.slice_bounds-write_freed-end
slice_bounds-write_freed-end c = sym c.set_keys.auto.keys

pub write_freed-requires : goal.write_freed-requires
write_freed-requires c = record {
  splices = splicing 0 _ _ _ _ _ _ _ _ c.requires.ready.0 c.requires.marks_in_bounds _ c.are_apart.ensures (not-no _ c.if-not-are_apart.false-raw);
  is_free = c.requires.ready.1;
  known = c.set_keys.ensures;
  keys-long = c.set_keys.auto.keys;
}

pub returns : goal.returns
returns c = record { value = c.write_freed.ensures.value; out_after = c.write_freed.ensures.out_after }
