use mathlib.Core.Path.{◌≡◌}
use mathlib.Core.Bool.{true}
use native.Mathlib.Omega.{arith}
use lib.ListN.{length, get_or}
use Rattle.std.proofs.lemmas.Grind.{common_steps}
use Rattle.rounds.specs.Internal.Round.{can_join, join_fits}
use Rattle.rounds.proofs.HeadLaws.{notes-told, count-few, end-in}
use Rattle.rounds.proofs.rounds.round_notes.Goals as goal

pub returns-then-not-can_join : goal.returns-then-not-can_join
unfolding join_fits
returns-then-not-can_join c = grind (arith, common_steps)

pub overflow_add-m : goal.overflow_add-m
overflow_add-m c =
    let join : can_join c.args.h (get_or c.args.body.now 1 0) (length c.args.body.now) ≡ true = grind arith in
    let few = count-few c.args.op c.args.h c.args.keep.now c.args.decls.now c.args.head.now c.args.body.now c.requires.op_bound.1 c.requires.op_bound.2 c.requires.head_value join in
    omega arith

pub put_inner-requires : goal.put_inner-requires
put_inner-requires c =
    let join : can_join c.args.h (get_or c.args.body.now 1 0) (length c.args.body.now) ≡ true = grind arith in
    let end = end-in c.args.op c.args.h c.args.keep.now c.args.decls.now c.args.head.now c.args.body.now c.requires.op_bound.1 c.requires.op_bound.2 c.requires.head_value join c.write_flagged-e.result _ c.write_flagged-e.ensures.value c.write_flagged-e.ensures.head_after in
    (end.0, end.1, omega arith)

pub returns : goal.returns
returns c =
    let join : can_join c.args.h (get_or c.args.body.now 1 0) (length c.args.body.now) ≡ true = grind arith in
    notes-told c.args.op c.args.h c.args.keep.now c.args.decls.now c.args.head.now c.args.body.now c.requires.op_bound.1 c.requires.op_bound.2 c.requires.head_value join c.write_flagged-e.result _ c.write_flagged-e.ensures.value c.write_flagged-e.ensures.head_after
    c.args.notes.now c.word_at-k.result _ c.word_at-k.ensures c.decls_end-end.ensures _ _ c.put_inner.ensures
