use mathlib.Core.Path.{◌≡◌, ◌∙◌}
use mathlib.Core.Bool.{false}
use lib.ListN.{length}
use native.Mathlib.Omega.{arith}
use Rattle.std.proofs.lemmas.Grind.{common_steps}
use Rattle.rounds.specs.Internal.Round.{joins_names, joins_notes, round_head, round_from, round_fits}
use Rattle.rounds.proofs.HeadLaws.{told_as, written}
use Rattle.rounds.proofs.rounds.round_head.Goals as goal
use Rattle.rounds.proofs.rounds.round_head.Goals.{else-joins-via-then-joins+else-first-op, else-joins-via-else-joins, else-joins-2-via-then-joins-2+then-clear+else-first-op-2, else-joins-2-via-then-joins-2+else-clear, else-joins-2-via-else-joins-2}

pub returns-then-head-lt-WORDS : goal.returns-then-head-lt-WORDS
unfolding round_fits
returns-then-head-lt-WORDS c = grind (arith, common_steps)

pub returns-then-first-op : goal.returns-then-first-op
unfolding round_fits round_head round_from joins_names joins_notes
returns-then-first-op c = told_as _ _ (grind (arith, written)) (grind (arith, written)) (grind (arith, written)) c.round_names.ensures

pub returns-then-first-op-2 : goal.returns-then-first-op-2
unfolding round_fits round_head round_from joins_names joins_notes
returns-then-first-op-2 c = told_as _ _ (grind (arith, written)) (grind (arith, written)) (grind (arith, written)) c.round_notes.ensures

pub returns-else-joins-2 : goal.returns-else-joins-2
unfolding round_fits round_head round_from joins_names joins_notes
returns-else-joins-2 c =
    let names : joins_names c.args.op c.args.joins c.args.body.now ≡ false =
    elim c.else-joins.branch [ else-joins-via-then-joins+else-first-op w ↦ grind arith | else-joins-via-else-joins w ↦ grind arith ] in
    let notes : joins_notes c.args.op c.args.joins c.args.clear c.args.body.now ≡ false =
    elim c.else-joins-2.branch [
      | else-joins-2-via-then-joins-2+then-clear+else-first-op-2 w ↦ grind arith
      | else-joins-2-via-then-joins-2+else-clear w ↦ grind arith
      | else-joins-2-via-else-joins-2 w ↦ grind arith
    ] in
    let here = written c.args.op c.args.keep.now c.args.decls.now c.write_noted-h.new.head c.write_noted-h.result (length c.args.head.now) (omega arith) c.if-head-lt-WORDS.false c.write_noted-h.ensures.head_after in
    (grind arith, record { inside = omega arith; front = here.is ∙ grind arith; follows = grind arith })
