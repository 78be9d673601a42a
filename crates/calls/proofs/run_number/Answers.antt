use Rattle.std.proofs.Common.{ap, ◌∙◌}
use Rattle.std.specs.Result.{result_ok}
use lib.ListN.{length}
use Rattle.shift.proofs.SignedLaws.{back}
use Rattle.calls.proofs.CallLaws.{no-command, number-none, number-said}
use Rattle.tree.proofs.Pairs.{both}
use Rattle.tree.proofs.Residual.{exit-with}
use Rattle.calls.proofs.run_number.Goals as goal

pub returns-in_err-command : goal.returns-in_err-command
returns-in_err-command c = both (λ v w. record { value = v; out_after = w }) (rw (exit-with c.from_residual.ensures.1, no-command _ _ _ c.ok_or.ensures.value c.in_err-command.was) (number-none _ c.of_number.ensures c.args.offset c.args.list.now c.args.row.now (length c.args.work.now) (length c.args.out.now) (c.ok_or.ensures.ok_part ∙ ap result_ok c.in_err-command.was) _))

pub returns : goal.returns
returns c = both (λ v w. record { value = v; out_after = w }) (number-said _ c.of_number.ensures c.args.offset c.args.list.now c.args.row.now (length c.args.work.now) (length c.args.out.now) _ (c.ok_or.ensures.ok_part ∙ ap result_ok c.in_ok-command.was) _ _ _ (rw (back c.args.offset c.ranges.offset) at c.run.ensures.value, rw (back c.args.offset c.ranges.offset) at c.run.ensures.out_after))
