use lib.ListN.{length}
use Rattle.shift.proofs.SignedLaws.{back}
use Rattle.sogbayile.proofs.RunLaws.{none-coded, number-coded}
use Rattle.tree.proofs.Pairs.{both}
use Rattle.sogbayile.proofs.run.sgb_run.Goals as goal

pub returns-in_default : goal.returns-in_default
returns-in_default c = both (λ v w. record { value = v; out_after = w }) (none-coded _ c.of_number.ensures c.args.offset c.args.list.now c.args.row.now (length c.args.work.now) (length c.args.out.now) _ _ c.in_default.is c.refusal_code.ensures)

pub returns : goal.returns
returns c = both (λ v w. record { value = v; out_after = w }) (number-coded _ c.of_number.ensures c.args.offset c.args.list.now c.args.row.now (length c.args.work.now) (length c.args.out.now) _ _ _ c.in-Some.is _ (rw (back c.args.offset c.ranges.offset) at c.run_command.ensures.value, rw (back c.args.offset c.ranges.offset) at c.run_command.ensures.out_after))
