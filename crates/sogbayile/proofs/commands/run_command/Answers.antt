-- Made by crates/sogbayile/commands.py.
use lib.ListN.{length}
use Rattle.shift.proofs.SignedLaws.{back}
use Rattle.rules.specs.declared.command.Command.TheVariants.{Shift, Free, Bind, Fill, Prune, Point, Member, Named}
use Rattle.sogbayile.proofs.RunLaws.{run-coded}
use Rattle.tree.proofs.Pairs.{both}
use Rattle.sogbayile.proofs.commands.run_command.Goals as goal

pub returns-in-Shift : goal.returns-in-Shift
returns-in-Shift c = both (λ v w. record { value = v; out_after = w }) (run-coded _ Shift c.in-Shift.is _ c.args.list.now c.args.row.now (length c.args.work.now) (length c.args.out.now) _ _ _ (rw (back c.args.offset c.ranges.offset) at c.sgb_shift.ensures.value, rw (back c.args.offset c.ranges.offset) at c.sgb_shift.ensures.out_after))

pub returns-in-Free : goal.returns-in-Free
returns-in-Free c = both (λ v w. record { value = v; out_after = w }) (run-coded _ Free c.in-Free.is _ c.args.list.now c.args.row.now (length c.args.work.now) (length c.args.out.now) _ _ _ (c.sgb_free.ensures.value, c.sgb_free.ensures.out_after))

pub returns-in-Bind : goal.returns-in-Bind
returns-in-Bind c = both (λ v w. record { value = v; out_after = w }) (run-coded _ Bind c.in-Bind.is _ c.args.list.now c.args.row.now (length c.args.work.now) (length c.args.out.now) _ _ _ (c.sgb_bind.ensures.value, c.sgb_bind.ensures.out_after))

pub returns-in-Fill : goal.returns-in-Fill
returns-in-Fill c = both (λ v w. record { value = v; out_after = w }) (run-coded _ Fill c.in-Fill.is _ c.args.list.now c.args.row.now (length c.args.work.now) (length c.args.out.now) _ _ _ (c.sgb_fill.ensures.value, c.sgb_fill.ensures.out_after))

pub returns-in-Prune : goal.returns-in-Prune
returns-in-Prune c = both (λ v w. record { value = v; out_after = w }) (run-coded _ Prune c.in-Prune.is _ c.args.list.now c.args.row.now (length c.args.work.now) (length c.args.out.now) _ _ _ (c.sgb_prune.ensures.value, c.sgb_prune.ensures.out_after))

pub returns-in-Point : goal.returns-in-Point
returns-in-Point c = both (λ v w. record { value = v; out_after = w }) (run-coded _ Point c.in-Point.is _ c.args.list.now c.args.row.now (length c.args.work.now) (length c.args.out.now) _ _ _ (c.sgb_point.ensures.value, c.sgb_point.ensures.out_after))

pub returns-in-Member : goal.returns-in-Member
returns-in-Member c = both (λ v w. record { value = v; out_after = w }) (run-coded _ Member c.in-Member.is _ c.args.list.now c.args.row.now (length c.args.work.now) (length c.args.out.now) _ _ _ (c.sgb_member.ensures.value, c.sgb_member.ensures.out_after))

pub returns-in-Named : goal.returns-in-Named
returns-in-Named c = both (λ v w. record { value = v; out_after = w }) (run-coded _ Named c.in-Named.is _ c.args.list.now c.args.row.now (length c.args.work.now) (length c.args.out.now) _ _ _ (c.sgb_named.ensures.value, c.sgb_named.ensures.out_after))
