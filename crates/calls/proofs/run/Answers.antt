use lib.ListN.{length}
use Rattle.shift.proofs.SignedLaws.{back}
use Rattle.rules.specs.declared.command.Command.TheVariants.{Shift, Free, Bind, Fill, Prune, Point, Member, Named}
use Rattle.calls.proofs.CallLaws.{run-said}
use Rattle.tree.proofs.Pairs.{both}
use Rattle.calls.proofs.run.Goals as goal

pub returns-in-Shift : goal.returns-in-Shift
returns-in-Shift c = both (λ v w. record { value = v; out_after = w }) (run-said _ Shift c.in-Shift.is _ c.args.list.now c.args.row.now (length c.args.work.now) (length c.args.out.now) _ _ _ (rw (back c.args.offset c.ranges.offset) at c.shift_bound_identifiers.ensures.value, rw (back c.args.offset c.ranges.offset) at c.shift_bound_identifiers.ensures.out_after))

pub returns-in-Free : goal.returns-in-Free
returns-in-Free c = both (λ v w. record { value = v; out_after = w }) (run-said _ Free c.in-Free.is _ c.args.list.now c.args.row.now (length c.args.work.now) (length c.args.out.now) _ _ _ (c.substitute_free_idents.ensures.value, c.substitute_free_idents.ensures.out_after))

pub returns-in-Bind : goal.returns-in-Bind
returns-in-Bind c = both (λ v w. record { value = v; out_after = w }) (run-said _ Bind c.in-Bind.is _ c.args.list.now c.args.row.now (length c.args.work.now) (length c.args.out.now) _ _ _ (c.bind_idents.ensures.value, c.bind_idents.ensures.out_after))

pub returns-in-Fill : goal.returns-in-Fill
returns-in-Fill c = both (λ v w. record { value = v; out_after = w }) (run-said _ Fill c.in-Fill.is _ c.args.list.now c.args.row.now (length c.args.work.now) (length c.args.out.now) _ _ _ (c.instantiate.ensures.value, c.instantiate.ensures.out_after))

pub returns-in-Prune : goal.returns-in-Prune
returns-in-Prune c = both (λ v w. record { value = v; out_after = w }) (run-said _ Prune c.in-Prune.is _ c.args.list.now c.args.row.now (length c.args.work.now) (length c.args.out.now) _ _ _ (c.remove_unused_decls.ensures.value, c.remove_unused_decls.ensures.out_after))

pub returns-in-Point : goal.returns-in-Point
returns-in-Point c = both (λ v w. record { value = v; out_after = w }) (run-said _ Point c.in-Point.is _ c.args.list.now c.args.row.now (length c.args.work.now) (length c.args.out.now) _ _ _ (c.one_point_inference.ensures.value, c.one_point_inference.ensures.out_after))

pub returns-in-Member : goal.returns-in-Member
returns-in-Member c = both (λ v w. record { value = v; out_after = w }) (run-said _ Member c.in-Member.is _ c.args.list.now c.args.row.now (length c.args.work.now) (length c.args.out.now) _ _ _ (c.rewrite_in_compset.ensures.value, c.rewrite_in_compset.ensures.out_after))

pub returns-in-Named : goal.returns-in-Named
returns-in-Named c = both (λ v w. record { value = v; out_after = w }) (run-said _ Named c.in-Named.is _ c.args.list.now c.args.row.now (length c.args.work.now) (length c.args.out.now) _ _ _ (c.to_indices.ensures.value, c.to_indices.ensures.out_after))
