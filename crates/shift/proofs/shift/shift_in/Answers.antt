use Rattle.std.proofs.Common.{ap, ◌∙◌}
use Rattle.shift.specs.Internal.Items.{up_by, down_by}
use Rattle.shift.proofs.SignedLaws.{back}
use Rattle.shift.proofs.CheckedLaws.{refused-up, passed, checked-fresh}
use Rattle.shift.proofs.ShiftLaws.{shift-refused, shift-row}
use Rattle.tree.proofs.Pairs.{both}
use Rattle.tree.proofs.Residual.{exit-with}
use Rattle.shift.proofs.shift.shift_in.Goals as goal

pub returns-in_err-mark : goal.returns-in_err-mark
returns-in_err-mark c = both (λ v w. record { value = v; out_after = w }) (refused-up _ _ _ _ (exit-with c.from_residual.ensures.1) (shift-refused _ _ _ _ _ c.mark.ensures.value c.in_err-mark.was))

pub returns : goal.returns
returns c = both (λ v w. record { value = v; out_after = w }) (passed _ _ _ _ _ (shift-row _ c.args.offset _ _ _ c.requires.enough (checked-fresh _ _ _ _ c.requires _ _ c.mark.ensures.value c.in_ok-mark.was c.mark.ensures.marked) _ _ (c.up_by.ensures ∙ ap up_by (back c.args.offset c.ranges.offset)) (c.down_by.ensures ∙ ap down_by (back c.args.offset c.ranges.offset))) (c.shift_marked.ensures.value, c.shift_marked.ensures.out_after))
