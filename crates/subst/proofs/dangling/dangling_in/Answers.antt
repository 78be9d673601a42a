use Rattle.shift.proofs.CheckedLaws.{refused-up, passed, checked-fresh}
use Rattle.subst.proofs.DanglingLaws.{dangling-refused, all_small, dangling-row}
use Rattle.tree.proofs.Pairs.{both}
use Rattle.tree.proofs.Residual.{exit-with}
use Rattle.subst.proofs.dangling.dangling_in.Goals as goal

pub returns-in_err-mark : goal.returns-in_err-mark
returns-in_err-mark c = both (λ v w. record { value = v; out_after = w }) (refused-up _ _ _ _ (exit-with c.from_residual.ensures.1) (dangling-refused _ _ _ _ c.mark.ensures.value c.in_err-mark.was))

pub set_marked-requires : goal.set_marked-requires
set_marked-requires c = all_small _ _ _ 0 c.requires.enough (checked-fresh _ _ _ _ c.requires _ _ c.mark.ensures.value c.in_ok-mark.was c.mark.ensures.marked)

pub returns : goal.returns
returns c = both (λ v w. record { value = v; out_after = w }) (passed _ _ _ _ _ (dangling-row _ _ _ _ c.requires.enough (checked-fresh _ _ _ _ c.requires _ _ c.mark.ensures.value c.in_ok-mark.was c.mark.ensures.marked)) (c.set_marked.ensures.value, c.set_marked.ensures.out_after))
