use Rattle.shift.proofs.CheckedLaws.{passed}
use Rattle.member.proofs.FillingLaws.{kept_same}
use Rattle.tree.proofs.Pairs.{both}
use Rattle.member.proofs.filling.fill_kept.Goals as goal

pub returns : goal.returns
returns c = both (λ v w. record { value = v; out_after = w }) (passed _ _ _ _ _ (kept_same c.args.kept.now c.args.j _ _ _ _ _ _) (c.instantiate_partial.ensures.value, c.instantiate_partial.ensures.out_after))
