use Rattle.shift.proofs.CheckedLaws.{passed}
use Rattle.one_point.proofs.PlaceLaws.{rest-same}
use Rattle.tree.proofs.Pairs.{both}
use Rattle.one_point.proofs.rest.put_named.Goals as goal

pub returns : goal.returns
returns c = both (λ v w. record { value = v; out_after = w }) (passed _ _ _ _ _ (rw c.one_filled-table.ensures (rest-same _ _ c.args.names.now c.args.p _ _ _ _ _ _ _)) (c.instantiate_partial.ensures.value, c.instantiate_partial.ensures.out_after))
