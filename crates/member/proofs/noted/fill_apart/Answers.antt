use Rattle.shift.proofs.CheckedLaws.{passed}
use Rattle.member.proofs.NotedSteps.{round-apart}
use Rattle.tree.proofs.Pairs.{both}
use Rattle.member.proofs.noted.fill_apart.Goals as goal

pub returns : goal.returns
returns c = both (λ v w. record { value = v; out_after = w }) (passed _ _ _ _ _ (round-apart _ _ _ _ _ _ _ c.requires.2 _ c.write_noted-h.ensures.head_after) (c.fill_places.ensures.value, c.fill_places.ensures.out_after))
