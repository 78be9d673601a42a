use Rattle.named.proofs.SlotLaws.{slot-few, slot-more, slot-many}
use Rattle.tree.proofs.Pairs.{both}
use Rattle.named.proofs.scope.slot_of.Goals as goal

pub returns-then-n-lt2048 : goal.returns-then-n-lt2048
returns-then-n-lt2048 c = both (λ v w. record { value = v; upper_bound = w }) (slot-few _ c.if-n-lt2048.true _ c.requires)

pub returns-then-n-lt8192 : goal.returns-then-n-lt8192
returns-then-n-lt8192 c = both (λ v w. record { value = v; upper_bound = w }) (slot-more _ c.if-n-lt2048.false c.if-n-lt8192.true _)

pub returns : goal.returns
returns c = both (λ v w. record { value = v; upper_bound = w }) (slot-many _ c.if-n-lt8192.false _)
