use Rattle.std.proofs.Common.{refl, arith}
use Rattle.shift.proofs.CheckedLaws.{refused}
use Rattle.named.proofs.SlotLaws.{sized-few, sized-more, sized-many}
use Rattle.named.proofs.CallLaws.{named-long}
use Rattle.tree.proofs.Pairs.{both}
use Rattle.named.proofs.named.to_indices.Goals as goal

pub named_sized-requires-clause-sized : goal.named_sized-requires-clause-sized
named_sized-requires-clause-sized c = sized-few _ _ (omega arith) (omega arith)

pub named_sized-requires-in-65-to-512-clause-sized : goal.named_sized-requires-in-65-to-512-clause-sized
named_sized-requires-in-65-to-512-clause-sized c = sized-more _ _ (omega arith) (omega arith)

pub named_sized-requires-in-513-to-2048-clause-sized : goal.named_sized-requires-in-513-to-2048-clause-sized
named_sized-requires-in-513-to-2048-clause-sized c = sized-many _ _ (omega arith) (omega arith) (omega arith)

pub named_sized-requires-in-2049-to-8192-clause-sized : goal.named_sized-requires-in-2049-to-8192-clause-sized
named_sized-requires-in-2049-to-8192-clause-sized c = sized-many _ _ (omega arith) (omega arith) (omega arith)

pub returns-in_default : goal.returns-in_default
returns-in_default c = both (λ v w. record { value = v; out_after = w }) (refused _ _ _ _ (named-long _ _ (omega arith)) refl)
