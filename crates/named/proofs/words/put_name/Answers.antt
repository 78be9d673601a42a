use native.Mathlib.Omega.{arith}
use Rattle.named.proofs.SlotLaws.{scope-length}
use Rattle.named.proofs.LeafLaws.{put-free, put-bound}
use Rattle.named.proofs.words.put_name.Goals as goal

pub level_of-level-requires : goal.level_of-level-requires
level_of-level-requires c = (c.requires.1, c.requires.2)

pub overflow_sub-made : goal.overflow_sub-made
overflow_sub-made c = let e = (put-bound _ _ _ _ c.args.made.now 0 (scope-length c.args.scope.now _) c.level_of-level.ensures c.if-level-eq0.false).1 in omega arith

pub returns-then-level-eq0 : goal.returns-then-level-eq0
returns-then-level-eq0 c = put-free _ _ _ _ _ c.level_of-level.ensures c.if-level-eq0.true

pub returns-else-level-eq0 : goal.returns-else-level-eq0
returns-else-level-eq0 c = (put-bound _ _ _ _ _ _ (scope-length c.args.scope.now _) c.level_of-level.ensures c.if-level-eq0.false).0
