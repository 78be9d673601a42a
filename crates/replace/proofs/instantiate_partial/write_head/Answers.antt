use native.Mathlib.Omega.{arith}
use mathlib.Core.Path.{refl, ◌∙◌}
use lib.ListN.{length-set}
use Rattle.replace.proofs.PartialLaws.{no-head, a-head}
use Rattle.replace.proofs.instantiate_partial.write_head.Goals as goal

pub returns-then-c-eq2 : goal.returns-then-c-eq2
returns-then-c-eq2 c = record { upper_bound = omega arith; head_after = no-head c.args.tag _ _ _ c.args.head.now _ _ _ _ _ _ c.copy.ensures c.copy-2.ensures c.copy-3.ensures refl refl refl c.if-c-eq2.true }

pub bounds-head-1 : goal.bounds-head-1
bounds-head-1 c = let l = length-set c.copy-3.new.out 0 c.args.tag in omega arith

pub shape_of-head : goal.shape_of-head
shape_of-head c = simp length-set (c.copy-3.auto.out ∙ (c.copy-2.auto.out ∙ c.copy.auto.out))

pub returns : goal.returns
returns c = record { upper_bound = omega arith; head_after = a-head c.args.tag _ _ _ c.args.head.now _ _ _ _ _ _ c.copy.ensures c.copy-2.ensures c.copy-3.ensures refl refl refl c.requires.0 c.if-c-eq2.false }
