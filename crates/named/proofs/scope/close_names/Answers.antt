use mathlib.Core.Path.{refl, sym, ◌∙◌}
use native.Mathlib.Omega.{arith}
use native.Mathlib.Nat.{le_refl}
use borrow.Author.Rules.{rules}
use lib.ListN.{length-set}
use Rattle.named.proofs.SlotLaws.{sized-at}
use Rattle.named.proofs.ScopeLaws.{close_more, close-none, pop-cell, held-last, held-closed}
use Rattle.named.proofs.scope.close_names.Goals as goal

pub loop-l-init : goal.loop-l-init
loop-l-init c = (refl, refl, c.requires.1)

pub overflow_cast-cell : goal.overflow_cast-cell
overflow_cast-cell c = let l = pop-cell _ _ _ (sized-at _ _ _ _ c.loop-l.invariant.1 (le_refl _) c.requires.0) (omega arith) (held-last _ _ _ c.loop-l-test.true c.loop-l.invariant.2) in search rules

pub offset_bounds-scope-cell : goal.offset_bounds-scope-cell
offset_bounds-scope-cell c = let l = pop-cell _ _ _ (sized-at _ _ _ _ c.loop-l.invariant.1 (le_refl _) c.requires.0) (omega arith) (held-last _ _ _ c.loop-l-test.true c.loop-l.invariant.2) in search rules

pub bounds-scope-cell : goal.bounds-scope-cell
bounds-scope-cell c = let l = pop-cell _ _ _ (sized-at _ _ _ _ c.loop-l.invariant.1 (le_refl _) c.requires.0) (omega arith) (held-last _ _ _ c.loop-l-test.true c.loop-l.invariant.2) in omega arith

pub loop-l-preserved : goal.loop-l-preserved
loop-l-preserved c = (c.loop-l.invariant.0 ∙ close_more _ _ _ c.loop-l-test.true, length-set c.loop-l.scope _ _ ∙ c.loop-l.invariant.1, held-closed _ _ _ c.loop-l-test.true c.loop-l.invariant.2)

pub returns : goal.returns
returns c = sym (c.loop-l.invariant.0 ∙ close-none _ _ _ c.loop-l-test.false)
