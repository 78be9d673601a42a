use native.Mathlib.Omega.{arith}
use Rattle.broken.proofs.LeafLaws.{preds-first, leaf-no-room, leaf-test}
use Rattle.broken.proofs.seek.is_leaf_next.Goals as goal

pub returns-then-preds-gt0 : goal.returns-then-preds-gt0
returns-then-preds-gt0 c = preds-first _ _ _ _ _ _ _ c.if-preds-gt0.true

pub overflow_add-least_kids : goal.overflow_add-least_kids
overflow_add-least_kids c = omega arith

pub overflow_add-at : goal.overflow_add-at
overflow_add-at c = omega arith

pub returns-then-at-least_kids-ge-WORDS : goal.returns-then-at-least_kids-ge-WORDS
returns-then-at-least_kids-ge-WORDS c = leaf-no-room _ _ _ _ _ _ _ c.if-preds-gt0.false _ c.least_kids.ensures.value c.if-at-least_kids-ge-WORDS.true

pub returns : goal.returns
returns c = leaf-test _ _ _ _ _ _ _ c.if-preds-gt0.false _ c.least_kids.ensures.value c.if-at-least_kids-ge-WORDS.false _ c.is_leaf_tag.ensures
