use mathlib.Core.Path.{refl, sym, ◌∙◌}
use Rattle.reader.proofs.TableLaws.{distinct-over, distinct-twice, distinct-on, distinct-end}
use Rattle.reader.proofs.lists.are_distinct.Goals as goal

pub loop-i-init : goal.loop-i-init
loop-i-init c = refl

pub returns-then-name-gt-NAME : goal.returns-then-name-gt-NAME
returns-then-name-gt-NAME c = sym (c.loop-i.invariant ∙ distinct-over _ _ c.loop-i-test.true c.if-name-gt-NAME.true)

pub returns-then-contains : goal.returns-then-contains
returns-then-contains c = sym (c.loop-i.invariant ∙ distinct-twice _ _ c.loop-i-test.true c.if-name-gt-NAME.false _ c.contains.ensures.value c.if-contains.true)

pub loop-i-preserved : goal.loop-i-preserved
loop-i-preserved c = c.loop-i.invariant ∙ distinct-on _ _ c.loop-i-test.true c.if-name-gt-NAME.false _ c.contains.ensures.value c.if-contains.false

pub returns : goal.returns
returns c = sym (c.loop-i.invariant ∙ distinct-end _ _ c.loop-i-test.false)
