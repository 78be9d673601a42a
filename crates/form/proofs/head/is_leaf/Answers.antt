use mathlib.Core.Path.{refl, sym}
use Rattle.form.proofs.LeafLaws.{leaf-tag, other_tag, leaf-deep, leaf-gone, leaf-short, leaf-here}
use Rattle.form.proofs.head.is_leaf.Goals as goal

pub returns-then-depth-eq0 : goal.returns-then-depth-eq0
returns-then-depth-eq0 c = sym (leaf-deep _ _ c.if-depth-eq0.true)

pub returns-then-row-at : goal.returns-then-row-at
returns-then-row-at c = sym (leaf-gone _ _ _ c.if-row-at.true)

pub returns-then-row-at-2 : goal.returns-then-row-at-2
returns-then-row-at-2 c = sym (leaf-short _ _ _ c.if-row-at.false c.if-row-at-2.true)

pub returns-then-row-at-eq0 : goal.returns-then-row-at-eq0
returns-then-row-at-eq0 c = rw (leaf-here _ _ _ c.if-depth-eq0.false c.if-row-at-2.false, c.if-row-at-eq0.true) refl

pub returns-then-row-at-gt-BOUND_IDENT : goal.returns-then-row-at-gt-BOUND_IDENT
returns-then-row-at-gt-BOUND_IDENT c = rw (leaf-here _ _ _ c.if-depth-eq0.false c.if-row-at-2.false, other_tag _ c.if-row-at-gt-BOUND_IDENT.true) refl

pub returns : goal.returns
returns c = rw (leaf-here _ _ _ c.if-depth-eq0.false c.if-row-at-2.false, leaf-tag _ c.if-row-at-eq0.false c.if-row-at-gt-BOUND_IDENT.false) refl
