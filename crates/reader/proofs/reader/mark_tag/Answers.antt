use native.Mathlib.Numerals.{add-one}
use Rattle.reader.specs.Internal.Reads.{mark_tag}
use Rattle.form.proofs.LeafLaws.{leaf-tag, other_tag}
use Rattle.reader.proofs.reader.mark_tag.Goals as goal

pub returns-then-tag-eq0 : goal.returns-then-tag-eq0
unfolding mark_tag
returns-then-tag-eq0 c = rw c.if-tag-eq0.true

pub returns-then-tag-gt2 : goal.returns-then-tag-gt2
unfolding mark_tag
returns-then-tag-gt2 c = rw (other_tag _ c.if-tag-gt2.true)

pub returns : goal.returns
unfolding mark_tag
returns c = rw (leaf-tag _ c.if-tag-eq0.false c.if-tag-gt2.false, ← add-one) c.put_mark.ensures
