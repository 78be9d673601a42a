use mathlib.Core.Path.{sym, ◌∙◌}
use native.Mathlib.Omega.{arith}
use Rattle.replace.proofs.MarkLaws.{marked-front}
use Rattle.listed.proofs.ShallowLaws.{taken-shallow, taken-deep, refused-row}
use Rattle.tree.proofs.Pairs.{both}
use Rattle.listed.proofs.marks.mark_front.Goals as goal

pub returns-then-mark_shallow : goal.returns-then-mark_shallow
returns-then-mark_shallow c = both (λ v w. record { value = v; marked = w }) (taken-shallow _ c.requires.depth_bound _ _ c.requires.row_len_bound (sym c.mark_shallow.ensures.value ∙ c.if-mark_shallow.true) _ _ _ c.requires.row_in_bounds c.clear.ensures c.mark_shallow.ensures.marked)

pub returns-then-mark_form : goal.returns-then-mark_form
returns-then-mark_form c = record { value = taken-deep _ c.requires.depth_bound _ _ c.requires.row_len_bound (sym c.mark_shallow.ensures.value ∙ c.if-mark_shallow.false) _ c.mark_form.ensures.value c.if-mark_form.true; marked = marked-front _ _ _ _ _ (omega arith) c.clear-2.ensures c.mark_form.ensures.marked }

pub returns : goal.returns
returns c = record { value = refused-row _ c.requires.depth_bound _ _ c.requires.row_len_bound (sym c.mark_shallow.ensures.value ∙ c.if-mark_shallow.false) _ c.mark_form.ensures.value c.if-mark_form.false; marked = marked-front _ _ _ _ _ (omega arith) c.clear-2.ensures c.mark_form.ensures.marked }
