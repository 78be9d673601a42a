use mathlib.Core.Path.{refl, ◌∙◌}
use Rattle.shift.proofs.CheckedLaws.{not_found, marked}
use Rattle.places.proofs.SidesLaws.{above-missing, above-marked}
use Rattle.places.proofs.sides.above_marked.Goals as goal

pub returns-then-not-mark_form : goal.returns-then-not-mark_form
returns-then-not-mark_form g c = above-missing _ _ (not_found _ _ c.mark_form.ensures.value c.if-not-mark_form.true)

pub returns : goal.returns
returns g c = c.all_in.ensures ∙ above-marked _ _ _ _ c.requires.1 (marked _ _ _ _ _ refl _ c.mark_form.ensures.value c.if-not-mark_form.false c.mark_form.ensures.marked)
