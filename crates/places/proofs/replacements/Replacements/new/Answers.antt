use mathlib.Core.Path.{ap, ◌∙◌}
use borrow.Author.Tests.{le-leb, lt-leb}
use Rattle.std.specs.Prelude.{Err}
use Rattle.form.specs.declared.answer.Refusal.TheVariants.{TooManyPlaces}
use Rattle.places.specs.Places.{new_result, or_kept}
use Rattle.places.proofs.replacements.Replacements.new.Goals as goal

pub returns-then-n-gt-LIMIT : goal.returns-then-n-gt-LIMIT
unfolding new_result
returns-then-n-gt-LIMIT c = rw (lt-leb _ _ c.if-n-gt-LIMIT.true) (c.refused.ensures ∙ ap (λ p. or_kept p (Err TooManyPlaces)) c.free.ensures)

pub returns : goal.returns
unfolding new_result
returns c = rw (le-leb _ _ c.if-n-gt-LIMIT.false, c.free-2.ensures)
