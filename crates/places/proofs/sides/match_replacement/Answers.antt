use mathlib.Core.Path.{sym, ◌∙◌}
use borrow.Author.Tests.{lt-ltb, le-ltb}
use Rattle.places.specs.Internal.Sides.{replacement_words}
use Rattle.places.proofs.sides.match_replacement.Goals as goal
use Rattle.places.proofs.sides.match_replacement.Goals.{in_default-index_at-via-in-Some-index_at+else-i-j, in_default-index_at-via-in_default-index_at}

pub returns-in_err-i : goal.returns-in_err-i
unfolding replacement_words
returns-in_err-i c = rw (c.from_residual.ensures, sym c.index_at.ensures ∙ c.in_default.is, sym c.index_at-in_default.ensures ∙ c.in_err-i.was)

pub returns-in_default : goal.returns-in_default
unfolding replacement_words
returns-in_default c = rw (c.right_for.ensures, sym c.index_at.ensures ∙ c.in_default.is, sym c.index_at-in_default.ensures ∙ c.in_ok-i.was)

pub returns-in-Some-index_at : goal.returns-in-Some-index_at
unfolding replacement_words
returns-in-Some-index_at c = rw (c.right_for-in-Some-index_at.ensures, sym c.index_at.ensures ∙ c.in-Some.is, sym c.index_at-2.ensures ∙ c.in-Some-index_at.is, lt-ltb _ _ c.if-i-j.true)

pub returns-in_default-index_at : goal.returns-in_default-index_at
unfolding replacement_words
returns-in_default-index_at c =
    rw (c.left_for.ensures, sym c.index_at.ensures ∙ c.in-Some.is)
    (elim c.in_default-index_at.branch [
      | in_default-index_at-via-in-Some-index_at+else-i-j w ↦ rw (sym c.index_at-2.ensures ∙ w.in-Some-index_at.is, le-ltb _ _ w.if-i-j.false)
      | in_default-index_at-via-in_default-index_at w ↦ rw (sym c.index_at-2.ensures ∙ w.in_default-index_at.is)
    ])
