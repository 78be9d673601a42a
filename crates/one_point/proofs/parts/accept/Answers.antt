use mathlib.Core.Path.{sym, ◌∙◌}
use native.Mathlib.Omega.{arith}
use borrow.Author.Tests.{lt-ltb, le-ltb}
use Rattle.one_point.specs.Internal.Parts.{accept_words}
use Rattle.one_point.proofs.AcceptLaws.{rule-within, above_in}
use Rattle.one_point.proofs.parts.accept.Goals as goal

pub returns-in_err-part : goal.returns-in_err-part
unfolding accept_words
returns-in_err-part c = rw (c.from_residual.ensures, sym c.match_replacement.ensures ∙ c.in_err-part.was)

pub returns-then-n-part : goal.returns-then-n-part
unfolding accept_words
returns-then-n-part c = rw (sym c.match_replacement.ensures ∙ c.in_ok-part.was, le-ltb _ _ c.if-n-part.true)

pub returns-then-not-is_above : goal.returns-then-not-is_above
unfolding accept_words
returns-then-not-is_above c = rw (sym c.match_replacement.ensures ∙ c.in_ok-part.was, lt-ltb _ _ c.if-n-part.false, sym (above_in _ _ _ _ c.if-n-part.false c.requires.0 c.is_above.ensures) ∙ c.if-not-is_above.true)

pub returns : goal.returns
unfolding accept_words
returns c = rw (sym c.match_replacement.ensures ∙ c.in_ok-part.was, lt-ltb _ _ c.if-n-part.false, sym (above_in _ _ _ _ c.if-n-part.false c.requires.0 c.is_above.ensures) ∙ c.if-not-is_above.false)

pub offset_bounds-row-part : goal.offset_bounds-row-part
unfolding accept_words
offset_bounds-row-part c = let h = rule-within _ _ c.requires.2 _ (sym c.match_replacement.ensures ∙ c.in_ok-part.was) in omega arith

pub slice_bounds-is_above-count : goal.slice_bounds-is_above-count
unfolding accept_words
slice_bounds-is_above-count c = let h = rule-within _ _ c.requires.2 _ (sym c.match_replacement.ensures ∙ c.in_ok-part.was) in omega arith

pub slice_bounds-is_above-start : goal.slice_bounds-is_above-start
unfolding accept_words
slice_bounds-is_above-start c = let h = rule-within _ _ c.requires.2 _ (sym c.match_replacement.ensures ∙ c.in_ok-part.was) in omega arith

pub slice_bounds-is_above-end : goal.slice_bounds-is_above-end
unfolding accept_words
slice_bounds-is_above-end c = let h = rule-within _ _ c.requires.2 _ (sym c.match_replacement.ensures ∙ c.in_ok-part.was) in omega arith
