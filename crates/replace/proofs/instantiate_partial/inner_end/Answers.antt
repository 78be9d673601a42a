use mathlib.Core.Path.{ap, sym, ◌∙◌}
use Prim.Native.Nat.{◌+◌}
use Rattle.replace.proofs.PartialLaws.{inner-stay, inner-alone, inner-other, inner-joins}
use Rattle.replace.proofs.instantiate_partial.inner_end.Goals as goal

pub returns-then-stay-gt0 : goal.returns-then-stay-gt0
returns-then-stay-gt0 c = inner-stay _ _ _ _ c.if-stay-gt0.true

pub returns-then-front-eq0 : goal.returns-then-front-eq0
returns-then-front-eq0 c = inner-alone _ _ _ _ c.if-front-eq0.true

pub returns-then-word_at-tag : goal.returns-then-word_at-tag
returns-then-word_at-tag c = inner-other _ _ _ _ (λ e. c.if-word_at-tag.true (c.word_at.ensures ∙ e))

pub returns : goal.returns
returns c = ap (λ z. 2 + z) c.word_at-2.ensures ∙ inner-joins _ _ _ _ c.if-stay-gt0.false c.if-front-eq0.false (sym c.word_at.ensures ∙ c.if-word_at-tag.false)
