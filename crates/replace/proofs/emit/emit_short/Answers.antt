use mathlib.Core.Path.{refl}
use lib.ListN.{length}
use Rattle.shift.proofs.CheckedLaws.{refused, passed}
use Rattle.replace.proofs.BuildLaws.{short-many, short-fits}
use Rattle.tree.proofs.Pairs.{both}
use Rattle.replace.proofs.emit.emit_short.Goals as goal

pub returns-then-words-gt-WORDS : goal.returns-then-words-gt-WORDS
returns-then-words-gt-WORDS c = both (λ v w. record { value = v; out_after = w }) (refused _ _ _ _ (short-many c.args.words.now (length c.args.out.now) c.if-words-gt-WORDS.true) refl)

pub returns : goal.returns
returns c = both (λ v w. record { value = v; out_after = w }) (passed _ _ _ _ _ (short-fits _ _ c.if-words-gt-WORDS.false) (c.emit_fitted.ensures.value, c.emit_fitted.ensures.out_after))
