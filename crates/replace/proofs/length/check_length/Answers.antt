use mathlib.Core.Path.{sym, ◌∙◌}
use native.Mathlib.Omega.{arith}
use Rattle.replace.proofs.LengthLaws.{longest-two, always-short, length-ok, length-many, length-room}
use Rattle.replace.proofs.PieceLaws.{capped-high, capped-low}
use Rattle.replace.proofs.length.check_length.Goals.{then-body-gt-WORDS-via-then-body-gt-WORDS, then-body-gt-WORDS-via-else-body-gt-WORDS+then-body-head}
use Rattle.replace.proofs.length.check_length.Goals as goal

pub always_fit-requires : goal.always_fit-requires
always_fit-requires c = rw c.longest_part-longest.ensures (longest-two _ _ _)

pub returns-then-always_fit : goal.returns-then-always_fit
returns-then-always_fit c = always-short c.args.job c.args.head c.args.room _ _ c.left.ensures c.longest_part-longest.ensures (rw c.min.ensures at (sym c.always_fit.ensures ∙ c.if-always_fit.true))

pub returns-then-body-gt-WORDS : goal.returns-then-body-gt-WORDS
returns-then-body-gt-WORDS c = elim c.then-body-gt-WORDS.branch [ then-body-gt-WORDS-via-then-body-gt-WORDS w ↦ let h = capped-high _ _ c.words_needed-body.ensures w.if-body-gt-WORDS.true in length-many _ _ (omega arith) | then-body-gt-WORDS-via-else-body-gt-WORDS+then-body-head w ↦ let e = capped-low _ _ c.words_needed-body.ensures w.if-body-gt-WORDS.false in let l = w.if-body-head.true in length-many _ _ (omega arith) ]

pub returns-then-room-head : goal.returns-then-room-head
returns-then-room-head c = let e = capped-low _ _ c.words_needed-body.ensures c.if-body-gt-WORDS.false in length-room _ _ (omega arith) (omega arith)

pub returns : goal.returns
returns c = let e = capped-low _ _ c.words_needed-body.ensures c.if-body-gt-WORDS.false in length-ok _ _ (omega arith) (omega arith)
