use Rattle.line.specs.Scan.{note}
use Rattle.line.proofs.ScanLaws.{digit-is}
use Rattle.line.proofs.turn.word_mark.Goals as goal

pub returns-then-is_ascii_digit : goal.returns-then-is_ascii_digit
unfolding note
returns-then-is_ascii_digit c = rw (digit-is c.args.byte c.is_ascii_digit.ensures.value _ c.if-is_ascii_digit.true)

pub returns : goal.returns
unfolding note
returns c = rw (digit-is c.args.byte c.is_ascii_digit.ensures.value _ c.if-is_ascii_digit.false)
