use mathlib.Core.Bool.{true, false}
use Rattle.reader.proofs.TableLaws.{names-long, names-answer}
use Rattle.reader.proofs.lists.check_names.Goals as goal

pub returns-then-row-gt-WORDS : goal.returns-then-row-gt-WORDS
returns-then-row-gt-WORDS c = names-long _ c.if-row-gt-WORDS.true

pub returns-then-not-good_names : goal.returns-then-not-good_names
returns-then-not-good_names c = names-answer _ c.if-row-gt-WORDS.false false _ c.good_names.ensures c.if-not-good_names.true

pub returns : goal.returns
returns c = names-answer _ c.if-row-gt-WORDS.false true _ c.good_names.ensures c.if-not-good_names.false
