use mathlib.Core.Path.{refl}
use mathlib.Core.Bool.{true, false}
use Rattle.reader.specs.Internal.Reads.{empty_table}
use Rattle.reader.proofs.TableLaws.{pairs-long, pairs-none, pairs-answer}
use Rattle.reader.proofs.lists.check_pairs.Goals as goal

pub returns-then-row-gt-WORDS : goal.returns-then-row-gt-WORDS
returns-then-row-gt-WORDS c = pairs-long _ c.if-row-gt-WORDS.true

pub returns-in_default : goal.returns-in_default
unfolding empty_table
returns-in_default c = pairs-none _ c.if-row-gt-WORDS.false _ _ _ _ (rw c.in_default.is at c.read_entries.ensures) refl _ c.broken_list.ensures

pub returns-then-not-good_words : goal.returns-then-not-good_words
unfolding empty_table
returns-then-not-good_words c = pairs-answer _ c.if-row-gt-WORDS.false _ _ _ _ (rw c.in-Some.is at c.read_entries.ensures) refl false _ c.good_words.ensures c.if-not-good_words.true

pub returns : goal.returns
unfolding empty_table
returns c = pairs-answer _ c.if-row-gt-WORDS.false _ _ _ _ (rw c.in-Some.is at c.read_entries.ensures) refl true _ c.good_words.ensures c.if-not-good_words.false
