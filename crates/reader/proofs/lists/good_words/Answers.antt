use borrow.Author.Tests.{le-leb, lt-leb}
use Rattle.reader.specs.Internal.Reads.{good_words}
use Rattle.reader.proofs.lists.good_words.Goals as goal

pub returns-then-n-le-LIMIT : goal.returns-then-n-le-LIMIT
unfolding good_words
returns-then-n-le-LIMIT c = rw (le-leb _ _ c.if-n-le-LIMIT.true) c.are_distinct.ensures

pub returns-else-n-le-LIMIT : goal.returns-else-n-le-LIMIT
unfolding good_words
returns-else-n-le-LIMIT c = rw (lt-leb _ _ c.if-n-le-LIMIT.false)
