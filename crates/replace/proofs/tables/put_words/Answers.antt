use native.Mathlib.Omega.{arith}
use Prim.Native.Nat.{◌+◌}
use borrow.Author.Tests.{le-leb, lt-leb}
use lib.ListN.{length}
use Rattle.replace.proofs.tables.put_words.Goals as goal

pub returns-then-out-words : goal.returns-then-out-words
returns-then-out-words c = rw (lt-leb (c.args.at + length c.args.words.now) (length c.args.out.now) (omega arith))

pub returns-then-out-words-2 : goal.returns-then-out-words-2
returns-then-out-words-2 c = rw (lt-leb (c.args.at + length c.args.words.now) (length c.args.out.now) (omega arith))

pub returns : goal.returns
returns c = rw (le-leb (c.args.at + length c.args.words.now) (length c.args.out.now) (omega arith)) c.copy.ensures
