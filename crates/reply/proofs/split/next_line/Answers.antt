use borrow.Author.Tests.{lt-ltb, le-ltb}
use Rattle.reply.proofs.SplitLaws.{next-is}
use Rattle.reply.proofs.split.next_line.Goals as goal

pub returns-then-skipping : goal.returns-then-skipping
returns-then-skipping c = rw (next-is _ _ _ c.newline-n.ensures, lt-ltb _ _ c.if-n-bytes.true, c.if-skipping.true)

pub returns-then-n-bytes : goal.returns-then-n-bytes
returns-then-n-bytes c = rw (next-is _ _ _ c.newline-n.ensures, lt-ltb _ _ c.if-n-bytes.true, c.if-skipping.false)

pub returns-then-skipping-2 : goal.returns-then-skipping-2
returns-then-skipping-2 c = rw (next-is _ _ _ c.newline-n.ensures, le-ltb _ _ c.if-n-bytes.false, c.if-skipping-2.true)

pub returns-then-n-gt65535 : goal.returns-then-n-gt65535
returns-then-n-gt65535 c = rw (next-is _ _ _ c.newline-n.ensures, le-ltb _ _ c.if-n-bytes.false, c.if-skipping-2.false, lt-ltb _ _ c.if-n-gt65535.true)

pub returns : goal.returns
returns c = rw (next-is _ _ _ c.newline-n.ensures, le-ltb _ _ c.if-n-bytes.false, c.if-skipping-2.false, le-ltb _ _ c.if-n-gt65535.false)
