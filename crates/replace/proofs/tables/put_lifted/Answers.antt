use native.Mathlib.Omega.{arith}
use Prim.Native.Nat.{◌+◌}
use borrow.Author.Tests.{le-leb, lt-leb}
use lib.ListN.{length}
use Rattle.replace.proofs.tables.put_lifted.Goals as goal

pub returns-then-out-row : goal.returns-then-out-row
returns-then-out-row c = rw (lt-leb (c.args.at + length c.args.row.now) (length c.args.out.now) (omega arith))

pub returns-then-out-row-2 : goal.returns-then-out-row-2
returns-then-out-row-2 c = rw (lt-leb (c.args.at + length c.args.row.now) (length c.args.out.now) (omega arith))

pub returns : goal.returns
returns c = rw (le-leb (c.args.at + length c.args.row.now) (length c.args.out.now) (omega arith)) c.write_part.ensures
