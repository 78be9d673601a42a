use mathlib.Core.Path.{refl}
use native.Mathlib.Omega.{arith}
use borrow.Author.Tests.{lt-ltb, le-ltb}
use lib.ListN.{length, length-set}
use Rattle.replace.proofs.splice.write_last.Goals as goal

pub bounds-out-p : goal.bounds-out-p
bounds-out-p c = omega arith

pub shape_of-out-then-i-row : goal.shape_of-out-then-i-row
shape_of-out-then-i-row c = length-set c.args.out.now c.args.p c.args.word

pub returns-then-i-row : goal.returns-then-i-row
returns-then-i-row c = record { value = omega arith; out_after = rw (lt-ltb c.args.i (length c.args.row.now) c.if-i-row.true) refl }

pub returns : goal.returns
returns c = record { value = omega arith; out_after = rw (le-ltb c.args.i (length c.args.row.now) c.if-i-row.false) refl }
