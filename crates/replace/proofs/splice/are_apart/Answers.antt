use mathlib.Core.Path.{refl}
use native.Mathlib.Omega.{arith}
use borrow.Author.Tests.{le-leb, lt-leb, lt-ltb, le-ltb}
use lib.ListN.{length}
use Rattle.replace.proofs.SpliceLaws.{pairs-more, pairs_end}
use Rattle.replace.proofs.splice.are_apart.Goals.{then-row-from-via-then-row-from, then-row-from-via-else-row-from+then-marks-row}
use Rattle.replace.proofs.splice.are_apart.Goals as goal

pub returns-then-row-from : goal.returns-then-row-from
returns-then-row-from c = elim c.then-row-from.branch [ then-row-from-via-then-row-from w ↦ rw (le-ltb c.args.from (length c.args.row.now) w.if-row-from.true) refl | then-row-from-via-else-row-from+then-marks-row w ↦ rw (lt-ltb c.args.from (length c.args.row.now) w.if-row-from.false, lt-leb (length c.args.row.now) (length c.args.marks.now) w.if-marks-row.true) refl ]

pub loop-i-init : goal.loop-i-init
loop-i-init c = (refl, c.if-row-from.false)

pub bounds-marks-i : goal.bounds-marks-i
bounds-marks-i c = omega arith

pub bounds-marks-i-in-loop-i : goal.bounds-marks-i-in-loop-i
bounds-marks-i-in-loop-i c = omega arith

pub loop-i-smaller : goal.loop-i-smaller
loop-i-smaller c = omega arith

pub loop-i-preserved : goal.loop-i-preserved
loop-i-preserved c = (rw c.pair_ok-apart.ensures (pairs-more _ c.args.row.now c.args.marks.now _ _ _ c.loop-i.invariant.0 c.loop-i-test.true (omega arith)), c.loop-i-test.true)

pub returns : goal.returns
returns c = rw (lt-ltb c.args.from (length c.args.row.now) c.if-row-from.false, le-leb (length c.args.row.now) (length c.args.marks.now) c.if-marks-row.false) (pairs_end _ c.args.row.now c.args.marks.now _ _ _ c.loop-i.invariant.0 c.loop-i.invariant.1 c.loop-i-test.false (omega arith))
