use borrow.Author.Tests.{eq-eqb, ne_eqb, not-true, not-false}
use Rattle.line.specs.Scan.{note}
use Rattle.line.proofs.turn.place_mark.Goals as goal
use Rattle.line.proofs.turn.place_mark.Goals.{then-not-places-via-then-not-places, then-not-places-via-else-not-places+then-depth-ne2}

pub returns-then-not-places : goal.returns-then-not-places
unfolding note
returns-then-not-places c =
    elim c.then-not-places.branch [
      | then-not-places-via-then-not-places w ↦ rw (not-true c.args.places w.if-not-places.true-raw)
      | then-not-places-via-else-not-places+then-depth-ne2 w ↦ rw (not-false c.args.places w.if-not-places.false-raw, ne_eqb _ _ w.if-depth-ne2.true)
    ]

pub returns-then-byte-eq93 : goal.returns-then-byte-eq93
unfolding note
returns-then-byte-eq93 c = rw (not-false c.args.places c.if-not-places.false-raw, eq-eqb _ _ c.if-depth-ne2.false, eq-eqb _ _ c.if-byte-eq93.true)

pub returns : goal.returns
unfolding note
returns c = rw (not-false c.args.places c.if-not-places.false-raw, eq-eqb _ _ c.if-depth-ne2.false, ne_eqb _ _ c.if-byte-eq93.false)
