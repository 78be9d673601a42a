use Rattle.replace.proofs.LengthLaws.{longest-two}
use Rattle.replace.proofs.length.fit_work.Goals as goal

pub always_fit-requires : goal.always_fit-requires
always_fit-requires c = rw c.longest_part-longest.ensures (longest-two _ _ _)

pub always_fit-requires-then-not-always_fit : goal.always_fit-requires-then-not-always_fit
always_fit-requires-then-not-always_fit c = rw c.longest_part-longest.ensures (longest-two _ _ _)

pub returns-then-not-always_fit : goal.returns-then-not-always_fit
returns-then-not-always_fit c = rw (← c.longest_part-longest.ensures, ← c.left-words.ensures, ← c.min.ensures, ← c.always_fit.ensures, c.if-not-always_fit.true) c.always_fit-then-not-always_fit.ensures

pub returns-else-not-always_fit : goal.returns-else-not-always_fit
returns-else-not-always_fit c = rw (← c.longest_part-longest.ensures, ← c.left-words.ensures, ← c.min.ensures, ← c.always_fit.ensures, c.if-not-always_fit.false)
