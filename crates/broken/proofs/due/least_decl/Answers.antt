use Rattle.broken.proofs.DueLaws.{least-flag, least-typed}
use Rattle.broken.proofs.due.least_decl.Goals as goal

pub returns-then-flag-eq0 : goal.returns-then-flag-eq0
returns-then-flag-eq0 c = record { value = least-flag c.args.came _ _ _ _ _ c.if-flag-eq0.true c.least_decls.ensures.value; upper_bound = c.least_decls.ensures.upper_bound }

pub returns : goal.returns
returns c = record { value = least-typed c.args.came _ _ _ _ _ c.if-flag-eq0.false c.least_note.ensures.value; upper_bound = c.least_note.ensures.upper_bound }
