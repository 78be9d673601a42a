use Rattle.broken.specs.Internal.Seeks.{next_due}
use Rattle.broken.proofs.DueLaws.{flag-none, flag-some}
use Rattle.broken.proofs.due.after_flag.Goals as goal

pub returns-then-flag-eq0 : goal.returns-then-flag-eq0
returns-then-flag-eq0 c = flag-none c.args.came _ _ _ _ c.decls_due.ensures c.if-flag-eq0.true

pub returns : goal.returns
unfolding next_due
returns c = flag-some c.args.came _ _ _ c.if-flag-eq0.false
