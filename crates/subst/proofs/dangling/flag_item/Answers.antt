use Rattle.std.proofs.Common.{sym}
use lib.Seq.{set_out}
use Rattle.subst.specs.Internal.Flags.{flag_all}
use Rattle.subst.proofs.DanglingLaws.{index-at, index-bound, index-other, index-plain}
use Rattle.subst.proofs.dangling.flag_item.Goals as goal
use Rattle.subst.proofs.dangling.flag_item.Goals.{else-t-eq-BOUND_IDENT-via-then-t-eq-BOUND_IDENT+else-k-v, else-t-eq-BOUND_IDENT-via-else-t-eq-BOUND_IDENT}

pub returns-then-j-flags : goal.returns-then-j-flags
unfolding flag_all
returns-then-j-flags c = rw (index-at _ _ _ _ c.in-Ident.is c.if-t-eq-BOUND_IDENT.true c.if-k-v.true)

pub returns-else-j-flags : goal.returns-else-j-flags
unfolding flag_all
returns-else-j-flags c = rw (index-at _ _ _ _ c.in-Ident.is c.if-t-eq-BOUND_IDENT.true c.if-k-v.true) (sym (set_out _ _ _ c.if-j-flags.false))

pub returns-else-t-eq-BOUND_IDENT : goal.returns-else-t-eq-BOUND_IDENT
unfolding flag_all
returns-else-t-eq-BOUND_IDENT c = elim c.else-t-eq-BOUND_IDENT.branch [
  | else-t-eq-BOUND_IDENT-via-then-t-eq-BOUND_IDENT+else-k-v w ↦ rw (index-bound _ _ _ _ c.in-Ident.is w.if-t-eq-BOUND_IDENT.true w.if-k-v.false)
  | else-t-eq-BOUND_IDENT-via-else-t-eq-BOUND_IDENT w ↦ rw (index-other _ _ _ _ c.in-Ident.is w.if-t-eq-BOUND_IDENT.false)
]

pub returns-in_default : goal.returns-in_default
unfolding flag_all
returns-in_default c = rw (index-plain _ _ c.in_default.is)
