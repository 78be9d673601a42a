use Rattle.std.proofs.Common.{◌∙◌}
use native.Mathlib.Nat.{add-zero}
use Rattle.shift.specs.Internal.Items.{store}
use Rattle.subst.specs.Internal.Flags.{flag_words}
use Rattle.subst.proofs.DanglingLaws.{put-place, put-out}
use Rattle.subst.proofs.dangling.put_flag.Goals as goal
use Rattle.subst.proofs.dangling.put_flag.Goals.{then-n-out, else-n-out}

pub returns-then-not-flag : goal.returns-then-not-flag
unfolding flag_words store
returns-then-not-flag c = record { value = rw (c.if-not-flag.true, add-zero); out_after = rw c.if-not-flag.true }

pub returns-clause-value : goal.returns-clause-value
unfolding flag_words
returns-clause-value c = rw c.if-not-flag.false

pub returns-clause-out_after : goal.returns-clause-out_after
returns-clause-out_after c = rw c.if-not-flag.false (elim c.if-n-out.branch [ then-n-out w ↦ w.out-is ∙ put-place _ _ _ | else-n-out w ↦ w.out-is ∙ put-out _ _ _ w.if-n-out.false ])
