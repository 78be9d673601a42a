use native.Mathlib.Omega.{arith}
use mathlib.Core.Path.{ap, sym, ◌∙◌}
use mathlib.Core.List.{◌++◌, append-nil}
use lib.ListN.{take}
use Rattle.member.proofs.FillingLaws.{keep-pass, keep-more, keep-end}
use Rattle.member.proofs.filling.keep_names.Goals as goal
use Rattle.member.proofs.filling.keep_names.Goals.{then-w-eq0, else-w-eq0}

pub loop-i-preserved : goal.loop-i-preserved
loop-i-preserved c =
    elim c.if-w-eq0.branch [
      | then-w-eq0 w ↦ (rw (w.p-is, w.out-is) (c.loop-i.invariant.0 ∙ keep-more _ _ _ c.loop-i-test.true c.requires.0 w.if-w-eq0.true c.loop-i.out c.loop-i.p (omega arith)), omega arith)
      | else-w-eq0 w ↦ (rw (w.p-is, w.out-is) (c.loop-i.invariant.0 ∙ ap (λ z. take c.loop-i.p c.loop-i.out ++ z) (keep-pass _ _ _ c.loop-i-test.true c.requires.0 w.if-w-eq0.false)), omega arith)
    ]

pub returns : goal.returns
returns c = record { upper_bound = omega arith; out_after = sym (c.loop-i.invariant.0 ∙ (ap (λ z. take c.loop-i.p c.loop-i.out ++ z) (keep-end _ _ _ c.loop-i-test.false) ∙ append-nil _)) }
