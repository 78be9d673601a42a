use native.Mathlib.Omega.{arith}
use Rattle.line.proofs.LineLaws.{from_first, head-none, head_few, head-here, head-later, begun, not-begun}
use Rattle.line.proofs.head.read_head.Goals as goal

pub loop-command-init : goal.loop-command-init
loop-command-init c = from_first _

pub returns-in_err-command : goal.returns-in_err-command
returns-in_err-command c = rw c.from_residual.ensures (head-none _ _ c.loop-command.invariant c.of_number.ensures c.in_err-command.was)

pub returns-then-starts_with : goal.returns-then-starts_with
returns-then-starts_with c =
    head-here _ _ c.loop-command.invariant c.of_number.ensures _ c.in_ok-command.was _ (begun _ _ _ _ c.head-word.ensures c.starts_with.ensures.value c.if-starts_with.true)

pub overflow_add-n : goal.overflow_add-n
overflow_add-n c = let h = head_few _ _ c.loop-command.invariant c.of_number.ensures _ c.in_ok-command.was in omega arith

pub loop-command-smaller : goal.loop-command-smaller
loop-command-smaller c = let h = head_few _ _ c.loop-command.invariant c.of_number.ensures _ c.in_ok-command.was in omega arith

pub loop-command-preserved : goal.loop-command-preserved
loop-command-preserved c =
    head-later _ _ c.loop-command.invariant c.of_number.ensures _ c.in_ok-command.was (not-begun _ _ _ _ c.head-word.ensures c.starts_with.ensures.value c.if-starts_with.false)
