use native.Mathlib.Omega.{arith}
use Rattle.turns.proofs.TurnLaws.{read_none, read-over, read_more}
use Rattle.turns.proofs.state.State.after_read.Goals as goal
use Rattle.turns.proofs.state.State.after_read.Goals.{then-got-eq0-via-then-got-eq0, then-got-eq0-via-else-got-eq0+then-room-got}

pub returns-then-got-eq0 : goal.returns-then-got-eq0
returns-then-got-eq0 c =
    elim c.then-got-eq0.branch [
      | then-got-eq0-via-then-got-eq0 w ↦ read_none c.args.self c.args.input c.args.got w.if-got-eq0.true
      | then-got-eq0-via-else-got-eq0+then-room-got w ↦ read-over c.args.self c.args.input c.args.got (let h = w.if-room-got.true in let e = c.saturating_sub-room.ensures in omega arith)
    ]

pub returns : goal.returns
returns c = read_more c.args.self c.args.input c.args.got c.if-got-eq0.false (let h = c.if-room-got.false in let e = c.saturating_sub-room.ensures in omega arith)
