use native.Mathlib.Omega.{arith}
use Rattle.one_point.proofs.WriteLaws.{words-moved}
use Rattle.one_point.proofs.writes.move_down.Goals as goal

pub returns : goal.returns
returns c =
    let m = words-moved c.args.pos c.args.end c.args.out.now (omega arith) (omega arith) in
    rw c.copy_within.ensures.after (record { wrote = m.0; out_unchanged = m.1 })
