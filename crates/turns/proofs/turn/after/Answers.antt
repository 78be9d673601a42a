use Prim.Native.Nat.{◌+◌}
use mathlib.Core.Path.{◌≡◌}
use native.Mathlib.Omega.{arith}
use Rattle.turns.proofs.turn.after.Goals as goal

pub returns : goal.returns
returns c = let e : c.args.st.used ≡ c.args.st.used + 0 = omega arith in rw (← e)
