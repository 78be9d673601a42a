use mathlib.Core.Path.{◌≡◌, ap, sym, ◌∙◌}
use mathlib.Core.Bool.{not}
use Prim.Native.Nat.{◌+◌, ◌-◌}
use native.Mathlib.Omega.{arith}
use Rattle.member.specs.Internal.Noted.{notes_clear}
use Rattle.member.proofs.NotedSteps.{zeros, ones-front}
use Rattle.member.proofs.noted.are_clear.Goals as goal

pub returns : goal.returns
unfolding notes_clear
returns c =
    let count : c.args.j + 1 - 1 ≡ c.args.j = omega arith in
    ap not c.contains.ensures.value ∙ rw (count, c.clear_used.ensures, ones-front (c.args.n + 1) 33 (omega arith), c.decls_end-end.ensures) (sym (zeros _))
