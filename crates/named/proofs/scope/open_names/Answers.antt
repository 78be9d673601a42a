use mathlib.Core.Path.{◌≡◌, refl, sym, ◌∙◌}
use Prim.Native.Nat.{◌+◌}
use native.Mathlib.Omega.{arith}
use Rattle.named.proofs.SlotLaws.{sized-at}
use Rattle.named.proofs.ScopeLaws.{open-next, open_none, held-next}
use Rattle.named.proofs.scope.open_names.Goals as goal

pub loop-i-init : goal.loop-i-init
loop-i-init c = let z : c.args.under + 0 ≡ c.args.under = omega arith in (rw z refl, refl, rw z c.requires.1)

pub open_name-requires : goal.open_name-requires
open_name-requires c = (sized-at _ _ _ _ c.loop-i.invariant.1 (omega arith) c.requires.0, c.loop-i.invariant.2)

pub loop-i-preserved : goal.loop-i-preserved
loop-i-preserved c = (c.loop-i.invariant.0 ∙ open-next _ _ _ _ _ c.loop-i-test.true c.open_name.ensures, c.open_name.auto.scope ∙ c.loop-i.invariant.1, held-next _ _ _ _ _ (sized-at _ _ _ _ c.loop-i.invariant.1 (omega arith) c.requires.0) c.loop-i.invariant.2 c.open_name.ensures)

pub returns : goal.returns
returns c = sym (c.loop-i.invariant.0 ∙ open_none _ _ _ _ c.loop-i-test.false)
