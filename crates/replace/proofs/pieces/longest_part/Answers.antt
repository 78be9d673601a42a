use mathlib.Core.Path.{◌≡◌, ap, sym, ◌∙◌}
use Prim.Native.Nat.{ℕ}
use native.Mathlib.Omega.{arith}
use Rattle.replace.specs.Internal.Pieces.{longest}
use Rattle.replace.proofs.LengthLaws.{larger-is, longest-none, longest-next}
use Rattle.replace.proofs.pieces.longest_part.Goals as goal

pub loop-i-init : goal.loop-i-init
loop-i-init c = longest-none _ _

pub loop-i-preserved : goal.loop-i-preserved
loop-i-preserved c = c.max-size.ensures ∙ larger-is c.loop-i.size c.saturating_sub.result ∙ (rw (c.saturating_sub.ensures, c.loop-i.invariant) (sym (longest-next _ _ _)))

pub returns : goal.returns
returns c = let e : c.loop-i.i ≡ c.args.table.now.n = omega arith in c.loop-i.invariant ∙ ap (λ (k : ℕ). longest c.args.table.now.starts c.args.table.now.ends k) e
