use mathlib.Core.Path.{◌≡◌}
use Prim.Native.Nat.{◌+◌, ◌≤◌}
use lib.ListN.{length, drop}
use Rattle.shift.specs.Internal.Items.{store}
use Rattle.decls.specs.Internal.Noted.{kept_parts}
use Rattle.decls.proofs.parts.write_parts.Given as goal

abbrev pub invariant-loop-w : goal.invariant-loop-w
invariant-loop-w l = (store l.initial.head 2 (kept_parts l.full l.row l.words 2) ≡ store l.head l.q (kept_parts l.full l.row (drop l.w-index l.words) l.p)) × (2 + length (kept_parts l.full l.row l.words 2) ≡ l.q + length (kept_parts l.full l.row (drop l.w-index l.words) l.p)) × (l.p ≤ length l.row)
