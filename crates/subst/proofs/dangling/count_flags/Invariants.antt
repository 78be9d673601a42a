use Rattle.std.proofs.Common.{◌≡◌, ◌+◌, ◌≤◌, length, drop}
use Rattle.subst.specs.Internal.Flags.{selected}
use Rattle.subst.proofs.dangling.count_flags.Given as goal

abbrev pub invariant-loop-flag : goal.invariant-loop-flag
invariant-loop-flag l = (l.n + length (selected l.flag-index (drop l.flag-index l.flags)) ≡ length (selected 0 l.flags)) × (l.n ≤ l.flag-index)
