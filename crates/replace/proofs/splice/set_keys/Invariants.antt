use mathlib.Core.Path.{◌≡◌}
use Prim.Native.Nat.{ℕ, ◌%◌, ◌<◌}
use lib.ListN.{length, get_or}
use Rattle.replace.proofs.splice.set_keys.Given as goal

abbrev pub invariant-loop-word : goal.invariant-loop-word
invariant-loop-word l = ((j : ℕ) → j < l.word-index → get_or l.keys (get_or l.words j 0 % 64) 0 ≡ 1) × (get_or l.keys 64 0 ≡ 0) × (length l.keys ≡ 65)
