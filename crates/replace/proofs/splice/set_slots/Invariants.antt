use mathlib.Core.Path.{◌≡◌}
use Prim.Native.Nat.{ℕ, ◌+◌, ◌-◌, ◌≤◌, ◌<◌}
use lib.ListN.{length, get_or, drop}
use Rattle.replace.specs.Internal.Pieces.{filled_words}
use Rattle.replace.proofs.splice.set_slots.Given as goal

abbrev pub invariant-loop-s : goal.invariant-loop-s
invariant-loop-s l = ((i : ℕ) → l.s < i → i ≤ length l.words → get_or l.cuts i 0 ≡ get_or l.words (i - 1) 0) × ((i : ℕ) → l.s < i → i ≤ length l.words → get_or l.falls i 0 ≡ filled_words (drop i l.words)) × (get_or l.cuts 0 0 ≡ 0) × (get_or l.cuts (length l.words + 1) 0 ≡ 0) × (get_or l.falls (length l.words + 1) 0 ≡ 0) × (l.inside ≡ filled_words (drop l.s l.words)) × (l.inside ≤ length l.words - l.s) × (l.s ≤ length l.words) × (length l.cuts ≡ 34) × (length l.falls ≡ 34)

abbrev pub decreases-loop-s : goal.decreases-loop-s
decreases-loop-s l = l.s
