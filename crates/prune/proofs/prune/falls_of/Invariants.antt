use Rattle.std.proofs.Common.{◌≡◌, ℕ, ◌-◌, ◌≤◌, length, get_or, drop}
use Rattle.replace.specs.Internal.Pieces.{filled_words}
use Rattle.prune.proofs.prune.falls_of.Given as goal

abbrev pub invariant-loop-s : goal.invariant-loop-s
invariant-loop-s l = ((i : ℕ) → l.s ≤ i → i ≤ length l.words → get_or l.falls i 0 ≡ filled_words (drop i l.words)) × (l.gone ≡ filled_words (drop l.s l.words)) × (l.gone ≤ length l.words - l.s) × (length l.falls ≡ 33)
