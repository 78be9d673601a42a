use mathlib.Core.Path.{◌≡◌}
use mathlib.Core.List.{List}
use Prim.Native.Nat.{ℕ, ◌+◌, ◌*◌, ◌≤◌}
use lib.ListN.{length, drop}
use Rattle.spell.specs.Spell.{spaced}
use Rattle.spell.specs.Internal.Writes.{Wrote}
use Rattle.spell.proofs.decimal.put_spaced.Given as goal

abbrev pub invariant-loop-word : goal.invariant-loop-word
invariant-loop-word l = record {
  after : (b : List ℕ) (r : ℕ) → Wrote l.q (spaced (drop l.word-index l.words)) l.out b r → Wrote l.o (spaced l.words) l.initial.out b r;
  room : l.q ≤ l.o + 11 * l.word-index;
  same_length : length l.out ≡ length l.initial.out;
}
