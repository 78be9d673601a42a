use mathlib.Core.Path.{refl, sym, ap, ◌∙◌}
use native.Mathlib.Omega.{arith}
use Prim.Native.Nat.{◌%◌}
use lib.ListN.{length, get_or, length-set}
use lib.Seq.{get_or-set_other}
use Rattle.replace.proofs.SpliceSlots.{key_more}
use Rattle.replace.proofs.splice.set_keys.Goals as goal

pub loop-word-init : goal.loop-word-init
loop-word-init c = ((λ j l. absurd (omega arith)), rw c.requires refl, rw c.requires refl)

pub loop-word-preserved : goal.loop-word-preserved
loop-word-preserved c = (
  key_more c.args.words.now c.loop-word.keys c.loop-word.word-index c.loop-word.invariant.0 (omega arith),
  get_or-set_other c.loop-word.keys (get_or c.args.words.now c.loop-word.word-index 0 % 64) 64 1 0 (λ e. omega arith) ∙ c.loop-word.invariant.1,
  length-set c.loop-word.keys (get_or c.args.words.now c.loop-word.word-index 0 % 64) 1 ∙ c.loop-word.invariant.2,
)

pub shape_of-keys : goal.shape_of-keys
shape_of-keys c = c.loop-word.invariant.2 ∙ sym (ap length c.requires)

pub returns : goal.returns
returns c = record { has = λ j l. c.loop-word.invariant.0 j (omega arith); other = c.loop-word.invariant.1 }
