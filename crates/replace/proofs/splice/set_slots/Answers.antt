use mathlib.Core.Path.{◌≡◌, refl, sym, ap, ◌∙◌}
use native.Mathlib.Omega.{arith}
use Prim.Native.Nat.{◌+◌, ◌-◌}
use lib.ListN.{length, get_or, drop, length-set}
use lib.Seq.{get_or-set_same, get_or-set_other}
use Rattle.replace.specs.Internal.Pieces.{filled_words}
use Rattle.replace.proofs.PieceLaws.{filled-few, falls-none, falls-next}
use Rattle.rules.proofs.ReplicateLaws.{replicate-at}
use Rattle.replace.proofs.SpliceSlots.{table_step}
use Rattle.replace.proofs.splice.set_slots.Goals as goal

pub loop-s-init : goal.loop-s-init
loop-s-init c = (
  (λ i l h. absurd (omega arith)),
  (λ i l h. absurd (omega arith)),
  rw c.requires.1 refl,
  rw c.requires.1 (replicate-at 34 (length c.args.words.now + 1) 0),
  rw c.requires.2 (replicate-at 34 (length c.args.words.now + 1) 0),
  falls-none c.args.words.now,
  omega arith,
  omega arith,
  rw c.requires.1 refl,
  rw c.requires.2 refl,
)

pub overflow_sub-cuts : goal.overflow_sub-cuts
overflow_sub-cuts c = omega arith

pub bounds-words-s : goal.bounds-words-s
bounds-words-s c = omega arith

pub offset_bounds-cuts-s : goal.offset_bounds-cuts-s
offset_bounds-cuts-s c = omega arith

pub bounds-cuts-s : goal.bounds-cuts-s
bounds-cuts-s c = omega arith

pub offset_bounds-falls-s : goal.offset_bounds-falls-s
offset_bounds-falls-s c = omega arith

pub bounds-falls-s : goal.bounds-falls-s
bounds-falls-s c = omega arith

pub overflow_sub-s : goal.overflow_sub-s
overflow_sub-s c = omega arith

pub bounds-words-s-in-loop-s : goal.bounds-words-s-in-loop-s
bounds-words-s-in-loop-s c = omega arith

pub overflow_add-inside : goal.overflow_add-inside
overflow_add-inside c = let e = filled-few (get_or c.args.words.now (c.loop-s.s - 1) 0) in omega arith

pub overflow_sub-s-in-loop-s : goal.overflow_sub-s-in-loop-s
overflow_sub-s-in-loop-s c = omega arith

pub loop-s-smaller : goal.loop-s-smaller
loop-s-smaller c = omega arith

pub loop-s-preserved : goal.loop-s-preserved
loop-s-preserved c = let b : c.loop-s.s - 1 + 1 ≡ c.loop-s.s = omega arith in (
  table_step (length c.args.words.now) c.loop-s.s _ c.loop-s.cuts (λ i. get_or c.args.words.now (i - 1) 0) (omega arith) c.loop-s.invariant.0 refl,
  table_step (length c.args.words.now) c.loop-s.s _ c.loop-s.falls (λ i. filled_words (drop i c.args.words.now)) (omega arith) c.loop-s.invariant.1 c.loop-s.invariant.5,
  get_or-set_other c.loop-s.cuts c.loop-s.s 0 _ 0 (λ z. omega arith) ∙ c.loop-s.invariant.2,
  get_or-set_other c.loop-s.cuts c.loop-s.s (length c.args.words.now + 1) _ 0 (λ z. omega arith) ∙ c.loop-s.invariant.3,
  get_or-set_other c.loop-s.falls c.loop-s.s (length c.args.words.now + 1) _ 0 (λ z. omega arith) ∙ c.loop-s.invariant.4,
  falls-next c.args.words.now (c.loop-s.s - 1) (omega arith) c.loop-s.inside _ (rw b c.loop-s.invariant.5) c.one_if-inside.ensures,
  (let e = filled-few (get_or c.args.words.now (c.loop-s.s - 1) 0) in omega arith),
  omega arith,
  length-set c.loop-s.cuts c.loop-s.s _ ∙ c.loop-s.invariant.8,
  length-set c.loop-s.falls c.loop-s.s _ ∙ c.loop-s.invariant.9,
)

pub bounds-falls-0 : goal.bounds-falls-0
bounds-falls-0 c = omega arith

pub shape_of-cuts : goal.shape_of-cuts
shape_of-cuts c = c.loop-s.invariant.8 ∙ sym (ap length c.requires.1)

pub shape_of-falls : goal.shape_of-falls
shape_of-falls c = length-set c.loop-s.falls 0 c.args.gone ∙ (c.loop-s.invariant.9 ∙ sym (ap length c.requires.2))

pub returns : goal.returns
returns c = record { outer-cut = c.loop-s.invariant.2; outer-fall = get_or-set_same c.loop-s.falls 0 c.args.gone 0 (omega arith); cut = λ i l h. c.loop-s.invariant.0 i (omega arith) h; fall = λ i l h. get_or-set_other c.loop-s.falls 0 i c.args.gone 0 (λ e. omega arith) ∙ c.loop-s.invariant.1 i (omega arith) h; other_cut = c.loop-s.invariant.3; other-fall = get_or-set_other c.loop-s.falls 0 (length c.args.words.now + 1) c.args.gone 0 (λ e. omega arith) ∙ c.loop-s.invariant.4 }
