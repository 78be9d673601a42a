use Rattle.std.proofs.Common.{◌≡◌, refl, ◌∙◌, ◌+◌, ◌-◌, get_or, arith, length-set}
use Rattle.replace.proofs.PieceLaws.{filled-few, falls-none, falls-next}
use Rattle.prune.proofs.FallLaws.{table-next, table-made, no-falls}
use Rattle.prune.proofs.prune.falls_of.Goals as goal

pub loop-s-init : goal.loop-s-init
loop-s-init c = (no-falls c.args.words.now 33, falls-none c.args.words.now, omega arith, refl)

pub overflow_add-gone : goal.overflow_add-gone
overflow_add-gone c = let f = filled-few (get_or c.args.words.now (c.loop-s.s - 1) 0) in omega arith

pub loop-s-preserved : goal.loop-s-preserved
loop-s-preserved c =
    let b : c.loop-s.s - 1 + 1 ≡ c.loop-s.s = omega arith in
    let n = falls-next c.args.words.now (c.loop-s.s - 1) (omega arith) c.loop-s.gone _ (rw b c.loop-s.invariant.1) c.one_if-gone.ensures in (
      table-next c.args.words.now c.loop-s.falls (c.loop-s.s - 1) _ (omega arith) (λ i h g. c.loop-s.invariant.0 i (omega arith) g) n,
      n,
      (let f = filled-few (get_or c.args.words.now (c.loop-s.s - 1) 0) in omega arith),
      length-set c.loop-s.falls (c.loop-s.s - 1) _ ∙ c.loop-s.invariant.3,
    )

pub returns : goal.returns
returns c = record { made = table-made c.args.words.now _ c.loop-s.s c.loop-s-test.false c.loop-s.invariant.0; len = c.loop-s.invariant.3 }
