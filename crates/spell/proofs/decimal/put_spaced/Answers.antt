use mathlib.Core.Path.{◌≡◌, ◌∙◌}
use Prim.Native.Nat.{◌+◌}
use native.Mathlib.Omega.{arith}
use lib.ListN.{get_or}
use Rattle.spell.proofs.WriteLaws.{wrote-end, decimal-few, spaced-more, spaced-none}
use Rattle.spell.proofs.decimal.put_spaced.Goals as goal

pub put_decimal-q-requires : goal.put_decimal-q-requires
put_decimal-q-requires c = let e : c.put_byte-q.result ≡ c.loop-word.q + 1 = wrote-end _ _ _ _ _ c.put_byte-q.ensures in omega (arith, c.loop-word.invariant.room)

pub loop-word-preserved : goal.loop-word-preserved
loop-word-preserved c =
    let e : c.put_byte-q.result ≡ c.loop-word.q + 1 = wrote-end _ _ _ _ _ c.put_byte-q.ensures in
    let f = wrote-end _ _ _ _ _ c.put_decimal-q.ensures in
    let g = decimal-few (get_or c.args.words.now c.loop-word.word-index 0) in
    record {
      after = λ b r w. c.loop-word.invariant.after b r (spaced-more _ _ _ _ _ _ _ _ c.loop-word-test.true c.put_byte-q.ensures c.put_decimal-q.ensures b r w);
      room = omega arith;
      same_length = c.put_decimal-q.auto.out ∙ c.put_byte-q.auto.out ∙ c.loop-word.invariant.same_length;
    }

pub returns : goal.returns
returns c = c.loop-word.invariant.after _ _ (spaced-none c.args.words.now _ _ _ c.loop-word-test.false)
