use mathlib.Core.Path.{◌≡◌, refl, ◌∙◌}
use mathlib.Core.Bool.{true}
use Prim.Native.Nat.{◌+◌, ◌-◌}
use native.Mathlib.Omega.{arith}
use lib.ListN.{length, get_or, take, drop, replicate}
use Rattle.std.proofs.lemmas.Grind.{common_steps}
use Rattle.rounds.specs.Internal.Round.{can_join, join_fits}
use Rattle.rounds.proofs.HeadLaws.{names-told, names-plain, names-flagged, names-count, names-taken, flags-are, join_all}
use Rattle.rounds.proofs.rounds.round_names.Goals as goal

pub returns-then-not-can_join : goal.returns-then-not-can_join
unfolding join_fits
returns-then-not-can_join c = grind (arith, common_steps)

pub returns-then-tag-op : goal.returns-then-tag-op
returns-then-tag-op c =
    let join : can_join c.args.h (get_or c.args.body.now 1 0) (length c.args.body.now) ≡ true = grind arith in
    names-told c.args.op c.args.h c.args.head.now c.args.body.now (omega arith) join _
    (names-plain c.args.op (get_or c.args.head.now 0 0) c.args.body.now c.if-tag-op.true c.word_at-k.result c.word_at-k.ensures) c.word_at-k.result c.word_at-k.ensures _ _ c.put_inner.ensures

pub returns : goal.returns
returns c =
    let join : can_join c.args.h (get_or c.args.body.now 1 0) (length c.args.body.now) ≡ true = grind arith in
    let few = names-count c.args.op (get_or c.args.head.now 0 0) c.args.body.now c.word_at-k.result (let a = join_all c.args.h _ _ join in omega arith) in
    let flags = flags-are (take (2 + c.word_at-k.result - 2) (drop 2 c.args.body.now)) (replicate 66 0) few refl c.flag_names-e.result _ c.flag_names-e.ensures.value c.flag_names-e.ensures.out_after in
    let inner = flags ∙ names-flagged c.args.op (get_or c.args.head.now 0 0) c.args.body.now c.if-tag-op.false _ (names-taken c.args.op (get_or c.args.head.now 0 0) c.args.body.now c.word_at-k.result c.word_at-k.ensures) in
    names-told c.args.op c.args.h c.args.head.now c.args.body.now (omega arith) join _ inner c.word_at-k.result c.word_at-k.ensures _ _ c.put_inner-2.ensures
